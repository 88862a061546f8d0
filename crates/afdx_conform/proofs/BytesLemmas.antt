-- What bytes are found by.
use Rattle.std.proofs.Common.{◌≡◌, ℕ, ◌-◌, Bool, true, false, List, ◌++◌, take, drop, length, refl, sym, ap, ◌∙◌, arith}
use Rattle.std.proofs.lemmas.Bool.{and_parts}
use Rattle.std.proofs.lemmas.List.{length-append, take-append-drop, take_at}
use Rattle.std.proofs.lemmas.Slice.Eq.{bytes_eq-Decides}
use Rattle.std.specs.Int.{w32, to_le_bytes}
use Rattle.std.specs.Prelude.{if◌then◌else◌, ◌||◌, nat_le}
use Rattle.std.specs.Str.{bytes_eq}
use Rattle.afdx_frame.specs.Sealing.{is_sealed, sealed, sealed_wrongly, sequence_of}
use Rattle.afdx_frame.specs.Seals.{is_right, whole}
use Rattle.afdx_frame.specs.declared.seals.Seal.{Seal}
use Rattle.afdx_frame.specs.declared.seals.Seal.TheVariants.{Right, Wrong, Missing}
use Rattle.afdx_conform.specs.KnownBytes.{are_wrong, front_of, key_of, seal_of}

-- ---- all but the last four bytes

front-at : (message tail : List ℕ) → length tail ≡ 4 → message ≡ front_of (message ++ tail)
front-at message tail four =
    let long = length-append message tail in
    let at : length (message ++ tail) - 4 ≡ length message = omega (arith, long, four) in
    sym (ap (λ (n : ℕ). take n (message ++ tail)) at ∙ take_at message tail (length message) refl)

front-right : (message : List ℕ) → message ≡ front_of (whole Right message)
unfolding whole
front-right message = front-at message (to_le_bytes w32 (sequence_of message)) refl

front-wrong : (message : List ℕ) → message ≡ front_of (whole Wrong message)
unfolding whole
front-wrong message = front-at message (to_le_bytes w32 (0xffff_ffff - sequence_of message)) refl

or-true : (b : Bool) → (b || true) ≡ true
or-true true = refl
or-true false = refl

wrong-is : (message : List ℕ) → are_wrong (whole Wrong message) ≡ true
unfolding whole
wrong-is message = (bytes_eq-Decides (sealed_wrongly message) (sealed_wrongly (front_of (sealed_wrongly message)))).1
    (ap (λ (l : List ℕ). sealed_wrongly l) (front-at message (to_le_bytes w32 (0xffff_ffff - sequence_of message))
    refl))

missing-is : (message : List ℕ) → whole Missing message ≡ message
unfolding whole
missing-is message = refl

-- ---- by how the message is sealed

pub key-of-right : (s : Seal) (m a : List ℕ) → s ≡ Right → a ≡ m → is_sealed (whole s m) ≡ is_right s
    → a ≡ key_of (whole s m)
unfolding key_of
key-of-right s m a is same un =
    same ∙ front-right m ∙ ap (λ (t : Seal). front_of (whole t m)) (sym is)
    ∙ sym (ap (λ (b : Bool). if b || are_wrong (whole s m) then front_of (whole s m) else whole s m)
    (un ∙ ap (λ (t : Seal). is_right t) is))

pub key-of-wrong : (s : Seal) (m a : List ℕ) → s ≡ Wrong → a ≡ m → a ≡ key_of (whole s m)
unfolding key_of
key-of-wrong s m a is same =
    let wrong : are_wrong (whole s m) ≡ true = ap (λ (t : Seal). are_wrong (whole t m)) is ∙ wrong-is m in
    same ∙ front-wrong m ∙ ap (λ (t : Seal). front_of (whole t m)) (sym is)
    ∙ sym (ap (λ (b : Bool). if is_sealed (whole s m) || b then front_of (whole s m) else whole s m) wrong
    ∙ ap (λ (b : Bool). if b then front_of (whole s m) else whole s m) (or-true (is_sealed (whole s m))))

by-missing : (m : List ℕ) → is_sealed m ≡ false → (if are_wrong m then front_of m else m) ≡ key_of m
unfolding key_of
by-missing m un = sym (ap (λ (b : Bool). if b || are_wrong m then front_of m else m) un)

pub key-of-missing : (s : Seal) (m a out : List ℕ) → s ≡ Missing → a ≡ m → is_sealed (whole s m) ≡ is_right s
    → out ≡ (if are_wrong a then front_of a else a) → out ≡ key_of (whole s m)
key-of-missing s m a out is same so e =
    let whole-is : whole s m ≡ m = ap (λ (t : Seal). whole t m) is ∙ missing-is m in
    let un : is_sealed m ≡ false = sym (ap (λ (l : List ℕ). is_sealed l) whole-is) ∙ so
    ∙ ap (λ (t : Seal). is_right t) is in
    e ∙ ap (λ (l : List ℕ). if are_wrong l then front_of l else l) same
    ∙ by-missing m un ∙ ap (λ (l : List ℕ). key_of l) (sym whole-is)

-- ---- how bytes are sealed

pub seal-of-right : (s : Seal) (m : List ℕ) → s ≡ Right → is_sealed (whole s m) ≡ is_right s
    → Right ≡ seal_of (whole s m)
unfolding seal_of
seal-of-right s m is so =
    sym (ap (λ (b : Bool). if b then Right else (if are_wrong (whole s m) then Wrong else Missing))
    (so ∙ ap (λ (t : Seal). is_right t) is))

pub seal-of-wrong : (s : Seal) (m : List ℕ) → s ≡ Wrong → is_sealed (whole s m) ≡ is_right s
    → Wrong ≡ seal_of (whole s m)
unfolding seal_of
seal-of-wrong s m is so =
    let wrong : are_wrong (whole s m) ≡ true = ap (λ (t : Seal). are_wrong (whole t m)) is ∙ wrong-is m in
    sym (ap (λ (b : Bool). if b then Right else (if are_wrong (whole s m) then Wrong else Missing))
    (so ∙ ap (λ (t : Seal). is_right t) is)
    ∙ ap (λ (b : Bool). if b then Wrong else Missing) wrong)

pub seal-of-missing : (s : Seal) (m a : List ℕ) (out : Seal) → s ≡ Missing → a ≡ m → is_sealed (whole s m) ≡ is_right s
    → out ≡ (if are_wrong a then Wrong else Missing) → out ≡ seal_of (whole s m)
unfolding seal_of
seal-of-missing s m a out is same so e =
    let whole-is : whole s m ≡ m = ap (λ (t : Seal). whole t m) is ∙ missing-is m in
    e ∙ ap (λ (l : List ℕ). if are_wrong l then Wrong else Missing) (same ∙ sym whole-is)
    ∙ sym (ap (λ (b : Bool). if b then Right else (if are_wrong (whole s m) then Wrong else Missing))
    (so ∙ ap (λ (t : Seal). is_right t) is))

-- ---- only the same bytes are found alike

right-again : (b : List ℕ) → is_sealed b ≡ true → sealed (front_of b) ≡ b
unfolding is_sealed
right-again b e =
    let last = (bytes_eq-Decides (drop (length b - 4) b) (to_le_bytes w32 (sequence_of (take (length b - 4) b)))).0
    (and_parts (nat_le 4 (length b)) (bytes_eq (drop (length b - 4) b)
    (to_le_bytes w32 (sequence_of (take (length b - 4) b)))) e).1 in
    ap (λ (t : List ℕ). front_of b ++ t) (sym last) ∙ take-append-drop (length b - 4) b

whole-of : (b : List ℕ) → whole (seal_of b) (key_of b) ≡ b
unfolding seal_of key_of whole
whole-of b = by (is_sealed b) (are_wrong b) refl refl
  where
    by : (s w : Bool) → is_sealed b ≡ s → are_wrong b ≡ w
        → whole (if s then Right else (if w then Wrong else Missing)) (if s || w then front_of b else b) ≡ b
    by true w e k = right-again b e
    by false true e k = sym ((bytes_eq-Decides b (sealed_wrongly (front_of b))).0 k)
    by false false e k = refl

pub same-found : (a b : List ℕ) → seal_of a ≡ seal_of b → key_of a ≡ key_of b → a ≡ b
same-found a b s k =
    sym (whole-of a) ∙ ap (λ (t : Seal). whole t (key_of a)) s ∙ ap (λ (l : List ℕ). whole (seal_of b) l) k ∙ whole-of b
