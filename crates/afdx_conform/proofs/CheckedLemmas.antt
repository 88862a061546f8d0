-- Bytes that are kept as a message and a seal: when two are the same.
use Rattle.std.proofs.Common.{◌≡◌, ℕ, ◌-◌, ◌<◌, Bool, false, List, ◌++◌, length, take, drop, refl, sym, ap, ap₂, ◌∙◌, arith}
use Rattle.std.specs.Bool.{Decides}
use Rattle.std.specs.Int.{w32, to_le_bytes}
use Rattle.std.specs.Str.{bytes_eq}
use Rattle.std.proofs.lemmas.Bool.{false_from_ne_true}
use Rattle.std.proofs.lemmas.Bool.Decides.{same_from_decides}
use Rattle.std.proofs.lemmas.List.{length-append, take-append-drop, take_at, drop_at}
use Rattle.std.proofs.lemmas.Slice.Eq.{bytes_eq-Decides}
use Rattle.afdx_frame.specs.declared.seals.Seal.{Seal}
use Rattle.afdx_frame.specs.declared.seals.Seal.TheVariants.{Right, Wrong, Missing}
use Rattle.afdx_frame.specs.Sealing.{sealed_wrongly, sequence_of}
use Rattle.afdx_frame.specs.Seals.{whole}
use Rattle.afdx_frame.proofs.SealsLemmas.{length-whole}

-- ---- the message and what follows it

front : (m n a b : List ℕ) → length m ≡ length n → m ++ a ≡ n ++ b → m ≡ n
front m n a b l e =
    sym (take_at m a (length m) refl) ∙ ap (take (length m)) e ∙ take_at n b (length m) (sym l)

long : (s : Seal) (m n : List ℕ) → whole s m ≡ whole s n → length m ≡ length n
long s m n e = omega (arith, length-whole s m, length-whole s n, ap length e)

message : (s : Seal) (m n : List ℕ) → length m ≡ length n → whole s m ≡ whole s n → m ≡ n
unfolding whole
message Right m n l e =
    front m n (to_le_bytes w32 (sequence_of m)) (to_le_bytes w32 (sequence_of n)) l e
message Wrong m n l e =
    front m n (to_le_bytes w32 (0xffff_ffff - sequence_of m)) (to_le_bytes w32 (0xffff_ffff - sequence_of n)) l e
message Missing m n l e = e

-- ---- bytes of the same seal are the same if their messages are

pub same_seal : (s : Seal) (m n : List ℕ) (r : Bool) → Decides r (m ≡ n) → r ≡ bytes_eq (whole s m) (whole s n)
same_seal s m n r d =
    same_from_decides r (bytes_eq (whole s m) (whole s n)) (
      λ yes. ap (whole s) (d.0 yes),
      λ e. d.1 (message s m n (long s m n e) e),
    ) (bytes_eq-Decides (whole s m) (whole s n))

-- ---- those that are sealed wrongly, and those with no seal

pub joined : (bytes message tail : List ℕ) (r : Bool)
    → Decides r ((take (length message) bytes ≡ message) × (drop (length message) bytes ≡ tail))
    → r ≡ bytes_eq bytes (message ++ tail)
joined bytes message tail r d =
    same_from_decides r (bytes_eq bytes (message ++ tail)) (
      λ yes. let parts = d.0 yes in
          sym (take-append-drop (length message) bytes) ∙ ap₂ (λ (a b : List ℕ). a ++ b) parts.0 parts.1,
      λ e. d.1 (
        ap (take (length message)) e ∙ take_at message tail (length message) refl,
        ap (drop (length message)) e ∙ drop_at message tail (length message) refl,
      ),
    ) (bytes_eq-Decides bytes (message ++ tail))

pub shorter : (bytes message tail : List ℕ) → length bytes < length message → bytes_eq bytes (message ++ tail) ≡ false
shorter bytes message tail h =
    false_from_ne_true (bytes_eq bytes (message ++ tail)) (λ yes.
    let long = ap length ((bytes_eq-Decides bytes (message ++ tail)).0 yes) in
    omega (arith, h, long, length-append message tail))

-- ---- as they are compared

pub same_kind : (s t k : Seal) (m n a b : List ℕ) (r : Bool) → s ≡ k → t ≡ k → a ≡ m → b ≡ n → Decides r (a ≡ b)
    → r ≡ bytes_eq (whole s m) (whole t n)
same_kind s t k m n a b r own other am bn d =
    rw (own, other) (same_seal k m n r (λ yes. sym am ∙ d.0 yes ∙ bn, λ e. d.1 (am ∙ e ∙ sym bn)))

pub wrongly : (s t : Seal) (m n a b : List ℕ) (r : Bool) → s ≡ Wrong → t ≡ Missing → a ≡ m → b ≡ n
    → r ≡ bytes_eq b (sealed_wrongly a) → r ≡ bytes_eq (whole t n) (whole s m)
unfolding whole
wrongly s t m n a b r own other am bn e = e ∙ (rw (own, other, am, bn) refl)

pub swapped : (xs ys : List ℕ) → bytes_eq xs ys ≡ bytes_eq ys xs
swapped xs ys =
    same_from_decides (bytes_eq xs ys) (bytes_eq ys xs) (bytes_eq-Decides xs ys) (
      λ yes. sym ((bytes_eq-Decides ys xs).0 yes),
      λ e. (bytes_eq-Decides ys xs).1 (sym e),
    )
