-- The ports of a switch, one after another, and the lines of the copies that were lost there.
use Rattle.std.proofs.Common.{◌≡◌, ℕ, zero, suc, ◌+◌, ◌<◌, Bool, true, false, List, [], ◌∷◌}
use Rattle.std.proofs.Common.{◌++◌, length, take, drop, take-append-drop, refl, ap, sym, ◌∙◌, subst, arith, append_assoc, append-nil, add-one, Option}
use Rattle.std.proofs.Common.{if◌then◌else◌}
use Rattle.std.specs.Prelude.{filter}
use Rattle.std.specs.Io.KnownBytes.{Appends}
use Rattle.std.proofs.KnownBytes.{Appends-trans}
use Rattle.afdx_input_lines.specs.Calls.{AppendsFront}
use Rattle.afdx_switch.specs.Ports.{holds}
use Rattle.afdx_switch.specs.Verdicts.{numbers}
use Rattle.afdx_switch.specs.declared.ports.PortSet.{PortSet}
use Rattle.afdx_network.specs.Network.{ports_in}
use Rattle.afdx_police.specs.declared.shape.Reason.{Reason}
use Rattle.afdx_replay.specs.policing.Text.{verdict_line}
use Rattle.afdx_replay.specs.replaying.Text.{loss_line, loss_lines}
use Rattle.afdx_text.proofs.OutputLemmas.{front-longer, front-more}

count_from : ℕ → ℕ → List ℕ
count_from k zero = []
count_from k (suc n) = k ∷ count_from (suc k) n

numbers-are : numbers ≡ count_from 1 24
unfolding count_from
numbers-are = refl

take-count : (k n i : ℕ) → i < n → take (suc i) (count_from k n) ≡ take i (count_from k n) ++ (k + i) ∷ []
unfolding count_from
take-count k zero i below = absurd (omega (arith, below))
take-count k (suc n) zero below = let same : k ≡ k + 0 = omega arith in ap (λ (m : ℕ). m ∷ []) same
take-count k (suc n) (suc i) below =
    let same : suc k + i ≡ k + suc i = omega arith in
    ap (λ (xs : List ℕ). k ∷ xs)
    (take-count (suc k) n i (omega (arith, below))
    ∙ ap (λ (m : ℕ). take i (count_from (suc k) n) ++ m ∷ []) same)

take-ports : (i : ℕ) → i < 24 → take (i + 1) numbers ≡ take i numbers ++ (i + 1) ∷ []
take-ports i below =
    let same : 1 + i ≡ suc i = omega arith in
    rw add-one (ap (λ (xs : List ℕ). take (suc i) xs) numbers-are ∙ take-count 1 24 i below
    ∙ ap (λ (xs : List ℕ). take i xs ++ (1 + i) ∷ []) (sym numbers-are)
    ∙ ap (λ (m : ℕ). take i numbers ++ m ∷ []) same)

filter-push : (f : ℕ → Bool) (xs : List ℕ) (y : ℕ) → filter f (xs ++ y ∷ []) ≡ filter f xs
    ++ (if f y then y ∷ [] else [])
filter-push f [] y = by (f y)
  where
    by : (b : Bool) → (if b then y ∷ [] else []) ≡ (if b then y ∷ [] else [])
    by b = refl
filter-push f (x ∷ xs) y = by (f x) (filter-push f xs y)
  where
    by : (b : Bool) → filter f (xs ++ y ∷ []) ≡ filter f xs ++ (if f y then y ∷ [] else []) →
        (if b then x ∷ filter f (xs ++ y ∷ []) else filter f (xs ++ y ∷ []))
        ≡ (if b then x ∷ filter f xs else filter f xs) ++ (if f y then y ∷ [] else [])
    by true rest = ap (λ (zs : List ℕ). x ∷ zs) rest
    by false rest = rest

lines-push : (n : ℕ) (place : List ℕ) (xs : List ℕ) (y : ℕ) (b : Bool)
    → loss_lines n place (xs ++ (if b then y ∷ [] else [])) ≡ loss_lines n place xs
    ++ (if b then loss_line n place y else [])
lines-push n place [] y true = append-nil (loss_line n place y)
lines-push n place [] y false = refl
lines-push n place (x ∷ xs) y b =
    ap (λ (zs : List ℕ). loss_line n place x ++ zs) (lines-push n place xs y b)
    ∙ sym (append_assoc (loss_line n place x) (loss_lines n place xs)
    (if b then loss_line n place y else []))

count-push : (xs : List ℕ) (y : ℕ) (b : Bool) → length (xs ++ (if b then y ∷ [] else []))
    ≡ length xs + (if b then 1 else 0)
count-push [] y true = omega arith
count-push [] y false = omega arith
count-push (x ∷ xs) y b = let rest = count-push xs y b in omega (arith, rest)

-- the ports so far that are lost
abbrev pub lost_below : (ℕ → Bool) → ℕ → List ℕ
lost_below f i = filter f (take i numbers)

lost-more : (f : ℕ → Bool) (i : ℕ) → i < 24 → lost_below f (i + 1) ≡ lost_below f i
    ++ (if f (i + 1) then (i + 1) ∷ [] else [])
lost-more f i below = ap (λ (xs : List ℕ). filter f xs) (take-ports i below) ∙ filter-push f (take i numbers) (i + 1)

-- at the end all of them
pub all-below : (set : PortSet) (i : ℕ) → i ≡ 24 → lost_below (holds set) i ≡ ports_in set
unfolding ports_in
all-below set i e = ap (λ (k : ℕ). lost_below (holds set) k) e ∙ all
  where
    all : lost_below (holds set) 24 ≡ filter (holds set) numbers
    all = refl

lines-step : (n : ℕ) (place : List ℕ) (f : ℕ → Bool) (i : ℕ) (b : Bool) → i < 24 → b ≡ f (i + 1)
    → loss_lines n place (lost_below f i) ++ (if b then loss_line n place (i + 1) else [])
    ≡ loss_lines n place (lost_below f (i + 1))
lines-step n place f i b below is =
    ap (λ (c : Bool). loss_lines n place (lost_below f i) ++ (if c then loss_line n place (i + 1) else [])) is
    ∙ sym (lines-push n place (lost_below f i) (i + 1) (f (i + 1)))
    ∙ ap (λ (xs : List ℕ). loss_lines n place xs) (sym (lost-more f i below))

-- the line of a port more is written
pub lines-more : (n : ℕ) (place : List ℕ) (f : ℕ → Bool) (i : ℕ) (b : Bool) (old middle new : Option (List ℕ))
    → i < 24 → b ≡ f (i + 1) → Appends old middle (loss_lines n place (lost_below f i))
    → Appends middle new (if b then loss_line n place (i + 1) else []) →
    Appends old new (loss_lines n place (lost_below f (i + 1)))
lines-more n place f i b old middle new below is first more =
    subst (λ x. Appends old new x) (lines-step n place f i b below is)
    (Appends-trans old middle new (loss_lines n place (lost_below f i))
    (if b then loss_line n place (i + 1) else []) first more)

filter-append : (f : ℕ → Bool) (xs ys : List ℕ) → filter f (xs ++ ys) ≡ filter f xs ++ filter f ys
filter-append f [] ys = refl
filter-append f (x ∷ xs) ys = by (f x) (filter-append f xs ys)
  where
    by : (b : Bool) → filter f (xs ++ ys) ≡ filter f xs ++ filter f ys →
        (if b then x ∷ filter f (xs ++ ys) else filter f (xs ++ ys))
        ≡ (if b then x ∷ filter f xs else filter f xs) ++ filter f ys
    by true rest = ap (λ (zs : List ℕ). x ∷ zs) rest
    by false rest = rest

lines-append : (n : ℕ) (place : List ℕ) (xs ys : List ℕ)
    → loss_lines n place (xs ++ ys) ≡ loss_lines n place xs ++ loss_lines n place ys
lines-append n place [] ys = refl
lines-append n place (x ∷ xs) ys =
    ap (λ (zs : List ℕ). loss_line n place x ++ zs) (lines-append n place xs ys)
    ∙ sym (append_assoc (loss_line n place x) (loss_lines n place xs) (loss_lines n place ys))

-- those of the first ports begin all of them
lines-rest : (n : ℕ) (place : List ℕ) (set : PortSet) (i : ℕ)
    → loss_lines n place (lost_below (holds set) i) ++ loss_lines n place (filter (holds set) (drop i numbers))
    ≡ loss_lines n place (ports_in set)
unfolding ports_in
lines-rest n place set i =
    sym (lines-append n place (filter (holds set) (take i numbers)) (filter (holds set) (drop i numbers)))
    ∙ ap (loss_lines n place) (sym (filter-append (holds set) (take i numbers) (drop i numbers)))
    ∙ ap (λ (xs : List ℕ). loss_lines n place (filter (holds set) xs)) (take-append-drop i numbers)

-- a beginning of the line of a port more is
pub lines-front : (n : ℕ) (place : List ℕ) (set : PortSet) (i : ℕ) (b : Bool) (old middle new : Option (List ℕ))
    → i < 24 → b ≡ holds set (i + 1) → Appends old middle (loss_lines n place (lost_below (holds set) i))
    → AppendsFront middle new (if b then loss_line n place (i + 1) else []) →
    AppendsFront old new (loss_lines n place (ports_in set))
lines-front n place set i b old middle new below is first more =
    subst (λ x. AppendsFront old new x) (lines-rest n place set (i + 1))
    (front-longer old new (loss_lines n place (lost_below (holds set) (i + 1)))
    (loss_lines n place (filter (holds set) (drop (i + 1) numbers)))
    (subst (λ x. AppendsFront old new x) (lines-step n place (holds set) i b below is)
    (front-more old middle new (loss_lines n place (lost_below (holds set) i))
    (if b then loss_line n place (i + 1) else []) first more)))

pub count-more : (f : ℕ → Bool) (i : ℕ) (b : Bool) (count more total : ℕ) → i < 24 → b ≡ f (i + 1)
    → count ≡ length (lost_below f i) → more ≡ (if b then 1 else 0) → total ≡ count + more
    → total ≡ length (lost_below f (i + 1))
count-more f i b count more total below is e k s =
    let pushed : length (lost_below f (i + 1))
    ≡ length (lost_below f i) + (if f (i + 1) then 1 else 0) = ap length (lost-more f i below)
    ∙ count-push (lost_below f i) (i + 1) (f (i + 1)) in
    let one : more ≡ (if f (i + 1) then 1 else 0) = k ∙ ap (λ (c : Bool). if c then 1 else 0) is in
    omega (arith, pushed, one, e, s)

none-pass : (f : ℕ → Bool) (xs : List ℕ) → ((p : ℕ) → f p ≡ false) → filter f xs ≡ []
none-pass f [] none = refl
none-pass f (x ∷ xs) none = rw (none x) (none-pass f xs none)

-- none of an empty set
pub none-in : (set : PortSet) → ((p : ℕ) → holds set p ≡ false) → ports_in set ≡ []
unfolding ports_in
none-in set none = none-pass (holds set) numbers none

-- ---- behind the line of a verdict

module _ (n : ℕ) (place : List ℕ) (reason told : Option Reason) where
  -- a beginning of it, under another word for its reason
  pub verdict-front : (old new : Option (List ℕ)) → reason ≡ told → (more : List ℕ)
      → AppendsFront old new (verdict_line n place reason) → AppendsFront old new (verdict_line n place told ++ more)
  verdict-front old new same more front =
      front-longer old new (verdict_line n place told) more
      (subst (λ r. AppendsFront old new (verdict_line n place r)) same front)

  -- it, and the lines of the copies that were lost, or a beginning of them
  pub losses-whole : {lost ports : List ℕ} (old middle new : Option (List ℕ)) → reason ≡ told → lost ≡ ports
      → Appends old middle (verdict_line n place reason) → Appends middle new (loss_lines n place lost)
      → Appends old new (verdict_line n place told ++ loss_lines n place ports)
  losses-whole {ports = ports} old middle new same are first more =
      Appends-trans old middle new (verdict_line n place told) (loss_lines n place ports)
      (subst (λ r. Appends old middle (verdict_line n place r)) same first)
      (subst (λ x. Appends middle new (loss_lines n place x)) are more)

  pub losses-front : {lost ports : List ℕ} (old middle new : Option (List ℕ)) → reason ≡ told → lost ≡ ports
      → Appends old middle (verdict_line n place reason) → AppendsFront middle new (loss_lines n place lost)
      → AppendsFront old new (verdict_line n place told ++ loss_lines n place ports)
  losses-front {ports = ports} old middle new same are first more =
      front-more old middle new (verdict_line n place told) (loss_lines n place ports)
      (subst (λ r. Appends old middle (verdict_line n place r)) same first)
      (subst (λ x. AppendsFront middle new (loss_lines n place x)) are more)
