-- Frames that waited in vain, and can't be the copies of later ones.
use Rattle.std.proofs.Common.{◌≡◌, ℕ, ◌+◌, ◌<◌, Bool, true, false, List, [], ◌∷◌, ◌++◌, refl, ap}
use Rattle.std.proofs.Common.{◌≤◌, Some, arith}
use Rattle.std.specs.Prelude.{find, if◌then◌else◌, ◌&&◌, nat_eq, nat_le}
use Rattle.std.specs.List.{AllByRecursion}
use Rattle.std.proofs.lemmas.Bool.{lt-leb}
use Rattle.afdx_lawful.specs.Alone.{number_in}
use Rattle.afdx_lawful.specs.Accepted.{ComeUpTo}
use Rattle.afdx_lawful.specs.Courses.{AreHeld, AreOpen, ArePast, told_at}
use Rattle.afdx_lawful.specs.Partners.{Waiting, may_pair, partner, without_first}
use Rattle.afdx_lawful.specs.Sources.{Came, Source, hold}

-- ---- what none of the first passes, the others tell

module _ {X : Type 0} (p : X → Bool) where
  abbrev NoneOf : List X → Type 0
  NoneOf xs = AllByRecursion (λ x. p x ≡ false) xs

  first_left : (xs ys : List X) → NoneOf xs → without_first p (xs ++ ys) ≡ xs ++ without_first p ys
  unfolding without_first
  first_left [] ys h = refl
  first_left (x ∷ xs) ys h = by (p x) h.0 (first_left xs ys h.1)
    where
      by : (b : Bool) → b ≡ false → without_first p (xs ++ ys) ≡ xs ++ without_first p ys →
          (if b then xs ++ ys else x ∷ without_first p (xs ++ ys)) ≡ x ∷ xs ++ without_first p ys
      by false e rest = ap (λ (l : List X). x ∷ l) rest
      by true e rest = absurd (cc e)

  find_left : (xs ys : List X) → NoneOf xs → find p (xs ++ ys) ≡ find p ys
  find_left [] ys h = refl
  find_left (x ∷ xs) ys h = by (p x) h.0 (find_left xs ys h.1)
    where
      by : (b : Bool) → b ≡ false → find p (xs ++ ys) ≡ find p ys →
          (if b then Some x else find p (xs ++ ys)) ≡ find p ys
      by false e rest = rest
      by true e rest = absurd (cc e)

-- ---- of those that wait

past_not : (s : Source) (x : Came) (y : Waiting) → told_at s y < x.time → may_pair s x y ≡ false
unfolding may_pair
past_not s x y h =
    by (nat_eq (number_in y.frame) (number_in x)) (lt-leb x.time (y.frame.time + hold s) h)
  where
    by : (a : Bool) → nat_le x.time (y.frame.time + hold s) ≡ false →
        (a && nat_le x.time (y.frame.time + hold s)) ≡ false
    by true e = e
    by false e = refl

module _ (s : Source) (x : Came) where
  none_past : (gone : List Waiting) → ArePast s x.time gone → AllByRecursion (λ y. may_pair s x y ≡ false) gone
  none_past [] h = h
  none_past (y ∷ gone) h = (past_not s x y h.0, none_past gone h.1)

  pub without_past : (gone ring : List Waiting) → ArePast s x.time gone →
      without_first (may_pair s x) (gone ++ ring) ≡ gone ++ without_first (may_pair s x) ring
  without_past gone ring h = first_left (may_pair s x) gone ring (none_past gone h)

  pub partner_past : (gone ring : List Waiting) → ArePast s x.time gone →
      partner s x (gone ++ ring) ≡ partner s x ring
  partner_past gone ring h = find_left (may_pair s x) gone ring (none_past gone h)

-- all of a longer time
pub past_later : (s : Source) (time later : ℕ) (ys : List Waiting) → time ≤ later → ArePast s time ys →
    ArePast s later ys
past_later s time later [] up h = h
past_later s time later (y ∷ ys) up h = (omega (arith, up, h.0), past_later s time later ys up h.1)

-- ---- what holds of all

module _ {X : Type 0} (P : X → Type 0) where
  pub all_but : (p : X → Bool) (xs : List X) → AllByRecursion P xs → AllByRecursion P (without_first p xs)
  unfolding without_first
  all_but p [] h = h
  all_but p (x ∷ xs) h = by (p x) (all_but p xs h.1)
    where
      by : (b : Bool) → AllByRecursion P (without_first p xs) →
          AllByRecursion P (if b then xs else x ∷ without_first p xs)
      by true rest = h.1
      by false rest = (h.0, rest)

  pub all_and : (xs : List X) (x : X) → AllByRecursion P xs → P x → AllByRecursion P (xs ++ x ∷ [])
  all_and [] x h last = (last, h)
  all_and (y ∷ xs) x h last = (h.0, all_and xs x h.1 last)

-- one more frame came, of which each can be a copy
pub held_too : (s : Source) (past : List Came) (x : Came) → ComeUpTo x.time past → (ys : List Waiting) →
    AreOpen s x.time ys → AreHeld s (x ∷ past) ys
held_too s past x up [] h = h
held_too s past x up (y ∷ ys) h = ((h.0, up), held_too s past x up ys h.1)
