-- The partner of a frame among those that wait.
use Rattle.std.proofs.Common.{◌≡◌, ℕ, ◌+◌, ◌<◌, ◌≤◌, Bool, true, false, List, [], ◌∷◌, refl, sym, ap, ap₂, ◌∙◌}
use Rattle.std.proofs.Common.{arith, length, Option, Some, None}
use Rattle.std.specs.Prelude.{suc, if◌then◌else◌, ◌&&◌, nat_eq, nat_lt, option_map, position, find, MatchOption}
use Rattle.std.specs.List.{position_or_len}
use Rattle.std.proofs.lemmas.Bool.{le-leb, ltb-true, ltb-false}
use Rattle.afdx_lawful.specs.Alone.{number_in}
use Rattle.afdx_frame.specs.declared.link.Side.{Side}
use Rattle.afdx_lawful.specs.Courses.{AreOpen, oldest}
use Rattle.afdx_lawful.specs.Partners.{may_pair, partner, without_first}
use Rattle.afdx_lawful.specs.Rings.{all_as, has_number, waiting_as}
use Rattle.afdx_lawful.specs.Sources.{Came, Source, hold}
use Rattle.afdx_lawful.specs.declared.waits.Waits.{Waits}

-- ---- places

pub one_more : (n : ℕ) → 1 + n ≡ suc n
one_more n = omega arith

module _ {X : Type 0} (p : X → Bool) where
  pub at_place : (xs : List X) (k : ℕ) → position p xs ≡ Some k →
      (position_or_len p xs ≡ k) × (position_or_len p xs < length xs)
  at_place xs k h = by (nat_lt (position_or_len p xs) (length xs)) refl h
    where
      by : (b : Bool) → nat_lt (position_or_len p xs) (length xs) ≡ b →
          (if b then Some (position_or_len p xs) else None) ≡ Some k →
          (position_or_len p xs ≡ k) × (position_or_len p xs < length xs)
      by true e h = (same h, ltb-true _ _ e)
        where
          same : {n m : ℕ} → Some n ≡ Some m → n ≡ m
          same h = cc
      by false e h = absurd (cc h)

  pub at_none : (xs : List X) → position p xs ≡ None → length xs ≤ position_or_len p xs
  at_none xs h = by (nat_lt (position_or_len p xs) (length xs)) refl h
    where
      by : (b : Bool) → nat_lt (position_or_len p xs) (length xs) ≡ b →
          (if b then Some (position_or_len p xs) else None) ≡ None → length xs ≤ position_or_len p xs
      by true e h = absurd (cc h)
      by false e h = ltb-false _ _ e

-- ---- the first of a list

pub first_taken : {X : Type 0} (xs rest : List X) (o : Option X) → o ≡ find (λ x. true) xs →
    rest ≡ without_first (λ x. true) xs → MatchOption o ((xs ≡ []) × (rest ≡ xs)) (λ x. xs ≡ x ∷ rest)
unfolding without_first
first_taken [] rest None e f = (refl, f)
first_taken (x ∷ xs) rest None e f = absurd (cc e)
first_taken [] rest (Some y) e f = absurd (cc e)
first_taken (x ∷ xs) rest (Some y) e f = cc (e, f)

pub oldest_is : (side : Side) (ws : List Waits) (o : Option Waits) → o ≡ find (λ w. true) ws →
    option_map (λ w. w.time) o ≡ option_map (λ y. y.frame.time) (oldest (all_as side ws))
oldest_is side [] o e = ap (option_map (λ (w : Waits). w.time)) e
oldest_is side (w ∷ ws) o e = ap (option_map (λ (w : Waits). w.time)) e

-- ---- those that wait

and_so : (a b : Bool) → b ≡ true → (a && b) ≡ a
and_so true b e = e
and_so false b e = refl

module _ (s : Source) (side : Side) (x : Came) (number : ℕ) (number-is : number_in x ≡ number) where
  alike : (w : Waits) → x.time ≤ w.time + hold s → has_number number w ≡ may_pair s x (waiting_as side w)
  unfolding may_pair number_in
  alike w up =
      ap₂ nat_eq w.numbered (sym number-is)
      ∙ sym (and_so (nat_eq (number_in (waiting_as side w).frame) (number_in x)) _ (le-leb x.time (w.time + hold s) up))

  pub partner_is : (ws : List Waits) → AreOpen s x.time (all_as side ws) →
      option_map (waiting_as side) (find (has_number number) ws) ≡ partner s x (all_as side ws)
  partner_is [] h = refl
  partner_is (w ∷ ws) h =
      by (has_number number w) (may_pair s x (waiting_as side w)) (alike w h.0) (partner_is ws h.1)
    where
      by : (a b : Bool) → a ≡ b →
          option_map (waiting_as side) (find (has_number number) ws) ≡ partner s x (all_as side ws) →
          option_map (waiting_as side) (if a then Some w else find (has_number number) ws)
          ≡ (if b then Some (waiting_as side w) else partner s x (all_as side ws))
      by true true e rest = refl
      by false false e rest = rest
      by true false e rest = absurd (cc e)
      by false true e rest = absurd (cc e)

  pub rest_is : (ws : List Waits) → AreOpen s x.time (all_as side ws) →
      all_as side (without_first (has_number number) ws) ≡ without_first (may_pair s x) (all_as side ws)
  unfolding without_first
  rest_is [] h = refl
  rest_is (w ∷ ws) h =
      by (has_number number w) (may_pair s x (waiting_as side w)) (alike w h.0) (rest_is ws h.1)
    where
      by : (a b : Bool) → a ≡ b →
          all_as side (without_first (has_number number) ws) ≡ without_first (may_pair s x) (all_as side ws) →
          all_as side (if a then ws else w ∷ without_first (has_number number) ws)
          ≡ (if b then all_as side ws else waiting_as side w ∷ without_first (may_pair s x) (all_as side ws))
      by true true e rest = refl
      by false false e rest = ap (λ l. waiting_as side w ∷ l) rest
      by true false e rest = absurd (cc e)
      by false true e rest = absurd (cc e)

pub number_kept : (w : Waits) (side : Side) → w.number ≡ number_in (waiting_as side w).frame
unfolding number_in
number_kept w side = w.numbered
