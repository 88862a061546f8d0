-- What waits is told by time.
use Rattle.std.proofs.Common.{◌≡◌, ℕ, ◌+◌, ◌≤◌, Bool, true, false, List, [], ◌∷◌, ◌++◌, refl, sym, ap, ap₂, ◌∙◌, subst}
use Rattle.std.proofs.Common.{zero, suc, arith, drop, length, Option, Some, None, ◌⊎◌, inl, inr}
use Rattle.std.specs.Prelude.{if◌then◌else◌, nat_le}
use Rattle.std.specs.List.{AllByRecursion, list_any}
use Rattle.std.proofs.lemmas.Bool.{leb-true, leb-false}
use Rattle.std.proofs.lemmas.List.{length-append}
use Rattle.afdx_frame.specs.Sides.{is_side}
use Rattle.afdx_frame.specs.declared.link.Side.{Side}
use Rattle.afdx_frame.specs.declared.link.Side.TheVariants.{A, B}
use Rattle.afdx_lawful.specs.Courses.{Course, IsCourse, next_told, oldest, over, sooner, still_waiting, told_on}
use Rattle.afdx_lawful.specs.Flaws.{whole_of}
use Rattle.afdx_lawful.specs.Judged.{waiting_of}
use Rattle.afdx_lawful.specs.Order.{ToldInOrder}
use Rattle.afdx_lawful.specs.Partners.{Waiting, joined, may_pair, other, waits_now, waiting, without_first}
use Rattle.afdx_lawful.specs.Sources.{Came, Source}
use Rattle.afdx_lawful.proofs.PastLemmas.{all_and, all_but}
use Rattle.afdx_lawful.proofs.StandLemmas.{InTurn, from_sooner, turn_of}

-- ---- those of a side are of that side

abbrev IsOn : Side → Waiting → Type 0
IsOn side y = is_side side y.frame.side ≡ true

on_own : (s : Source) (side : Side) (ws : List Came) → AllByRecursion (IsOn side) (waiting s side ws)
unfolding waiting
on_own s side [] = _
on_own s side (x ∷ past) = by (is_side side x.side) refl (on_own s side past)
  where
    one : (b : Bool) → is_side side x.side ≡ true → AllByRecursion (IsOn side) (waiting s side past) →
        AllByRecursion (IsOn side)
        (if b then waiting s side past else waiting s side past ++ waits_now s past x ∷ [])
    one true e h = h
    one false e h = all_and (IsOn side) (waiting s side past) (waits_now s past x) h e

    by : (b : Bool) → is_side side x.side ≡ b → AllByRecursion (IsOn side) (waiting s side past) →
        AllByRecursion (IsOn side)
        (if b then joined s past x (waiting s side past) (waiting s (other side) past)
        else without_first (may_pair s x) (waiting s side past))
    by true e h = one (list_any (may_pair s x) (waiting s (other side) past)) e h
    by false e h = all_but (IsOn side) (may_pair s x) (waiting s side past) h

on_side_of : (s : Source) (side : Side) (xs : List Came) → AllByRecursion (IsOn side) (waiting_of s side xs)
on_side_of s side xs = by s.is_paired (on_own s side (whole_of xs))
  where
    by : (b : Bool) → AllByRecursion (IsOn side) (waiting s side (whole_of xs)) →
        AllByRecursion (IsOn side) (if b then waiting s side (whole_of xs) else [])
    by true h = h
    by false h = _

-- ---- all but the first

dropped_all : {X : Type 0} (P : X → Type 0) (n : ℕ) (xs : List X) → AllByRecursion P xs →
    AllByRecursion P (drop n xs)
dropped_all P zero xs h = h
dropped_all P (suc n) [] h = h
dropped_all P (suc n) (x ∷ xs) h = dropped_all P n xs h.1

dropped_turn : (n from to : ℕ) (ys : List Waiting) → InTurn from to ys → InTurn 0 to (drop n ys)
dropped_turn zero from to ys h = from_sooner from 0 to ys (omega arith) h
dropped_turn (suc n) from to [] h = h
dropped_turn (suc n) from to (y ∷ ys) h = dropped_turn n y.frame.time to ys h.2

abbrev no_one : {X : Type 0} → List X
no_one = []

drop_none : {X : Type 0} (n : ℕ) → drop n [] ≡ no_one {X = X}
drop_none zero = refl
drop_none (suc n) = refl

drop_more : {X : Type 0} (n : ℕ) (xs : List X) → drop (n + 1) xs ≡ drop 1 (drop n xs)
drop_more zero xs = refl
drop_more (suc n) [] = drop_none (suc n + 1)
drop_more (suc n) (x ∷ xs) = ap (λ (k : ℕ). drop k (x ∷ xs)) (one_up n) ∙ drop_more n xs
  where
    one_up : (n : ℕ) → suc n + 1 ≡ suc (n + 1)
    one_up n = omega arith

module _ (s : Source) (c : Course) (h : IsCourse s c) where
  sorted : (side : Side) → InTurn 0 c.reached (still_waiting s c side)
  unfolding still_waiting
  sorted side = dropped_turn (length (over c side)) 0 c.reached (waiting_of s side c.came)
      (turn_of s side c.came c.reached h.by_time)

  sided : (side : Side) → AllByRecursion (IsOn side) (still_waiting s c side)
  unfolding still_waiting
  sided side = dropped_all (IsOn side) (length (over c side)) (waiting_of s side c.came)
      (on_side_of s side c.came)

  module _ (y : Waiting) where
    rest_a : still_waiting s (told_on s c y A) A ≡ drop 1 (still_waiting s c A)
    unfolding still_waiting
    rest_a = ap (λ (n : ℕ). drop n (waiting_of s A c.came)) (length-append c.over_a _)
        ∙ drop_more (length c.over_a) (waiting_of s A c.came)

    rest_b : still_waiting s (told_on s c y B) B ≡ drop 1 (still_waiting s c B)
    unfolding still_waiting
    rest_b = ap (λ (n : ℕ). drop n (waiting_of s B c.came)) (length-append c.over_b _)
        ∙ drop_more (length c.over_b) (waiting_of s B c.came)

    same_b : still_waiting s (told_on s c y A) B ≡ still_waiting s c B
    unfolding still_waiting
    same_b = refl

    same_a : still_waiting s (told_on s c y B) A ≡ still_waiting s c A
    unfolding still_waiting
    same_a = refl

-- ---- no sooner than a time

abbrev IsNoSooner : ℕ → Option Waiting → Type 0
IsNoSooner time None = Unit {0}
IsNoSooner time (Some z) = time ≤ z.frame.time

both_later : (time : ℕ) (a b : Option Waiting) → IsNoSooner time a → IsNoSooner time b →
    IsNoSooner time (sooner a b)
both_later time None b g h = h
both_later time (Some a) None g h = g
both_later time (Some a) (Some b) g h = by (nat_le a.frame.time b.frame.time)
  where
    by : (p : Bool) → IsNoSooner time (if p then Some a else Some b)
    by true = g
    by false = h

next_later : (to : ℕ) (y : Waiting) (ys : List Waiting) → InTurn 0 to (y ∷ ys) →
    IsNoSooner y.frame.time (oldest ys)
next_later to y [] h = _
next_later to y (z ∷ ys) h = h.2.0

record IsFrontOf (side : Side) (y : Waiting) (own others : List Waiting) : Type 0 where
  on : y.frame.side ≡ side
  own_later : IsNoSooner y.frame.time (oldest (drop 1 own))
  others_later : IsNoSooner y.frame.time (oldest others)

same_some : {X : Type 0} {x y : X} → Some x ≡ Some y → x ≡ y
same_some h = cc

on_a : (side : Side) → is_side A side ≡ true → side ≡ A
on_a A h = refl
on_a B h = absurd (cc h)

on_b : (side : Side) → is_side B side ≡ true → side ≡ B
on_b B h = refl
on_b A h = absurd (cc h)

front_of : (to : ℕ) (ws vs : List Waiting) (y : Waiting) → InTurn 0 to ws → InTurn 0 to vs →
    AllByRecursion (IsOn A) ws → AllByRecursion (IsOn B) vs → sooner (oldest ws) (oldest vs) ≡ Some y →
    IsFrontOf A y ws vs ⊎ IsFrontOf B y vs ws
front_of to [] [] y t u a b h = absurd (cc h)
front_of to (w ∷ ws) [] y t u a b h = inl (subst (λ (x : Waiting). IsFrontOf A x (w ∷ ws) []) (same_some h) (
    record { on = on_a w.frame.side a.0; own_later = next_later to w ws t; others_later = _ }
    ))
front_of to [] (v ∷ vs) y t u a b h = inr (subst (λ (x : Waiting). IsFrontOf B x (v ∷ vs) []) (same_some h) (
    record { on = on_b v.frame.side b.0; own_later = next_later to v vs u; others_later = _ }
    ))
front_of to (w ∷ ws) (v ∷ vs) y t u a b h = by (nat_le w.frame.time v.frame.time) refl h
  where
    by : (p : Bool) → nat_le w.frame.time v.frame.time ≡ p → (if p then Some w else Some v) ≡ Some y →
        IsFrontOf A y (w ∷ ws) (v ∷ vs) ⊎ IsFrontOf B y (v ∷ vs) (w ∷ ws)
    by true e h = inl (subst (λ (x : Waiting). IsFrontOf A x (w ∷ ws) (v ∷ vs)) (same_some h) (
        record {
          on = on_a w.frame.side a.0;
          own_later = next_later to w ws t;
          others_later = leb-true w.frame.time v.frame.time e;
        }
        ))
    by false e h = inr (subst (λ (x : Waiting). IsFrontOf B x (v ∷ vs) (w ∷ ws)) (same_some h) (
        record {
          on = on_b v.frame.side b.0;
          own_later = next_later to v vs u;
          others_later = omega (arith, leb-false w.frame.time v.frame.time e);
        }
        ))

pub told_in_order : ToldInOrder
told_in_order s c y z h first then-next =
    by (front_of c.reached (still_waiting s c A) (still_waiting s c B) y (sorted s c h A) (sorted s c h B)
    (sided s c h A) (sided s c h B) first)
  where
    by : IsFrontOf A y (still_waiting s c A) (still_waiting s c B)
        ⊎ IsFrontOf B y (still_waiting s c B) (still_waiting s c A) → y.frame.time ≤ z.frame.time
    by (inl f) =
        subst (IsNoSooner y.frame.time)
        (sym (ap₂ (λ (k l : List Waiting). sooner (oldest k) (oldest l)) (rest_a s c h y) (same_b s c h y))
        ∙ ap (λ (o : Side). next_told s (told_on s c y o)) (sym f.on) ∙ then-next)
        (both_later y.frame.time (oldest (drop 1 (still_waiting s c A))) (oldest (still_waiting s c B)) f.own_later
        f.others_later)
    by (inr f) =
        subst (IsNoSooner y.frame.time)
        (sym (ap₂ (λ (k l : List Waiting). sooner (oldest k) (oldest l)) (same_a s c h y) (rest_b s c h y))
        ∙ ap (λ (o : Side). next_told s (told_on s c y o)) (sym f.on) ∙ then-next)
        (both_later y.frame.time (oldest (still_waiting s c A)) (oldest (drop 1 (still_waiting s c B)))
        f.others_later f.own_later)
