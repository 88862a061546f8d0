-- What is told before a time is a function of the setup and the frames.
use Rattle.std.proofs.Common.{◌≡◌, ℕ, ◌<◌, ◌≤◌, Bool, true, false, List, [], ◌∷◌, refl, sym, ap, ap₂, ◌∙◌, subst, arith, inl, inr}
use Rattle.std.proofs.lemmas.Bool.{eq-eqb, eqb-true}
use Rattle.std.proofs.lemmas.List.Elements.{All-filter, All-from_recursion, recursion_from_All}
use Rattle.std.proofs.lemmas.List.Sorted.{All-permutation, IsPermutation-sym, sum_by-IsPermutation}
use Rattle.std.proofs.lemmas.List.Sums.{sum_by-cons}
use Rattle.std.specs.List.{AllByRecursion, sum_by}
use Rattle.std.specs.Prelude.{filter, nat_eq}
use Rattle.afdx_frame.specs.declared.link.Side.{Side}
use Rattle.afdx_frame.specs.declared.link.Side.TheVariants.{A, B}
use Rattle.afdx_lawful.specs.declared.finding.SenderFinding.TheVariants.{Single}
use Rattle.afdx_police.specs.Arrival.{Arrival}
use Rattle.afdx_senders.specs.AllLines.{all_lines, is_early, lines_when}
use Rattle.afdx_senders.specs.Lines.{FoundBy, Line, OfSource}
use Rattle.afdx_senders.specs.Order.{side_rank}
use Rattle.afdx_senders.specs.SenderLaws.{AreNumbered, WhatIsToldIsOne}
use Rattle.afdx_senders.specs.Setups.{Setup}
use Rattle.afdx_senders.specs.Telling.{AreInOrder, rank}
use Rattle.afdx_senders.proofs.OrderLemmas.{side_small}
use Rattle.afdx_senders.proofs.MemberLemmas.{IsHeard, IsLine, IsSingle, all_are_lines, numbers_at, one_at}

-- ---- two lines of one rank are one

record SameSpot (u v : Line) : Type 0 where
  moment : u.moment ≡ v.moment
  side : u.side ≡ v.side
  port : u.port ≡ v.port
  line : u.line ≡ v.line

record InType (u : Line) : Type 0 where
  port : u.port < 0x100
  line : u.line < 0x10000000000000000

side_same : (a b : Side) → side_rank a ≡ side_rank b → a ≡ b
side_same A A e = refl
side_same B B e = refl
side_same A B e = absurd (omega (arith, e))
side_same B A e = absurd (omega (arith, e))

spot_same : (u v : Line) → InType u → InType v → rank u ≡ rank v → SameSpot u v
spot_same u v a b e =
    let here = side_small u.side in
    let there = side_small v.side in
    let moment : u.moment ≡ v.moment = omega (arith, e, here, there, a.port, a.line, b.port, b.line) in
    let sides : side_rank u.side ≡ side_rank v.side =
    omega (arith, e, moment, here, there, a.port, a.line, b.port, b.line) in
    let port : u.port ≡ v.port = omega (arith, e, moment, sides, a.port, a.line, b.port, b.line) in
    record {
      moment = moment;
      side = side_same u.side v.side sides;
      port = port;
      line = omega (arith, e, moment, sides, port);
    }

made : ℕ → Side → ℕ → ℕ → FoundBy → Line
made moment side port line found =
    record { moment = moment; side = side; port = port; line = line; found = found }

one_made : (u v : Line) → SameSpot u v → u.found ≡ v.found → u ≡ v
unfolding made
one_made u v spot found =
    ap (λ (m : ℕ). made m u.side u.port u.line u.found) spot.moment
    ∙ ap (λ (s : Side). made v.moment s u.port u.line u.found) spot.side
    ∙ ap (λ (p : ℕ). made v.moment v.side p u.line u.found) spot.port
    ∙ ap (λ (l : ℕ). made v.moment v.side v.port l u.found) spot.line
    ∙ ap (λ (f : FoundBy). made v.moment v.side v.port v.line f) found

module _ (z : Setup) (xs : List Arrival) (numbered : AreNumbered xs) where
  in_type : (u : Line) → IsLine z xs u → InType u
  in_type u (inl h) =
      let numbers = numbers_at xs h.past h.frame numbered h.at in
      let port = ap (λ (v : Line). v.port) h.is in
      let line = ap (λ (v : Line). v.line) h.is in
      record { port = omega (arith, numbers.0, port); line = omega (arith, numbers.1, line) }
  in_type u (inr h) =
      let numbers = numbers_at xs h.past h.frame numbered h.at in
      record { port = omega (arith, numbers.0, h.port); line = omega (arith, numbers.1, h.line) }

  -- what came when it was heard didn't wait until then
  not_both : (u v : Line) → IsHeard z xs u → IsSingle xs v → SameSpot u v → ⊥
  not_both u v h k spot =
      let same = one_at xs h.past k.past h.frame k.frame numbered h.at k.at
      (sym (ap (λ (w : Line). w.line) h.is) ∙ spot.line ∙ k.line)
      (sym (ap (λ (w : Line). w.side) h.is) ∙ spot.side ∙ k.side)
      (sym (ap (λ (w : Line). w.port) h.is) ∙ spot.port ∙ k.port) in
      let time = ap (λ (a : Arrival). a.time) same.1 in
      let moment = ap (λ (w : Line). w.moment) h.is in
      omega (arith, time, moment, spot.moment, k.later)

  head_same : (u v : Line) → u ∷ [] ≡ v ∷ [] → u ≡ v
  head_same u v e = cc

  one_line : (u v : Line) → IsLine z xs u → IsLine z xs v → SameSpot u v → u ≡ v
  one_line u v (inl h) (inl k) spot =
      let same = one_at xs h.past k.past h.frame k.frame numbered h.at k.at
      (sym (ap (λ (w : Line). w.line) h.is) ∙ spot.line ∙ ap (λ (w : Line). w.line) k.is)
      (sym (ap (λ (w : Line). w.side) h.is) ∙ spot.side ∙ ap (λ (w : Line). w.side) k.is)
      (sym (ap (λ (w : Line). w.port) h.is) ∙ spot.port ∙ ap (λ (w : Line). w.port) k.is) in
      head_same u v (sym h.line
      ∙ ap₂ (λ (p : List Arrival) (x : Arrival). lines_when z p x) same.0 same.1 ∙ k.line)
  one_line u v (inl h) (inr k) spot = absurd (not_both u v h k spot)
  one_line u v (inr h) (inl k) spot = absurd (not_both v u k h (record {
    moment = sym spot.moment;
    side = sym spot.side;
    port = sym spot.port;
    line = sym spot.line;
  }))
  one_line u v (inr h) (inr k) spot =
      one_made u v spot (h.found ∙ ap (λ (n : ℕ). OfSource (Single n ∷ [])) spot.line ∙ sym k.found)

  one_rank : (u v : Line) → IsLine z xs u → IsLine z xs v → rank u ≡ rank v → u ≡ v
  one_rank u v h k e = one_line u v h k (spot_same u v (in_type u h) (in_type v k) e)

-- ---- two lists in order that weigh the same are one

abbrev WeighAlike : List Line → List Line → Type 0
WeighAlike us vs = (f : Line → ℕ) → sum_by f us ≡ sum_by f vs

one_if : Bool → ℕ
one_if true = 1
one_if false = 0

-- whether a line has this rank
has_rank : ℕ → Line → ℕ
has_rank n w = one_if (nat_eq (rank w) n)

module _ (M : Line → Type 0) (one : (u v : Line) → M u → M v → rank u ≡ rank v → u ≡ v) where
  none_of : (n : ℕ) (w : Line) → nat_eq (rank w) n ≡ false → has_rank n w ≡ 0
  unfolding has_rank one_if
  none_of n w e = ap one_if e

  one_of : (n : ℕ) (w : Line) → rank w ≡ n → has_rank n w ≡ 1
  unfolding has_rank one_if
  one_of n w e = ap one_if (eq-eqb (rank w) n e)

  -- where a line of that rank is among these, and none comes behind this rank
  not_above : (n most : ℕ) (ws : List Line) → AllByRecursion (λ w. rank w ≤ most) ws →
      0 < sum_by (has_rank n) ws → n ≤ most
  not_above n most [] h some = absurd (omega (arith, some))
  not_above n most (w ∷ ws) h some = by (nat_eq (rank w) n) refl (not_above n most ws h.1)
    where
      by : (b : Bool) → nat_eq (rank w) n ≡ b → (0 < sum_by (has_rank n) ws → n ≤ most) → n ≤ most
      by true e more = let same = eqb-true (rank w) n e in omega (arith, same, h.0)
      by false e more =
          let sums = sum_by-cons (has_rank n) w ws in
          let none = none_of n w e in
          more (omega (arith, some, sums, none))

  not_behind : (n : ℕ) (v : Line) (vs : List Line) → AreInOrder (v ∷ vs) → 0 < sum_by (has_rank n) (v ∷ vs) →
      n ≤ rank v
  not_behind n v vs order some =
      not_above n (rank v) (v ∷ vs) (omega arith, recursion_from_All (λ w. rank w ≤ rank v) vs order.0) some

  some_there : (v : Line) (vs : List Line) → 0 < sum_by (has_rank (rank v)) (v ∷ vs)
  some_there v vs =
      let sums = sum_by-cons (has_rank (rank v)) v vs in
      let here = one_of (rank v) v refl in
      omega (arith, sums, here)

  one_list : (us vs : List Line) → AllByRecursion M us → AllByRecursion M vs → AreInOrder us → AreInOrder vs →
      WeighAlike us vs → us ≡ vs
  one_list [] [] h k a b alike = refl
  one_list [] (v ∷ vs) h k a b alike =
      let e = alike (λ w. 1) in absurd (omega (arith, e, sum_by-cons (λ (w : Line). 1) v vs))
  one_list (u ∷ us) [] h k a b alike =
      let e = alike (λ w. 1) in absurd (omega (arith, e, sum_by-cons (λ (w : Line). 1) u us))
  one_list (u ∷ us) (v ∷ vs) h k a b alike =
      let low : rank u ≤ rank v = not_behind (rank u) v vs b
      (subst (λ (n : ℕ). 0 < n) (alike (has_rank (rank u))) (some_there u us)) in
      let high : rank v ≤ rank u = not_behind (rank v) u us a
      (subst (λ (n : ℕ). 0 < n) (sym (alike (has_rank (rank v)))) (some_there v vs)) in
      let same : u ≡ v = one u v h.0 k.0 (omega (arith, low, high)) in
      ap₂ (λ (w : Line) (ws : List Line). w ∷ ws) same
      (one_list us vs h.1 k.1 a.1 b.1
      (λ g. (let first = ap g same in omega (arith, alike g, sum_by-cons g u us, sum_by-cons g v vs, first))))

pub told_one : WhatIsToldIsOne
told_one z before xs told others small numbered a b =
    let all = All-filter (is_early before) (IsLine z xs) (all_lines z xs)
    (All-from_recursion (IsLine z xs) (all_lines z xs) (all_are_lines z xs small)) in
    let lines = filter (is_early before) (all_lines z xs) in
    one_list (IsLine z xs) (one_rank z xs numbered) told others
    (recursion_from_All (IsLine z xs) told
    (All-permutation (IsLine z xs) lines told (IsPermutation-sym told lines a.are) all))
    (recursion_from_All (IsLine z xs) others
    (All-permutation (IsLine z xs) lines others (IsPermutation-sym others lines b.are) all))
    a.in_order b.in_order
    (λ f. sym (sum_by-IsPermutation f told lines a.are) ∙ sum_by-IsPermutation f others lines b.are)
