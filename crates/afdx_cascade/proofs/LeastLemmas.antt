-- The least of the order numbers that the networks tell.
use Rattle.std.proofs.Common.{◌≡◌, ℕ, zero, suc, ◌+◌, ◌<◌, ◌≤◌, ◌⊎◌, true, List, [], ◌∷◌}
use Rattle.std.proofs.Common.{refl, sym, ap, ◌∙◌, subst, arith, inl, inr}
use Rattle.std.specs.Prelude.{Some, None}
use Rattle.std.proofs.lemmas.Bool.{cases_eq, cases_lt}
use Rattle.afdx_frame.specs.declared.link.Side.{Side}
use Rattle.afdx_frame.specs.declared.link.Side.TheVariants.{A, B}
use Rattle.afdx_port.proofs.TurnLemmas.{nat_lt-true, nat_lt-false}
use Rattle.afdx_network.specs.Network.{TellsOrder}
use Rattle.afdx_network.specs.Order.{is_below, side_number}
use Rattle.afdx_network.specs.declared.network.Network.{Network}
use Rattle.afdx_network.proofs.OrderLemmas.{below_first, below_next, below_trans}
use Rattle.afdx_cascade.specs.Scan.{IsFirstFrom, by_side, earlier_of, first_with}
use Rattle.afdx_cascade.specs.declared.scan.FirstTurn.{FirstTurn}
use Rattle.afdx_cascade.proofs.NumberLemmas.{beyond, told, number-small}

-- ---- the least of them

abbrev pub Cases : ℕ → ℕ → Side → ℕ → ℕ → Side → ℕ → Type 0
Cases at order side place told_order other j =
    ((j ≡ place) × (other ≡ side))
    ⊎ ((order < told_order)
    ⊎ ((order ≡ told_order)
    × (is_below (side_number side ∷ (at + place) ∷ []) (side_number other ∷ (at + j) ∷ []) ≡ true)))

pub record Least (at : ℕ) (ns : List Network) (f : FirstTurn)
    (is : IsFirstFrom at ns (Some f)) : Type 0 where
  pub place : ℕ
  pub switch_is : f.switch.0 ≡ at + place
  pub order_is : f.order ≡ told at ns (Some f) is place f.side
  pub small : f.order < beyond
  pub least : (j : ℕ) (other : Side)
      → Cases at f.order f.side place (told at ns (Some f) is j other) other j

side-first : (at place j : ℕ)
    → is_below (side_number A ∷ (at + place) ∷ []) (side_number B ∷ (at + j) ∷ []) ≡ true
side-first at place j = below_first 0 1 ((at + place) ∷ []) ((at + j) ∷ []) (omega arith)

place-first : (at place j : ℕ) (side : Side) → place < j
    → is_below (side_number side ∷ (at + place) ∷ []) (side_number side ∷ (at + j) ∷ []) ≡ true
place-first at place j side lt =
    below_next (side_number side) (side_number side) ((at + place) ∷ []) ((at + j) ∷ [])
    (omega arith)
    (below_first (at + place) (at + j) [] [] (omega (arith, lt)))

-- the head is the first: its own switches
head-own : (at : ℕ) (n : Network) (order : ℕ) (side : Side) (tells : TellsOrder n order side)
    (other : Side)
    → Cases at order side 0 (elim other as (λ s. ℕ) [ A ↦ tells.a | B ↦ tells.b ]) other 0
head-own at n order A tells A = inl (refl, refl)
head-own at n order B tells B = inl (refl, refl)
head-own at n order B tells A = let lt = (tells.first.at_b refl).1 in inr (inl lt)
head-own at n order A tells B = elim (cases_eq order tells.b) [
  | inl same ↦ inr (inr (same, side-first at 0 0))
  | inr apart ↦ (let le = tells.first.least_b in inr (inl (omega (arith, le, apart))))
]

-- one behind is the first: the head's switches
head-other : (at : ℕ) (n : Network) (order : ℕ) (side : Side) (tells : TellsOrder n order side)
    (f_order place : ℕ) (f_side : Side)
    → (f_order < order) ⊎ ((f_order ≡ order) × (f_side ≡ A) × (side ≡ B)) → (other : Side)
    → Cases at f_order f_side (suc place)
    (elim other as (λ s. ℕ) [ A ↦ tells.a | B ↦ tells.b ]) other 0
head-other at n order side tells f_order place f_side (inl lt) A =
    let le = tells.first.least_a in inr (inl (omega (arith, lt, le)))
head-other at n order side tells f_order place f_side (inl lt) B =
    let le = tells.first.least_b in inr (inl (omega (arith, lt, le)))
head-other at n order side tells f_order place f_side (inr h) A =
    let lt = (tells.first.at_b h.2).1 in let same = h.0 in inr (inl (omega (arith, same, lt)))
head-other at n order side tells f_order place f_side (inr h) B = elim (cases_eq f_order tells.b) [
  | inl same ↦ inr (inr (
    same,
    subst (λ s. is_below (side_number s ∷ (at + suc place) ∷ []) (side_number B ∷ (at + 0) ∷ [])
        ≡ true)
        (sym h.1) (side-first at (suc place) 0),
  ))
  | inr apart ↦ (let le = tells.first.least_b in let eq = h.0 in
      inr (inl (omega (arith, le, apart, eq))))
]

-- a switch behind, by the tail
tail-cases : (at place j : ℕ) (order : ℕ) (side other : Side) (number : ℕ)
    → Cases (at + 1) order side place number other j
    → Cases at order side (suc place) number other (suc j)
tail-cases at place j order side other number (inl same) = inl (ap suc same.0, same.1)
tail-cases at place j order side other number (inr (inl lt)) = inr (inl lt)
tail-cases at place j order side other number (inr (inr h)) = inr (inr (
  h.0,
  subst (λ m. is_below (side_number side ∷ m ∷ []) (side_number other ∷ (at + suc j) ∷ []) ≡ true)
      (omega arith)
      (subst (λ m. is_below (side_number side ∷ ((at + 1) + place) ∷ [])
      (side_number other ∷ m ∷ []) ≡ true) (omega arith) h.1),
))

-- the head is before the first of the tail, so before all of it
head-before : (at : ℕ) (order : ℕ) (side : Side) (f_order place : ℕ) (f_side : Side)
    → (order < f_order) ⊎ ((order ≡ f_order)
    × (is_below (side_number side ∷ (at + 0) ∷ []) (side_number f_side ∷ (at + suc place) ∷ [])
    ≡ true))
    → (j : ℕ) (other : Side) (number place_number : ℕ) → f_order ≡ place_number
    → (j ≡ place → other ≡ f_side → number ≡ place_number)
    → Cases at f_order f_side (suc place) number other (suc j)
    → Cases at order side 0 number other (suc j)
head-before at order side f_order place f_side before j other number place_number is same (inl h) =
    let at-place : j ≡ place = (let e = h.0 in omega (arith, e)) in
    let number_is = same at-place h.1 in
    elim before [
      | inl lt ↦ inr (inl (omega (arith, lt, is, number_is)))
      | inr eq ↦ inr (inr (
        (let first = eq.0 in omega (arith, first, is, number_is)),
        subst (λ k. is_below (side_number side ∷ (at + 0) ∷ [])
            (side_number other ∷ (at + suc k) ∷ []) ≡ true) (sym at-place)
            (subst (λ s. is_below (side_number side ∷ (at + 0) ∷ [])
            (side_number s ∷ (at + suc place) ∷ []) ≡ true) (sym h.1) eq.1),
      ))
    ]
head-before at order side f_order place f_side before j other number place_number is same
    (inr (inl lt)) = elim before [
      | inl less ↦ inr (inl (omega (arith, less, lt)))
      | inr eq ↦ (let first = eq.0 in inr (inl (omega (arith, first, lt))))
    ]
head-before at order side f_order place f_side before j other number place_number is same
    (inr (inr h)) = elim before [
      | inl less ↦ (let eq = h.0 in inr (inl (omega (arith, less, eq))))
      | inr eq ↦ (let one = eq.0 in let two = h.0 in inr (inr (
        omega (arith, one, two),
        below_trans (side_number side ∷ (at + 0) ∷ []) (side_number f_side ∷ (at + suc place) ∷ [])
            (side_number other ∷ (at + suc j) ∷ []) eq.1 h.1,
      )))
    ]

-- the first of the head and of the first behind
picked : (at : ℕ) (n : Network) (ns : List Network) (order : ℕ) (side : Side)
    (tells : TellsOrder n order side)
    (g f : FirstTurn) (rest : IsFirstFrom (at + 1) ns (Some g)) (same : Some f
    ≡ Some (earlier_of (first_with order at side) (Some g)))
    → Least (at + 1) ns g rest → Least at (n ∷ ns) f (order, side, Some g, tells, rest, same)
picked at n ns order side tells g f rest same tail =
    elim (cases_lt g.order order) [
      | inl lt ↦ (let is : f ≡ g = some-same f _ same ∙ pick-other lt in other-first is (inl lt))
      | inr le ↦ elim (cases_lt order g.order) [
        | inl less ↦ (let is : f ≡ first_with order at side = some-same f _ same
            ∙ pick-first le less in own-first is (inl less))
        | inr ge ↦ equal (omega (arith, le, ge))
      ]
    ]
  where
    some-same : (a b : FirstTurn) → Some a ≡ Some b → a ≡ b
    some-same a b e = cc e

    pick-other : g.order < order → earlier_of (first_with order at side) (Some g) ≡ g
    pick-other lt = rw (nat_lt-true g.order order lt) refl

    pick-first : order ≤ g.order → order < g.order
        → earlier_of (first_with order at side) (Some g) ≡ first_with order at side
    pick-first le lt = rw (nat_lt-false g.order order le, nat_lt-true order g.order lt) refl

    pick-side : order ≡ g.order → earlier_of (first_with order at side) (Some g)
        ≡ by_side side g.side (first_with order at side) g
    pick-side e = rw (
      nat_lt-false g.order order (omega (arith, e)),
      nat_lt-false order g.order (omega (arith, e)),
    ) refl

    tail-number : (j : ℕ) (s : Side) → ℕ
    tail-number j s = told (at + 1) ns (Some g) rest j s

    number-of : (j : ℕ) (s : Side) → ℕ
    number-of j s = told at (n ∷ ns) (Some f) (order, side, Some g, tells, rest, same) j s

    head-number : (s : Side) → number-of 0 s ≡ (elim s as (λ x. ℕ) [ A ↦ tells.a | B ↦ tells.b ])
    head-number A = refl
    head-number B = refl

    other-first : f ≡ g → (g.order < order) ⊎ ((g.order ≡ order) × (g.side ≡ A) × (side ≡ B))
        → Least at (n ∷ ns) f (order, side, Some g, tells, rest, same)
    other-first is before = record {
      place = suc tail.place;
      switch_is = (let s : f.switch.0 ≡ g.switch.0 = ap (λ (x : FirstTurn). x.switch.0) is in
          let t = tail.switch_is in omega (arith, s, t));
      order_is = ap (λ (x : FirstTurn). x.order) is ∙ tail.order_is
          ∙ ap (λ (x : FirstTurn). tail-number tail.place x.side) (sym is);
      small = (let o : f.order ≡ g.order = ap (λ (x : FirstTurn). x.order) is in let t = tail.small in
          omega (arith, o, t));
      least = λ j other. each j other;
    }
      where
        each : (j : ℕ) (other : Side)
            → Cases at f.order f.side (suc tail.place) (number-of j other) other j
        each zero other = subst (λ (x : FirstTurn).
            Cases at x.order x.side (suc tail.place) (number-of 0 other) other 0) (sym is)
            (subst (λ m. Cases at g.order g.side (suc tail.place) m other 0)
            (sym (head-number other))
            (head-other at n order side tells g.order tail.place g.side before other))
        each (suc j) other = subst (λ (x : FirstTurn).
            Cases at x.order x.side (suc tail.place) (number-of (suc j) other) other (suc j))
            (sym is)
            (tail-cases at tail.place j g.order g.side other (tail-number j other)
            (tail.least j other))

    own-first : f ≡ first_with order at side → (order < g.order) ⊎ ((order ≡ g.order)
        × (is_below (side_number side ∷ (at + 0) ∷ [])
        (side_number g.side ∷ (at + suc tail.place) ∷ []) ≡ true))
        → Least at (n ∷ ns) f (order, side, Some g, tells, rest, same)
    own-first is before = record {
      place = 0;
      switch_is = ap (λ (x : FirstTurn). x.switch.0) is ∙ omega arith;
      order_is = ap (λ (x : FirstTurn). x.order) is ∙ order-is side refl
          ∙ ap (λ (x : FirstTurn). number-of 0 x.side) (sym is);
      small = (let o : f.order ≡ order = ap (λ (x : FirstTurn). x.order) is in
          let a = number-small n.switches.a tells.a tells.tells_a in let le = tells.first.least_a in
          omega (arith, o, a, le));
      least = λ j other. each j other;
    }
      where
        order-is : (s : Side) → side ≡ s → order ≡ number-of 0 side
        order-is A e = tells.first.at_a e ∙ ap (number-of 0) (sym e)
        order-is B e = (tells.first.at_b e).0 ∙ ap (number-of 0) (sym e)

        each : (j : ℕ) (other : Side) → Cases at f.order f.side 0 (number-of j other) other j
        each zero other = subst (λ (x : FirstTurn).
            Cases at x.order x.side 0 (number-of 0 other) other 0) (sym is)
            (subst (λ m. Cases at order side 0 m other 0) (sym (head-number other))
            (head-own at n order side tells other))
        each (suc j) other = subst (λ (x : FirstTurn).
            Cases at x.order x.side 0 (number-of (suc j) other) other (suc j)) (sym is)
            (head-before at order side g.order tail.place g.side before j other
            (tail-number j other)
            (tail-number tail.place g.side) tail.order_is
            (λ p s. ap (λ k. tail-number k other) p ∙ ap (tail-number tail.place) s)
            (tail-cases at tail.place j g.order g.side other (tail-number j other)
            (tail.least j other)))

    equal : order ≡ g.order → Least at (n ∷ ns) f (order, side, Some g, tells, rest, same)
    equal e = by side g.side refl refl
      where
        by : (s r : Side) → side ≡ s → g.side ≡ r
            → Least at (n ∷ ns) f (order, side, Some g, tells, rest, same)
        by A A i h = own-first (some-same f _ same ∙ pick-side e ∙ rw (i, h) refl)
            (inr (e, rw (i, h) (place-first at 0 (suc tail.place) A (omega arith))))
        by A B i h = own-first (some-same f _ same ∙ pick-side e ∙ rw (i, h) refl)
            (inr (e, rw (i, h) (side-first at 0 (suc tail.place))))
        by B B i h = own-first (some-same f _ same ∙ pick-side e ∙ rw (i, h) refl)
            (inr (e, rw (i, h) (place-first at 0 (suc tail.place) B (omega arith))))
        by B A i h = other-first (some-same f _ same ∙ pick-side e
            ∙ rw (i, h) refl) (inr (sym e, h, i))

alone : (at : ℕ) (n : Network) (order : ℕ) (side : Side) (tells : TellsOrder n order side)
    (f : FirstTurn)
    (rest : IsFirstFrom (at + 1) [] None) (same : Some f ≡ Some (first_with order at side))
    → Least at (n ∷ []) f (order, side, None, tells, rest, same)
alone at n order side tells f rest same = record {
  place = 0;
  switch_is = ap (λ (x : FirstTurn). x.switch.0) is ∙ omega arith;
  order_is = ap (λ (x : FirstTurn). x.order) is ∙ order-is side refl
      ∙ ap (λ (x : FirstTurn). number-of 0 x.side) (sym is);
  small = (let o : f.order ≡ order = ap (λ (x : FirstTurn). x.order) is in
      let a = number-small n.switches.a tells.a tells.tells_a in let le = tells.first.least_a in
      omega (arith, o, a, le));
  least = λ j other. each j other;
}
  where
    is : f ≡ first_with order at side
    is = cc same

    number-of : (j : ℕ) (s : Side) → ℕ
    number-of j s = told at (n ∷ []) (Some f) (order, side, None, tells, rest, same) j s

    head-number : (s : Side) → number-of 0 s ≡ (elim s as (λ x. ℕ) [ A ↦ tells.a | B ↦ tells.b ])
    head-number A = refl
    head-number B = refl

    order-is : (s : Side) → side ≡ s → order ≡ number-of 0 side
    order-is A e = tells.first.at_a e ∙ ap (number-of 0) (sym e)
    order-is B e = (tells.first.at_b e).0 ∙ ap (number-of 0) (sym e)

    each : (j : ℕ) (other : Side) → Cases at f.order f.side 0 (number-of j other) other j
    each zero other = subst (λ (x : FirstTurn). Cases at x.order x.side 0 (number-of 0 other) other 0)
        (sym is)
        (subst (λ m. Cases at order side 0 m other 0) (sym (head-number other))
        (head-own at n order side tells other))
    each (suc j) other = inr (inl (let o : f.order ≡ order = ap (λ (x : FirstTurn). x.order) is in
        let a = number-small n.switches.a tells.a tells.tells_a in let le = tells.first.least_a in
        omega (arith, o, a, le)))

pub all-least : (at : ℕ) (ns : List Network) (f : FirstTurn) (is : IsFirstFrom at ns (Some f))
    → Least at ns f is
all-least at [] f is = absurd is
all-least at (n ∷ []) f (order, side, None, tells, rest, same) =
    alone at n order side tells f rest same
all-least at (n ∷ (m ∷ ms)) f (order, side, None, tells, rest, same) = absurd (cc (rest.5))
all-least at (n ∷ ns) f (order, side, Some g, tells, rest, same) =
    picked at n ns order side tells g f rest same (all-least (at + 1) ns g rest)

pub drop-zero : (m j s t : ℕ) → is_below (s ∷ (0 + m) ∷ []) (t ∷ (0 + j) ∷ []) ≡ true
    → is_below (s ∷ m ∷ []) (t ∷ j ∷ []) ≡ true
drop-zero m j s t h =
    let one : 0 + m ≡ m = omega arith in
    let two : 0 + j ≡ j = omega arith in
    subst (λ a. is_below (s ∷ a ∷ []) (t ∷ j ∷ []) ≡ true) one
    (subst (λ b. is_below (s ∷ (0 + m) ∷ []) (t ∷ b ∷ []) ≡ true) two h)
