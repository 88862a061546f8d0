-- The first turn of all switches is the first of both sides of its switch.
use Rattle.std.proofs.Common.{◌≡◌, ℕ, zero, suc, ◌+◌, ◌*◌, ◌<◌, ◌≤◌, ◌⊎◌, Bool, true, false, List, [], ◌∷◌}
use Rattle.std.proofs.Common.{refl, sym, ap, ◌∙◌, subst, arith, inl, inr, nat_lt, if◌then◌else◌}
use Rattle.std.specs.Prelude.{Option, Some, None, IfSome, slice_get}
use Rattle.afdx_frame.specs.declared.link.Side.{Side}
use Rattle.afdx_frame.specs.declared.link.Side.TheVariants.{A, B}
use Rattle.afdx_port.specs.Due.{order_of, IsBy}
use Rattle.afdx_port.specs.Ports.{order_at, order_without_turn}
use Rattle.afdx_port.specs.declared.left.Due.{Due}
use Rattle.afdx_network.specs.First.{IsFirstSide}
use Rattle.afdx_network.specs.Network.{TellsOrder, IsFirstBy}
use Rattle.afdx_network.specs.declared.network.Network.{Network}
use Rattle.afdx_cascade.specs.Scan.{IsFirstFrom, by_side, earlier_of, first_with}
use Rattle.afdx_cascade.specs.declared.scan.FirstTurn.{FirstTurn}

some-same : (a b : FirstTurn) → Some a ≡ Some b → a ≡ b
some-same a b e = cc e

-- of two turns the earlier one is one of them
by-side-either : (one two : Side) (first other : FirstTurn)
    → (by_side one two first other ≡ first) ⊎ (by_side one two first other ≡ other)
by-side-either B A first other = inr refl
by-side-either A A first other = inl refl
by-side-either A B first other = inl refl
by-side-either B B first other = inl refl

earlier-either : (first other : FirstTurn)
    → (earlier_of first (Some other) ≡ first) ⊎ (earlier_of first (Some other) ≡ other)
earlier-either first other = by (nat_lt other.order first.order) (nat_lt first.order other.order)
  where
    by : (a b : Bool)
        → ((if a then other else if b then first else by_side first.side other.side first other) ≡ first)
        ⊎ ((if a then other else if b then first else by_side first.side other.side first other) ≡ other)
    by true b = inr refl
    by false true = inl refl
    by false false = by-side-either first.side other.side first other

-- the switch of the first turn tells it
pub record IsToldAt (at : ℕ) (ns : List Network) (f : FirstTurn) : Type 0 where
  pub place : ℕ
  pub switch_is : f.switch.0 ≡ at + place
  pub n : Network
  pub here : slice_get ns place ≡ Some n
  pub tells : TellsOrder n f.order f.side

head-tells : (at : ℕ) (n : Network) (ns : List Network) (order : ℕ) (side : Side) (f : FirstTurn)
    → TellsOrder n order side → f ≡ first_with order at side → IsToldAt at (n ∷ ns) f
head-tells at n ns order side f tells is = record {
  place = zero;
  switch_is = (let e : f.switch.0 ≡ at = ap (λ (x : FirstTurn). x.switch.0) is in omega (arith, e));
  n = n;
  here = refl;
  tells = subst (λ (x : FirstTurn). TellsOrder n x.order x.side) (sym is) tells;
}

tail-tells : (at : ℕ) (n : Network) (ns : List Network) (f g : FirstTurn) → IsToldAt (at + 1) ns g → f ≡ g
    → IsToldAt at (n ∷ ns) f
tail-tells at n ns f g tail is = record {
  place = suc tail.place;
  switch_is = (let e : f.switch.0 ≡ g.switch.0 = ap (λ (x : FirstTurn). x.switch.0) is in
      let s = tail.switch_is in omega (arith, e, s));
  n = tail.n;
  here = tail.here;
  tells = subst (λ (x : FirstTurn). TellsOrder tail.n x.order x.side) (sym is) tail.tells;
}

first-tells : (at : ℕ) (ns : List Network) (f : FirstTurn) → IsFirstFrom at ns (Some f) → IsToldAt at ns f
first-tells at [] f is = absurd is
first-tells at (n ∷ ns) f (order, side, None, tells, rest, same) =
    head-tells at n ns order side f tells (some-same f (first_with order at side) same)
first-tells at (n ∷ ns) f (order, side, Some g, tells, rest, same) =
    let is = some-same f (earlier_of (first_with order at side) (Some g)) same in
    elim (earlier-either (first_with order at side) g) [
      | inl head ↦ head-tells at n ns order side f tells (is ∙ head)
      | inr tail ↦ tail-tells at n ns f g (first-tells (at + 1) ns g rest) (is ∙ tail)
    ]

-- a turn that stands here in the order of turns is given by then
record IsGivenAt (until order : ℕ) (o : Option Due) : Type 0 where
  due : Due
  is : o ≡ Some due
  in_time : IsBy until due

given-at : (until order : ℕ) (o : Option Due) → order ≡ order_at o → order < order_without_turn → order ≤ 2 * until
    → IsGivenAt until order o
given-at until order None is small low = absurd (omega (arith, is, small))
given-at until order (Some d) is small low =
    record { due = d; is = refl; in_time = by d.too_old is }
  where
    by : (b : Bool) → order ≡ 2 * d.time + (if b then 1 else 0) → d.time + (if b then 1 else 0) ≤ until
    by true e = omega (arith, e, low)
    by false e = omega (arith, e, low)

-- the other side's turn, if one is due, stands no earlier
at-least : (order number : ℕ) (o : Option Due) (d : Due) → number ≡ order_at o → order ≤ number
    → order ≡ order_of d → IfSome o (λ other. order_of d ≤ order_of other)
at-least order number None d is le own = tt
at-least order number (Some other) d is le own = omega (arith, is, le, own)

later : (order number : ℕ) (o : Option Due) (d : Due) → number ≡ order_at o → order < number
    → order ≡ order_of d → IfSome o (λ other. order_of d < order_of other)
later order number None d is lt own = tt
later order number (Some other) d is lt own = omega (arith, is, lt, own)

-- of both sides of a switch
pub first-by : (n : Network) (order until : ℕ) (side : Side) → TellsOrder n order side → order < order_without_turn
    → order ≤ 2 * until → IsFirstBy n until side
first-by n order until side tells small low = record {
  a = tells.tells_a.due;
  b = tells.tells_b.due;
  tells_a = tells.tells_a.tells;
  tells_b = tells.tells_b.tells;
  first = by side tells.first.at_a tells.first.at_b;
}
  where
    by : (s : Side) → (s ≡ A → order ≡ tells.a) → (s ≡ B → (order ≡ tells.b) × (order < tells.a))
        → IsFirstSide until tells.tells_a.due tells.tells_b.due (Some s)
    by A on_a on_b =
        let is : order ≡ order_at tells.tells_a.due = on_a refl ∙ tells.tells_a.is in
        let g = given-at until order tells.tells_a.due is small low in
        record {
          due = g.due;
          is = g.is;
          in_time = g.in_time;
          first = at-least order tells.b tells.tells_b.due g.due tells.tells_b.is tells.first.least_b
              (is ∙ ap (λ o. order_at o) g.is);
        }
    by B on_a on_b =
        let is : order ≡ order_at tells.tells_b.due = (on_b refl).0 ∙ tells.tells_b.is in
        let g = given-at until order tells.tells_b.due is small low in
        record {
          due = g.due;
          is = g.is;
          in_time = g.in_time;
          first = later order tells.a tells.tells_a.due g.due tells.tells_a.is (on_b refl).1
              (is ∙ ap (λ o. order_at o) g.is);
        }

-- the first turn of all
pub first-given : (networks : List Network) (f : FirstTurn) (until : ℕ) → IsFirstFrom 0 networks (Some f)
    → f.order < order_without_turn → f.order ≤ 2 * until → (n : Network)
    → slice_get networks f.switch.0 ≡ Some n → IsFirstBy n until f.side
first-given networks f until is small low n here =
    let told = first-tells 0 networks f is in
    let place : told.place ≡ f.switch.0 = (let s = told.switch_is in omega (arith, s)) in
    let there : slice_get networks f.switch.0 ≡ Some told.n =
    subst (λ k. slice_get networks k ≡ Some told.n) place told.here in
    let same : told.n ≡ n = cc (there, here) in
    subst (λ (m : Network). IsFirstBy m until f.side) same
    (first-by told.n f.order until f.side told.tells small low)
