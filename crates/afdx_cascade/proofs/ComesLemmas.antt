-- The first turn of all: it comes, and no switch has an earlier one.
use Rattle.std.proofs.Common.{◌≡◌, ℕ, zero, suc, ◌+◌, ◌*◌, ◌<◌, ◌≤◌, ◌⊎◌, Bool, true, false, List}
use Rattle.std.proofs.Common.{[], ◌∷◌, length, refl, sym, ap, ◌∙◌, subst, arith, inl, inr, nat_lt}
use Rattle.std.specs.Prelude.{if◌then◌else◌, Option, Some, None, slice_get, IfSome}
use Rattle.std.proofs.lemmas.Bool.{cases_lt}
use Rattle.afdx_frame.specs.declared.link.Side.{Side}
use Rattle.afdx_frame.specs.declared.link.Side.TheVariants.{A, B}
use Rattle.afdx_config.specs.Rows.{Rows}
use Rattle.afdx_port.specs.declared.left.Due.{Due}
use Rattle.afdx_port.specs.Due.{order_of, IsAfter}
use Rattle.afdx_port.specs.History.{due_at}
use Rattle.afdx_port.specs.Ports.{order_at, order_without_turn}
use Rattle.afdx_port.proofs.TurnLemmas.{nat_lt-true, nat_lt-false}
use Rattle.afdx_switch.specs.Switching as switch
use Rattle.afdx_switch.specs.Switching.{PortTurn, IsNextOf, IsDue}
use Rattle.afdx_network.specs.Events.{Event, calls_on}
use Rattle.afdx_network.specs.Network as network
use Rattle.afdx_network.specs.Network.{TellsOrder}
use Rattle.afdx_network.specs.declared.network.Network.{Network}
use Rattle.afdx_cascade.specs.SwitchEvents.{Plan, SwitchEvent, at_switch}
use Rattle.afdx_cascade.specs.Scan.{IsFirstFrom, by_side, earlier_of, first_with}
use Rattle.afdx_cascade.specs.Found.{AllStand}
use Rattle.afdx_cascade.specs.declared.scan.FirstTurn.{FirstTurn}

-- ---- a switch's number is that of its next turn

record Comes (t : Rows) (side : Side) (events : List Event) (order : ℕ) : Type 0 where
  pub gone : PortTurn
  pub next : IsNextOf t side (calls_on side events 0) gone
  pub order_is : order ≡ order_of (due_at gone.turn)

by-due : (t : Rows) (side : Side) (events : List Event) (time order : ℕ) (o : Option Due)
    → order ≡ order_at o
    → order < order_without_turn → IfSome o (λ d. IsDue t side (calls_on side events time) d)
    → Comes t side events order
by-due t side events time order None is small due = absurd (omega (arith, is, small))
by-due t side events time order (Some d) is small due = record {
  gone = due.gone;
  next = record {
    port_first = due.next.port_first;
    port_last = due.next.port_last;
    next = due.next.next;
    first = due.next.first;
  };
  order_is = is ∙ ap (λ z. order_of z) due.is;
}

head-comes : (t : Rows) (n : Network) (events : List Event) (order : ℕ) (side : Side)
    → network.StandsFor t n events
    → TellsOrder n order side → order < order_without_turn → Comes t side events order
head-comes t n events order A st tells small =
    by-due t A events (switch.last_time n.switches.a) order tells.tells_a.due (tells.first.at_a refl
    ∙ tells.tells_a.is) small
    (tells.tells_a.tells.comes t A (calls_on A events (switch.last_time n.switches.a)) st.on_a)
head-comes t n events order B st tells small =
    by-due t B events (switch.last_time n.switches.b) order tells.tells_b.due
    ((tells.first.at_b refl).0 ∙ tells.tells_b.is) small
    (tells.tells_b.tells.comes t B (calls_on B events (switch.last_time n.switches.b)) st.on_b)

-- ---- which one is found

pick-side : (s r : Side) (a g : FirstTurn) → (by_side s r a g ≡ a) ⊎ (by_side s r a g ≡ g)
pick-side A A a g = inl refl
pick-side A B a g = inl refl
pick-side B A a g = inr refl
pick-side B B a g = inl refl

pick : (a g : FirstTurn) → (earlier_of a (Some g) ≡ a) ⊎ (earlier_of a (Some g) ≡ g)
pick a g = by (nat_lt g.order a.order) (nat_lt a.order g.order)
  where
    by : (p q : Bool) → ((if p then g else if q then a else by_side a.side g.side a g) ≡ a)
        ⊎ ((if p then g else if q then a else by_side a.side g.side a g) ≡ g)
    by true q = inr refl
    by false true = inl refl
    by false false = pick-side a.side g.side a g

-- and it has the less number
less : (a g : FirstTurn) → ((earlier_of a (Some g)).order ≤ a.order)
    × ((earlier_of a (Some g)).order ≤ g.order)
less a g = elim (cases_lt g.order a.order) [
  | inl lt ↦ (let is : earlier_of a (Some g) ≡ g = rw (nat_lt-true g.order a.order lt) refl in
      let o = ap (λ (x : FirstTurn). x.order) is in (omega (arith, o, lt), omega (arith, o)))
  | inr le ↦ elim (cases_lt a.order g.order) [
    | inl lt ↦ (let is : earlier_of a (Some g) ≡ a =
        rw (nat_lt-false g.order a.order le, nat_lt-true a.order g.order lt) refl in
        let o = ap (λ (x : FirstTurn). x.order) is in (omega (arith, o), omega (arith, o, lt)))
    | inr ge ↦ elim (pick a g) [
      | inl is ↦ (let o = ap (λ (x : FirstTurn). x.order) is in
          (omega (arith, o), omega (arith, o, le, ge)))
      | inr is ↦ (let o = ap (λ (x : FirstTurn). x.order) is in
          (omega (arith, o, le, ge), omega (arith, o)))
    ]
  ]
]

some-same : (a b : FirstTurn) → Some a ≡ Some b → a ≡ b
some-same a b e = cc e

-- ---- the scan

-- it is the next turn of its switch
pub record FirstComes (c : Plan) (so_far : List SwitchEvent) (at : ℕ) (ns : List Network)
    (f : FirstTurn) : Type 0 where
  pub place : ℕ
  pub below : place < length ns
  pub switch_is : f.switch.0 ≡ at + place
  pub gone : PortTurn
  pub next : IsNextOf (c.tables f.switch.0) f.side
      (calls_on f.side (at_switch f.switch.0 so_far) 0) gone
  pub order_is : f.order ≡ order_of (due_at gone.turn)

comes-from : (c : Plan) (so_far : List SwitchEvent) (at : ℕ) (ns : List Network) (f : FirstTurn)
    → ((j : ℕ) (n : Network) → slice_get ns j ≡ Some n
    → network.StandsFor (c.tables (at + j)) n (at_switch (at + j) so_far))
    → f.order < order_without_turn → IsFirstFrom at ns (Some f) → FirstComes c so_far at ns f
comes-from c so_far at [] f each small is = absurd is
comes-from c so_far at (n ∷ ns) f each small (order, side, None, tells, rest, same) =
    own (some-same f (first_with order at side) same)
  where
    own : f ≡ first_with order at side → FirstComes c so_far at (n ∷ ns) f
    own is =
        let o : f.order ≡ order = ap (λ (x : FirstTurn). x.order) is in
        let k : f.switch.0 ≡ at + 0 = ap (λ (x : FirstTurn). x.switch.0) is ∙ omega arith in
        let s : f.side ≡ side = ap (λ (x : FirstTurn). x.side) is in
        let comes : Comes (c.tables f.switch.0) f.side (at_switch f.switch.0 so_far) f.order =
        subst (λ j. Comes (c.tables j) f.side (at_switch j so_far) f.order) (sym k)
        (subst (λ z. Comes (c.tables (at + 0)) z (at_switch (at + 0) so_far) f.order) (sym s)
        (subst (λ m. Comes (c.tables (at + 0)) side (at_switch (at + 0) so_far) m) (sym o)
        (head-comes (c.tables (at + 0)) n (at_switch (at + 0) so_far) order side
        (each 0 n refl) tells (omega (arith, o, small))))) in
        record {
          place = 0;
          below = omega arith;
          switch_is = k;
          gone = comes.gone;
          next =
              comes.next;
          order_is = comes.order_is;
        }
comes-from c so_far at (n ∷ ns) f each small (order, side, Some g, tells, rest, same) =
    elim (pick (first_with order at side) g) [
      | inl is ↦ own (some-same f (earlier_of (first_with order at side) (Some g)) same ∙ is)
      | inr is ↦ behind (some-same f (earlier_of (first_with order at side) (Some g)) same ∙ is)
          (λ little. comes-from c so_far (at + 1) ns g
          (λ i m at-i. subst (λ k. network.StandsFor (c.tables k) m (at_switch k so_far))
          (omega arith) (each (suc i) m at-i))
          little rest)
    ]
  where
    own : f ≡ first_with order at side → FirstComes c so_far at (n ∷ ns) f
    own is =
        let o : f.order ≡ order = ap (λ (x : FirstTurn). x.order) is in
        let k : f.switch.0 ≡ at + 0 = ap (λ (x : FirstTurn). x.switch.0) is ∙ omega arith in
        let s : f.side ≡ side = ap (λ (x : FirstTurn). x.side) is in
        let comes : Comes (c.tables f.switch.0) f.side (at_switch f.switch.0 so_far) f.order =
        subst (λ j. Comes (c.tables j) f.side (at_switch j so_far) f.order) (sym k)
        (subst (λ z. Comes (c.tables (at + 0)) z (at_switch (at + 0) so_far) f.order) (sym s)
        (subst (λ m. Comes (c.tables (at + 0)) side (at_switch (at + 0) so_far) m) (sym o)
        (head-comes (c.tables (at + 0)) n (at_switch (at + 0) so_far) order side
        (each 0 n refl) tells (omega (arith, o, small))))) in
        record {
          place = 0;
          below = omega arith;
          switch_is = k;
          gone = comes.gone;
          next =
              comes.next;
          order_is = comes.order_is;
        }

    behind : f ≡ g → (g.order < order_without_turn → FirstComes c so_far (at + 1) ns g)
        → FirstComes c so_far at (n ∷ ns) f
    behind is tail-comes =
        let o : f.order ≡ g.order = ap (λ (x : FirstTurn). x.order) is in
        let tail = tail-comes (omega (arith, o, small)) in
        let whole : FirstComes c so_far (at + 1) ns f =
        subst (λ x. FirstComes c so_far (at + 1) ns x) (sym is) tail in
        record {
          place = suc whole.place;
          below = (let b = whole.below in omega (arith, b));
          switch_is = (let s = whole.switch_is in omega (arith, s));
          gone = whole.gone;
          next = whole.next;
          order_is = whole.order_is;
        }

pub scan-comes : (c : Plan) (so_far : List SwitchEvent) (ns : List Network) (f : FirstTurn)
    → AllStand c ns so_far
    → IsFirstFrom 0 ns (Some f) → f.order < order_without_turn → FirstComes c so_far 0 ns f
scan-comes c so_far ns f all is small =
    comes-from c so_far 0 ns f
    (λ j n at. subst (λ m. network.StandsFor (c.tables m) n (at_switch m so_far)) (omega arith)
    (all.each j n at)) small is

-- each switch has a number, which is no less
pub record IsTold (n : Network) (f : FirstTurn) : Type 0 where
  pub order : ℕ
  pub side : Side
  pub tells : TellsOrder n order side
  pub least : f.order ≤ order

pub told-from : (at : ℕ) (ns : List Network) (f : FirstTurn) → IsFirstFrom at ns (Some f)
    → (j : ℕ) (n : Network)
    → slice_get ns j ≡ Some n → IsTold n f
told-from at [] f is j n here = absurd is
told-from at (m ∷ ns) f (order, side, None, tells, rest, same) zero n here =
    let o : f.order ≡ order =
    ap (λ (x : FirstTurn). x.order) (some-same f (first_with order at side) same) in
    let there : m ≡ n = cc here in
    subst (λ z. IsTold z f) there
    (record { order = order; side = side; tells = tells; least = omega (arith, o) })
told-from at (m ∷ []) f (order, side, None, tells, rest, same) (suc j) n here = absurd (cc here)
told-from at (m ∷ (x ∷ xs)) f (order, side, None, tells, rest, same) (suc j) n here =
    absurd (cc (rest.5))
told-from at (m ∷ ns) f (order, side, Some g, tells, rest, same) zero n here =
    let o : f.order ≡ (earlier_of (first_with order at side) (Some g)).order =
    ap (λ (x : FirstTurn). x.order)
    (some-same f (earlier_of (first_with order at side) (Some g)) same) in
    let le = (less (first_with order at side) g).0 in
    let there : m ≡ n = cc here in
    subst (λ z. IsTold z f) there
    (record { order = order; side = side; tells = tells; least = omega (arith, o, le) })
told-from at (m ∷ ns) f (order, side, Some g, tells, rest, same) (suc j) n here =
    let o : f.order ≡ (earlier_of (first_with order at side) (Some g)).order =
    ap (λ (x : FirstTurn). x.order)
    (some-same f (earlier_of (first_with order at side) (Some g)) same) in
    let le = (less (first_with order at side) g).1 in
    let tail = told-from (at + 1) ns g rest j n here in
    record {
      order = tail.order;
      side = tail.side;
      tells = tail.tells;
      least = let t = tail.least in
          omega (arith, o, le, t);
    }

-- a network none of whose turns stands by then is quiet
after-it : (time order : ℕ) (o : Option Due) → order ≡ order_at o → 2 * time < order
    → IfSome o (λ d. IsAfter time d)
after-it time order None is late = tt
after-it time order (Some d) is late = by d.too_old is late
  where
    by : (b : Bool) → order ≡ 2 * d.time + (if b then 1 else 0) → 2 * time < order
        → time < d.time + (if b then 1 else 0)
    by true e l = omega (arith, e, l)
    by false e l = omega (arith, e, l)

pub quiet-then : (n : Network) (f : FirstTurn) (time : ℕ) → IsTold n f → 2 * time < f.order
    → network.IsQuiet n time
quiet-then n f time told late = record {
  on_a = (told.tells.tells_a.tells.quiet time).1
      (after-it time told.tells.a told.tells.tells_a.due told.tells.tells_a.is
      (let le = told.least in let a = told.tells.first.least_a in omega (arith, late, le, a)));
  on_b = (told.tells.tells_b.tells.quiet time).1
      (after-it time told.tells.b told.tells.tells_b.due told.tells.tells_b.is
      (let le = told.least in let b = told.tells.first.least_b in omega (arith, late, le, b)));
}
