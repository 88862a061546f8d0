-- On a side a frame is accepted at most once at each switch.
use Rattle.std.proofs.Common.{◌≡◌, ℕ, suc, ◌≤◌, ◌==◌, ◌&&◌, Bool, true, false, List, [], ◌∷◌, ◌++◌}
use Rattle.std.proofs.Common.{refl, sym, ap, ◌∙◌, subst, arith}
use Rattle.std.specs.Prelude.{if◌then◌else◌, is_none, Option, Some, None}
use Rattle.std.specs.List.{AllByRecursion}
use Rattle.std.proofs.lemmas.Bool.{and_parts, eqb-true}
use Rattle.afdx_frame.specs.declared.link.Side.{Side}
use Rattle.afdx_config.specs.Rows.{Rows}
use Rattle.afdx_police.specs.Arrival.{Arrival, is_side, names}
use Rattle.afdx_police.specs.declared.shape.Reason.{Reason}
use Rattle.afdx_port.specs.Schedule.{AreTurns}
use Rattle.afdx_switch.specs.Switching.{taken_at}
use Rattle.afdx_switch.specs.Tables.{byte_ns_at, entries_at}
use Rattle.afdx_switch.specs.Verdicts.{reason_of}
use Rattle.afdx_network.specs.Events.{Event, Came, Left, Admission, arrivals_in, turns_on}
use Rattle.afdx_law_promises.specs.Sent.{arrivals_at}
use Rattle.afdx_cascade.specs.Cables.{brought_by}
use Rattle.afdx_cascade.specs.SwitchEvents.{Plan, IsPlan, End, SwitchEvent, FrameTest, AlwaysKeepsRules}
use Rattle.afdx_cascade.specs.SwitchEvents.{accepted_by, at_switch, came_to, count_if, in_clock, passes, listed, turns_of, with_listed}
use Rattle.afdx_cascade.specs.Once.{AcceptsAtMostListed, AcceptsLineOnce, has_tag}
use Rattle.afdx_cascade.proofs.CountLemmas.{count-more, count-append, by-names}
use Rattle.afdx_cascade.proofs.AcceptedLemmas.{taken-in, alike, IsOfLink, meant-parts, meant, all-at-port, at-port-count, entries-few, left-few, no-taken}

-- ---- the cascade

-- an event more
listed-more : (c : Plan) (h : SwitchEvent) (before : List SwitchEvent) (test : Arrival → Bool)
    → count_if test (listed c before) ≤ count_if test (listed c (h ∷ before))
listed-more c h before test = by h.event
  where
    one : (b : Bool) (x : Arrival) → count_if test (listed c before)
        ≤ count_if test (if b then x ∷ listed c before else listed c before)
    one true x = let more = count-more test x (listed c before) in omega (arith, more)
    one false x = omega arith

    by : (e : Event) → count_if test (listed c before)
        ≤ count_if test (with_listed c h.switch e (listed c before))
    by (Came a) = one (is_none (c.far_end h.switch a.arrival.port)) a.arrival
    by (Left d) = omega arith

-- where no cable is, all is of the list
from-list : (c : Plan) (so_far : List SwitchEvent) (k port : ℕ) (side : Side) (test : Arrival
    → Bool)
    → c.far_end k port ≡ None
    → count_if test (arrivals_at side port (came_to k so_far)) ≤ count_if test (listed c so_far)
from-list c [] k port side test free = omega arith
from-list c (h ∷ before) k port side test free =
    by (h.switch == k) refl h.event (from-list c before k port side test free)
    (listed-more c h before test)
  where
    one : (f : Bool) (x : Arrival) → (is_side side x.side && (port == x.port)) ≡ f
        → (h.switch == k) ≡ true
        → count_if test (arrivals_at side port (came_to k before)) ≤ count_if test (listed c before)
        → count_if test (if f then x ∷ arrivals_at side port (came_to k before)
        else arrivals_at side port (came_to k before))
        ≤ count_if test (if is_none (c.far_end h.switch x.port) then x ∷ listed c before
        else listed c before)
    one true x is here rest =
        let at = eqb-true port x.port (and_parts (is_side side x.side) (port == x.port) is).1 in
        let none : c.far_end h.switch x.port ≡ None =
        subst (λ m. c.far_end m x.port ≡ None) (sym (eqb-true h.switch k here))
        (subst (λ p. c.far_end k p ≡ None) at free) in
        let left = count-more test x (arrivals_at side port (came_to k before)) in
        let right = count-more test x (listed c before) in
        rw none (omega (arith, rest, left, right))
    one false x is here rest = by-none (is_none (c.far_end h.switch x.port))
      where
        by-none : (b : Bool) → count_if test (arrivals_at side port (came_to k before))
            ≤ count_if test (if b then x ∷ listed c before else listed c before)
        by-none true = let right = count-more test x (listed c before) in omega (arith, rest, right)
        by-none false = rest

    by : (b : Bool) → (h.switch == k) ≡ b → (e : Event)
        → count_if test (arrivals_at side port (came_to k before)) ≤ count_if test (listed c before)
        → count_if test (listed c before)
        ≤ count_if test (with_listed c h.switch h.event (listed c before))
        → count_if test (arrivals_at side port
        (arrivals_in (if b then e ∷ at_switch k before else at_switch k before)))
        ≤ count_if test (with_listed c h.switch e (listed c before))
    by true is (Came a) rest more =
        one (is_side side a.arrival.side && (port == a.arrival.port)) a.arrival refl is rest
    by true is (Left d) rest more = rest
    by false is (Came a) rest more =
        let grown = listed-more c (record { switch = h.switch; event = Came a }) before test in
        omega (arith, rest, grown)
    by false is (Left d) rest more = rest

-- an arrival changes no turns
came-keeps : (h : SwitchEvent) (a : Admission) (before : List SwitchEvent) (j port : ℕ)
    (side : Side) → h.event ≡ Came a
    → turns_of j side port (h ∷ before) ≡ turns_of j side port before
came-keeps h a before j port side is =
    ap (λ e. taken_at port (turns_on side (if h.switch == j then e ∷ at_switch j before
    else at_switch j before))) is
    ∙ by (h.switch == j)
  where
    by : (b : Bool) → taken_at port
        (turns_on side (if b then Came a ∷ at_switch j before else at_switch j before))
        ≡ taken_at port (turns_on side (at_switch j before))
    by true = refl
    by false = refl

pub turns-there : (c : Plan) (so_far : List SwitchEvent) (k port : ℕ) (side : Side)
    → AlwaysKeepsRules c so_far → 1 ≤ port → port ≤ 24
    → AreTurns (byte_ns_at (c.tables k) port) (entries_at (c.tables k) side port (came_to k so_far))
    (turns_of k side port so_far)
turns-there c [] k port side each low high =
    subst (AreTurns (byte_ns_at (c.tables k) port) (entries_at (c.tables k) side port []))
    (sym (no-taken port)) tt
turns-there c (h ∷ before) k port side each low high = each.0.turns k port side low high

module _ (c : Plan) (side : Side) (v : ℕ) (test : FrameTest) (of-link : IsOfLink v test)
    (plan : IsPlan c) where
  abbrev AreFew : List SwitchEvent → Type 0
  AreFew so_far = (k : ℕ) → count_if (passes side test)
      (accepted_by (c.tables k) (came_to k so_far))
      ≤ count_if (passes side test) (listed c so_far)

  -- what a cable brought
  cable-few : (h : SwitchEvent) (a : Admission) (before : List SwitchEvent) (k port : ℕ)
      (other : End) → h.event ≡ Came a
      → AlwaysKeepsRules c (h ∷ before) → AreFew before → c.far_end k port ≡ Some other
      → count_if (passes side test) (arrivals_at side port (came_to k (h ∷ before)))
      ≤ count_if (passes side test) (listed c before)
  cable-few h a before k port other is each few joined =
      let carries = each.0.cables k port side other joined in
      let ends = plan.ports k port other joined in
      let parts = count-append (passes side test) carries.waiting
      (arrivals_at side port (came_to k (h ∷ before))) in
      let brings : count_if (passes side test)
      (brought_by side port (in_clock (turns_of other.switch side other.port before)))
      ≡ count_if (passes side test) (carries.waiting
      ++ arrivals_at side port (came_to k (h ∷ before))) =
      ap (λ ts. count_if (passes side test) (brought_by side port (in_clock ts)))
      (sym (came-keeps h a before other.switch other.port side is))
      ∙ ap (count_if (passes side test)) carries.brings in
      let out = left-few (byte_ns_at (c.tables other.switch) other.port)
      (entries_at (c.tables other.switch) side other.port (came_to other.switch before))
      (turns_of other.switch side other.port before) side port test
      (turns-there c before other.switch other.port side each.1 ends.0 ends.1) in
      let held = entries-few (c.tables other.switch) side other.port test
      (came_to other.switch before) (plan.lawful other.switch) in
      let there = few other.switch in
      omega (arith, parts, brings, out, held, there)

  -- what came at a port
  port-few : (h : SwitchEvent) (a : Admission) (before : List SwitchEvent) (k port : ℕ)
      → h.event ≡ Came a
      → AlwaysKeepsRules c (h ∷ before) → AreFew before
      → count_if (passes side test) (arrivals_at side port (came_to k (h ∷ before)))
      ≤ count_if (passes side test) (listed c (h ∷ before))
  port-few h a before k port is each few = by (c.far_end k port) refl
    where
      by : (o : Option End) → c.far_end k port ≡ o
          → count_if (passes side test) (arrivals_at side port (came_to k (h ∷ before)))
          ≤ count_if (passes side test) (listed c (h ∷ before))
      by None free = from-list c (h ∷ before) k port side (passes side test) free
      by (Some other) joined =
          let less = cable-few h a before k port other is each few joined in
          let more = listed-more c h before (passes side test) in
          omega (arith, less, more)

  -- an arrival more
  came-few : (h : SwitchEvent) (a : Admission) (before : List SwitchEvent) (k : ℕ)
      → h.event ≡ Came a → (h.switch == k) ≡ true
      → AlwaysKeepsRules c (h ∷ before) → AreFew before
      → count_if (passes side test) (accepted_by (c.tables k) (a.arrival ∷ came_to k before))
      ≤ count_if (passes side test) (listed c (h ∷ before))
  came-few h a before k is here each few =
      by (reason_of (c.tables k) (came_to k before) a.arrival)
      (passes side test a.arrival) refl refl
      (few k) (listed-more c h before (passes side test))
    where
      came-is : came_to k (h ∷ before) ≡ a.arrival ∷ came_to k before
      came-is = ap (λ e. arrivals_in (if h.switch == k then e ∷ at_switch k before
          else at_switch k before)) is
          ∙ ap (λ b. arrivals_in (if b then Came a ∷ at_switch k before
          else at_switch k before)) here

      all-there : reason_of (c.tables k) (came_to k before) a.arrival ≡ None
          → passes side test a.arrival ≡ true
          → AllByRecursion (λ y. passes side test y ≡ true → a.arrival.port ≡ y.port)
          (accepted_by (c.tables k) (a.arrival ∷ came_to k before))
      all-there none meant =
          let named = of-link a.arrival.tag a.arrival.bytes
          (meant-parts side test a.arrival meant).1 in
          let at-x = taken-in (c.tables k) (came_to k before) a.arrival none in
          all-at-port (c.tables k) side v test of-link a.arrival
          (a.arrival ∷ came_to k before) at-x named

      by : (o : Option Reason) (m : Bool) → reason_of (c.tables k) (came_to k before) a.arrival ≡ o
          → passes side test a.arrival ≡ m
          → count_if (passes side test) (accepted_by (c.tables k) (came_to k before))
          ≤ count_if (passes side test) (listed c before)
          → count_if (passes side test) (listed c before)
          ≤ count_if (passes side test) (listed c (h ∷ before))
          → count_if (passes side test) (accepted_by (c.tables k) (a.arrival ∷ came_to k before))
          ≤ count_if (passes side test) (listed c (h ∷ before))
      by (Some reason) m dropped meant old more = rw dropped (omega (arith, old, more))
      by None false accepted unmeant old more = rw (accepted, unmeant) (omega (arith, old, more))
      by None true accepted meant old more =
          let at = at-port-count (c.tables k) side v test of-link a.arrival.port
          (a.arrival ∷ came_to k before)
          (all-there accepted meant) in
          let less = subst (λ xs. count_if (passes side test) (arrivals_at side a.arrival.port xs)
          ≤ count_if (passes side test) (listed c (h ∷ before))) came-is
          (port-few h a before k a.arrival.port is each few) in
          omega (arith, at, less)

  -- an event more
  event-few : (h : SwitchEvent) (before : List SwitchEvent) (k : ℕ)
      → AlwaysKeepsRules c (h ∷ before) → AreFew before
      → count_if (passes side test) (accepted_by (c.tables k) (came_to k (h ∷ before)))
      ≤ count_if (passes side test) (listed c (h ∷ before))
  event-few h before k each few =
      by (h.switch == k) refl h.event refl (few k) (listed-more c h before (passes side test))
    where
      by : (b : Bool) → (h.switch == k) ≡ b → (e : Event) → h.event ≡ e
          → count_if (passes side test) (accepted_by (c.tables k) (came_to k before))
          ≤ count_if (passes side test) (listed c before)
          → count_if (passes side test) (listed c before)
          ≤ count_if (passes side test) (listed c (h ∷ before))
          → count_if (passes side test)
          (accepted_by (c.tables k)
          (arrivals_in (if b then e ∷ at_switch k before else at_switch k before)))
          ≤ count_if (passes side test) (listed c (h ∷ before))
      by false there e is old more = omega (arith, old, more)
      by true here (Left d) is old more = omega (arith, old, more)
      by true here (Came a) is old more = came-few h a before k is here each few

  pub few-of-link : (so_far : List SwitchEvent) → AlwaysKeepsRules c so_far → AreFew so_far
  few-of-link [] each k = omega arith
  few-of-link (h ∷ before) each k = event-few h before k each (few-of-link before each.1)

-- ---- of any frames

has-name : (t : Rows) (arrivals : List Arrival)
    → AllByRecursion (λ x. (v : ℕ) × (names v x.bytes ≡ true)) (accepted_by t arrivals)
has-name t [] = tt
has-name t (x ∷ past) = by (reason_of t past x) refl (has-name t past)
  where
    by : (o : Option Reason) → reason_of t past x ≡ o
        → AllByRecursion (λ y. (v : ℕ) × (names v y.bytes ≡ true)) (accepted_by t past)
        → AllByRecursion (λ y. (v : ℕ) × (names v y.bytes ≡ true))
        (if is_none o then x ∷ accepted_by t past else accepted_by t past)
    by (Some reason) is rest = rest
    by None is rest = (let in-row = taken-in t past x is in
        ((in-row.row.rule.vl, in-row.names_it), rest))

abbrev with_link : ℕ → FrameTest → FrameTest
with_link v test tag bytes = test tag bytes && names v bytes

abbrev Both : ℕ → ℕ → Type 0
Both m n = (m ≤ n) × (n ≤ m)

-- the same test, put together in two ways
regroup : (side : Side) (v : ℕ) (test : FrameTest) (xs : List Arrival)
    → (count_if (λ x. passes side test x && names v x.bytes) xs
    ≤ count_if (passes side (with_link v test)) xs)
    × (count_if (passes side (with_link v test)) xs
    ≤ count_if (λ x. passes side test x && names v x.bytes) xs)
regroup side v test [] = (omega arith, omega arith)
regroup side v test (x ∷ xs) =
    by (is_side side x.side) (test x.tag x.bytes) (names v x.bytes) (regroup side v test xs)
  where
    by : (a b d : Bool)
        → Both (count_if (λ y. passes side test y && names v y.bytes) xs)
        (count_if (passes side (with_link v test)) xs)
        → Both (if (a && b) && d then suc (count_if (λ y. passes side test y && names v y.bytes) xs)
        else count_if (λ y. passes side test y && names v y.bytes) xs)
        (if a && (b && d) then suc (count_if (passes side (with_link v test)) xs)
        else count_if (passes side (with_link v test)) xs)
    by true true true rest = (omega (arith, rest.0), omega (arith, rest.1))
    by true true false rest = rest
    by true false d rest = rest
    by false b d rest = rest

pub at-most-listed : AcceptsAtMostListed
at-most-listed c so_far side k test plan each =
    by-names (passes side test) (λ v x. names v x.bytes)
    (λ v w x y h i. alike v w x.bytes y.bytes h i)
    (accepted_by (c.tables k) (came_to k so_far)) (listed c so_far)
    (has-name (c.tables k) (came_to k so_far))
    (λ v. let few = few-of-link c side v (with_link v test)
    (λ tag bytes h. (and_parts (test tag bytes) (names v bytes) h).1) plan so_far each k in
    let left = (regroup side v test (accepted_by (c.tables k) (came_to k so_far))).0 in
    let right = (regroup side v test (listed c so_far)).1 in
    omega (arith, few, left, right))

pub line-once : AcceptsLineOnce
line-once c so_far side k n plan each once =
    let few = at-most-listed c so_far side k (has_tag n) plan each in omega (arith, few, once)
