-- What cables brought so far, and what is still to arrive.
use Rattle.std.proofs.Common.{◌≡◌, ℕ, ◌<◌, ◌≤◌, ◌==◌, Bool, true, false, List, [], ◌∷◌, length, map, filter}
use Rattle.std.proofs.Common.{refl, sym, ap, subst, arith, inl, inr}
use Rattle.std.specs.Prelude.{if◌then◌else◌}
use Rattle.std.specs.List.{AllByRecursion}
use Rattle.std.proofs.lemmas.Bool.{cases_Bool}
use Rattle.afdx_frame.specs.declared.link.Side.{Side}
use Rattle.afdx_frame.proofs.ListLemmas.{slice_get-within}
use Rattle.afdx_port.proofs.TurnLemmas.{eqb-same}
use Rattle.afdx_network.specs.Events.{Event, Came, Left, arrivals_in}
use Rattle.afdx_network.specs.Order.{IsAmong, is_below, key, phase_of, side_number}
use Rattle.afdx_law_promises.specs.Sent.{arrivals_at}
use Rattle.afdx_cascade.specs.Cables.{brought, brought_by}
use Rattle.afdx_cascade.specs.Cascade.{StandsFor}
use Rattle.afdx_cascade.specs.Due.{OnCable, AreAscending, from_end, has_left}
use Rattle.afdx_cascade.specs.Parts.{BringsFirst, CablesBringFirst, time_of}
use Rattle.afdx_cascade.specs.SwitchEvents.{Plan, End, SwitchEvent, IsInPlan, at_switch, came_to, in_clock, turns_of}
use Rattle.afdx_cascade.specs.declared.cascade.Cascade.{Cascade}
use Rattle.afdx_cascade.proofs.AcceptedLemmas.{no-taken}
use Rattle.afdx_cascade.proofs.RingLemmas.{filter-all, none-behind}
use Rattle.afdx_cascade.proofs.WayHopLemmas.{below-time}

-- ---- the ring

-- of one port the ring has one frame at most
one-waits : (side : Side) (port : ℕ) (other : End) (time : ℕ) (ring : List OnCable)
    → AllByRecursion (λ z. z.turn.end ≡ time) ring → AreAscending ring
    → length (map (brought side port) (from_end side other ring)) ≤ 1
one-waits side port other time [] ends ascending = omega arith
one-waits side port other time (r ∷ rest) ends ascending = elim (cases_Bool (has_left side other r)) [
  | inl here ↦ rw (here, none-behind side other r rest time here ends.0 ends.1 ascending.0) (omega arith)
  | inr apart ↦ rw apart (one-waits side port other time rest ends.1 ascending.1)
]

-- and that left at the ring's time
waits-at : (P : ℕ → Type 0) (side : Side) (port time : ℕ) (rs : List OnCable)
    → AllByRecursion (λ z. z.turn.end ≡ time) rs → P time
    → AllByRecursion (λ x. P x.time) (map (brought side port) (map (λ r. r.turn) rs))
waits-at P side port time [] ends holds = tt
waits-at P side port time (r ∷ rs) ends holds =
    (subst P (sym ends.0) holds, waits-at P side port time rs ends.1 holds)

-- ---- no event was later

it-is-there : (h : SwitchEvent) (before : List SwitchEvent) → IsAmong h.event (at_switch h.switch (h ∷ before))
it-is-there h before =
    subst (λ b. IsAmong h.event (if b then h.event ∷ at_switch h.switch before else at_switch h.switch before))
    (sym (eqb-same h.switch h.switch refl)) (inl refl)

among-more : (k : ℕ) (e : Event) (h : SwitchEvent) (before : List SwitchEvent) → IsAmong e (at_switch k before)
    → IsAmong e (at_switch k (h ∷ before))
among-more k e h before among = by (h.switch == k)
  where
    by : (b : Bool) → IsAmong e (if b then h.event ∷ at_switch k before else at_switch k before)
    by true = inr among
    by false = among

by-time : (e : Event) (time : ℕ) (ns : List ℕ) → is_below (key e) (time ∷ ns) ≡ true → time_of e ≤ time
by-time (Came a) time ns below = below-time a.arrival.time time (1 ∷ a.place ∷ []) ns below
by-time (Left d) time ns below =
    below-time d.turn.end time (phase_of d.turn.too_old ∷ side_number d.side ∷ d.port ∷ d.place ∷ []) ns below

module _ (c : Plan) (w : Cascade) (so_far : List SwitchEvent) (st : StandsFor c w so_far) where
  none-later : (rest : List SwitchEvent)
      → ((k : ℕ) (e : Event) → IsAmong e (at_switch k rest) → IsAmong e (at_switch k so_far))
      → AllByRecursion (IsInPlan c) rest → AllByRecursion (λ h. time_of h.event ≤ st.time) rest
  none-later [] within inside = tt
  none-later (h ∷ rest) within inside =
      let count = st.count in
      let here = inside.0.0 in
      let n = slice_get-within w.networks.items h.switch (omega (arith, count, here)) in
      let stands = st.keeps.stands.all.each h.switch n.0 n.1 in (
        by-time h.event st.time (1 ∷ length (arrivals_in (at_switch h.switch so_far)) ∷ [])
            (stands.past st.time (st.keeps.clock h.switch n.0 n.1) h.event
            (within h.switch h.event (it-is-there h rest))),
        none-later rest (λ k e among. within k e (among-more k e h rest among)) inside.1,
      )

pub cables-bring-first : CablesBringFirst
cables-bring-first c w so_far k port side other st joined = record {
  waiting = map (brought side port) (from_end side other st.ring);
  few = one-waits side port other st.time st.ring st.keeps.stands.carried.at_time st.keeps.stands.carried.ascending;
  last = waits-at (λ t. AllByRecursion (λ h. time_of h.event ≤ t) so_far) side port st.time
      (filter (has_left side other) st.ring)
      (filter-all (λ z. z.turn.end ≡ st.time) (has_left side other) st.ring st.keeps.stands.carried.at_time)
      (none-later c w so_far st so_far (λ j e among. among) st.inside);
  brings = st.keeps.stands.carried.carries k port side other joined;
}

-- before the first event
pub nothing-brought : (side : Side) (k port : ℕ) (other : End)
    → brought_by side port (in_clock (turns_of other.switch side other.port [])) ≡ arrivals_at side port (came_to k [])
nothing-brought side k port other = ap (λ ts. brought_by side port (in_clock ts)) (no-taken other.port)

pub none-brought : (side : Side) (k port : ℕ) (other : End) → BringsFirst side k port other []
none-brought side k port other = record {
  waiting = [];
  few = omega arith;
  last = tt;
  brings = nothing-brought side k port other;
}
