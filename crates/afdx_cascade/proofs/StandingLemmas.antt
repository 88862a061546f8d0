-- The networks and the ring as a frame arrives.
use Rattle.std.proofs.Common.{◌≡◌, ℕ, ◌==◌, ◌&&◌, true, false, ◌∷◌, ◌++◌}
use Rattle.std.proofs.Common.{map, refl, sym, ap, ◌∙◌, subst, inl, inr}
use Rattle.std.specs.Prelude.{if◌then◌else◌, Some, None, set}
use Rattle.std.proofs.lemmas.Bool.{cases_Bool, and_parts, eqb-true}
use Rattle.afdx_frame.specs.declared.link.Side.{Side}
use Rattle.afdx_frame.proofs.SideLemmas.{is_side-same}
use Rattle.afdx_police.specs.Arrival.{is_side}
use Rattle.afdx_port.proofs.TurnLemmas.{eqb-same}
use Rattle.afdx_switch.proofs.ArrivalLemmas.{same-side}
use Rattle.afdx_network.specs.Events.{Came, Admission, admission_after}
use Rattle.afdx_law_promises.specs.Sent.{arrivals_at}
use Rattle.afdx_cascade.specs.Cables.{brought, brought_by}
use Rattle.afdx_cascade.specs.SwitchEvents.{End}
use Rattle.afdx_cascade.specs.SwitchEvents.{came_to, in_clock, end_at}
use Rattle.afdx_cascade.specs.Runs.{event_at}
use Rattle.afdx_cascade.specs.Due.{OnCable, IsRing, from_end, has_left}
use Rattle.afdx_cascade.specs.Standing.{NothingHappened, FrameArrives, LineArrives}
use Rattle.afdx_cascade.proofs.RingLemmas.{none-behind, left-end}
use Rattle.afdx_cascade.proofs.AcceptedLemmas.{no-taken}
use Rattle.afdx_cascade.proofs.MoreLemmas.{rules-from, each-more, came-same, came-turns, elsewhere}

-- ---- nothing has happened

pub nothing-happened : NothingHappened
nothing-happened c networks each = record {
  all = record { each = each; others = λ k past. refl };
  carried = record {
    at_time = tt;
    ascending = tt;
    joined = tt;
    carries = λ k port side other joined.
        ap (λ ts. brought_by side port (in_clock ts)) (no-taken other.port);
  };
  rules = tt;
}

-- ---- a frame of the list arrives

pub line-arrives : LineArrives
line-arrives c networks time ring so_far line new st within free stands =
    let a = admission_after (c.tables line.switch) (came_to line.switch so_far) line.arrival in
    let all = each-more c networks so_far line.switch (Came a) new st.all within stands in
    let is : IsRing c (event_at line.switch (Came a) ∷ so_far) time ring = record {
      at_time = st.carried.at_time;
      ascending = st.carried.ascending;
      joined = st.carried.joined;
      carries = λ k port side other joined.
          ap (λ ts. brought_by side port (in_clock ts))
          (came-turns other.switch line.switch other.port side a so_far)
          ∙ st.carried.carries k port side other joined
          ∙ ap (λ xs. map (brought side port) (from_end side other ring) ++ xs)
          (sym (elsewhere k line.switch port side a so_far
          (λ same. not-here k port side other joined same)));
    } in
    record {
      all = all;
      carried = is;
      rules = (
        rules-from c (set networks line.switch new) time ring
            (event_at line.switch (Came a) ∷ so_far) all is,
        st.rules,
      );
    }
  where
    not-here : (k port : ℕ) (side : Side) (other : End) → c.far_end k port ≡ Some other
        → line.switch ≡ k
        → (is_side side line.arrival.side && (port == line.arrival.port)) ≡ false
    not-here k port side other joined same =
        elim (cases_Bool (is_side side line.arrival.side && (port == line.arrival.port))) [
          | inr apart ↦ apart
          | inl here ↦ absurd (let at = eqb-true port line.arrival.port
              (and_parts (is_side side line.arrival.side) (port == line.arrival.port) here).1 in
              let none : c.far_end k port ≡ None = subst (λ p. c.far_end k p ≡ None) (sym at)
              (subst (λ j. c.far_end j line.arrival.port ≡ None) same free) in cc)
        ]

-- ---- the front frame of the ring arrives

pub has-it : (side : Side) (other : End) (r : OnCable) → side ≡ r.side → other ≡ r.from
    → has_left side other r ≡ true
has-it side other r same at =
    subst (λ e. has_left side e r ≡ true) (sym at)
    (subst (λ s. has_left s r.from r ≡ true) (sym same)
    (rw (
      same-side r.side,
      eqb-same r.from.switch r.from.switch refl,
      eqb-same r.from.port r.from.port refl,
    ) refl))

pub end-of : (e : End) (k port : ℕ) → e.switch ≡ k → e.port ≡ port → e ≡ end_at k port
end-of e k port same at = ap (λ j. end_at j e.port) same ∙ ap (λ p. end_at k p) at

pub frame-arrives : FrameArrives
frame-arrives c networks time r rest so_far to new plan st within joined_r stands =
    let a = admission_after (c.tables to.switch) (came_to to.switch so_far)
    (brought r.side to.port r.turn) in
    let all = each-more c networks so_far to.switch (Came a) new st.all within stands in
    let is : IsRing c (event_at to.switch (Came a) ∷ so_far) time rest = record {
      at_time = st.carried.at_time.1;
      ascending = st.carried.ascending.1;
      joined = st.carried.joined.1;
      carries = λ k port side other joined.
          ap (λ ts. brought_by side port (in_clock ts))
          (came-turns other.switch to.switch other.port side a so_far)
          ∙ st.carried.carries k port side other joined
          ∙ moved k port side other joined a refl;
    } in
    record {
      all = all;
      carried = is;
      rules = (
        rules-from c (set networks to.switch new) time rest
            (event_at to.switch (Came a) ∷ so_far) all is,
        st.rules,
      );
    }
  where
    -- its end
    here : (k port : ℕ) (side : Side) (other : End) → c.far_end k port ≡ Some other
        → has_left side other r ≡ true
        → (k ≡ to.switch) × (port ≡ to.port) × (side ≡ r.side)
    here k port side other joined h =
        let ends = left-end side other r h in
        let back = (plan.ports k port other joined).2 in
        let from : c.far_end r.from.switch r.from.port ≡ Some (end_at k port) =
        subst (λ p. c.far_end r.from.switch p ≡ Some (end_at k port)) ends.2
        (subst (λ j. c.far_end j other.port ≡ Some (end_at k port)) ends.1 back) in
        let same : end_at k port ≡ to = cc in
        (ap (λ (e : End). e.switch) same, ap (λ (e : End). e.port) same, ends.0)

    not-here : (k port : ℕ) (side : Side) (other : End) → c.far_end k port ≡ Some other
        → has_left side other r ≡ false
        → to.switch ≡ k → (is_side side r.side && (port == to.port)) ≡ false
    not-here k port side other joined apart same =
        elim (cases_Bool (is_side side r.side && (port == to.port))) [
          | inr there ↦ there
          | inl at ↦ absurd (let parts = and_parts (is_side side r.side) (port == to.port) at in
              let back = (plan.ports r.from.switch r.from.port to joined_r).2 in
              let mine : c.far_end k port ≡ Some r.from =
              subst (λ p. c.far_end k p ≡ Some r.from) (sym (eqb-true port to.port parts.1))
              (subst (λ j. c.far_end j to.port ≡ Some r.from) same back) in
              let other_is : other ≡ r.from = cc in
              let has = has-it side other r (is_side-same side r.side parts.0) other_is in cc)
        ]

    moved : (k port : ℕ) (side : Side) (other : End) → c.far_end k port ≡ Some other
        → (a : Admission)
        → a.arrival ≡ brought r.side to.port r.turn
        → map (brought side port) (from_end side other (r ∷ rest))
        ++ arrivals_at side port (came_to k so_far)
        ≡ map (brought side port) (from_end side other rest)
        ++ arrivals_at side port (came_to k (event_at to.switch (Came a) ∷ so_far))
    moved k port side other joined a is-a = elim (cases_Bool (has_left side other r)) [
      | inl h ↦
          (let at = here k port side other joined h in
          let none = none-behind side other r rest time h st.carried.at_time.0
          st.carried.at_time.1 st.carried.ascending.0 in
          let came : arrivals_at side port (came_to k (event_at to.switch (Came a) ∷ so_far))
          ≡ a.arrival ∷ arrivals_at side port (came_to k so_far) =
          ap (arrivals_at side port) (subst (λ z. came_to z (event_at to.switch (Came a) ∷ so_far)
          ≡ a.arrival ∷ came_to z so_far) (sym at.0) (came-same to.switch a so_far))
          ∙ ap (λ b. if b then a.arrival ∷ arrivals_at side port (came_to k so_far)
          else arrivals_at side port (came_to k so_far))
          (subst (λ y. (is_side side y.side && (port == y.port)) ≡ true) (sym is-a)
          (rw (at.1, at.2) (rw (same-side r.side, eqb-same to.port to.port refl) refl))) in
          let frame : brought side port r.turn ≡ a.arrival =
          ap (λ s. brought s port r.turn) at.2 ∙ ap (λ p. brought r.side p r.turn) at.1
          ∙ sym is-a in
          rw (h, none, came) (ap (λ y. y ∷ arrivals_at side port (came_to k so_far)) frame))
      | inr h ↦
          (let same = elsewhere k to.switch port side a so_far
          (λ z. subst (λ y. (is_side side y.side && (port == y.port)) ≡ false) (sym is-a)
          (not-here k port side other joined h z)) in
          rw (h, same) refl)
    ]
