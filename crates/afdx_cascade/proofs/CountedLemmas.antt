-- The events of a cascade can be counted.
use Rattle.std.proofs.Common.{◌≡◌, ℕ, suc, ◌*◌, ◌≤◌, ◌==◌, Bool, true, false, List, [], ◌∷◌, length}
use Rattle.std.proofs.Common.{refl, ap, arith}
use Rattle.std.specs.Prelude.{if◌then◌else◌, is_none}
use Rattle.std.specs.List.{AllByRecursion}
use Rattle.std.proofs.Math.Nat.{mul-le-mul_right}
use Rattle.afdx_config.specs.Rows.{Rows}
use Rattle.afdx_frame.specs.declared.link.Side.TheVariants.{A, B}
use Rattle.afdx_port.proofs.TurnLemmas.{eqb-same}
use Rattle.afdx_switch.specs.Verdicts.{reason_of}
use Rattle.afdx_network.specs.Events.{Event, Came, Left, arrivals_in}
use Rattle.afdx_network.specs.Network.{EachFollows}
use Rattle.afdx_cascade.specs.Once.{EventsAreCounted, is_acceptance, accepted_in}
use Rattle.afdx_cascade.specs.SwitchEvents.{Plan, IsPlan, SwitchEvent, AlwaysKeepsRules, IsInPlan}
use Rattle.afdx_cascade.specs.SwitchEvents.{accepted_by, at_switch, came_to, count_if, listed}
use Rattle.afdx_cascade.proofs.FewLemmas.{sum_below, sum-most, sum-grows, sum-more, all_frames, both-sides, events-few}
use Rattle.afdx_cascade.proofs.InsideLemmas.{each-follows}
use Rattle.afdx_cascade.proofs.OnceLemmas.{at-most-listed}

-- how many a switch accepted
abbrev accepted_at : ℕ → List SwitchEvent → ℕ
accepted_at k so_far = count_if is_acceptance (at_switch k so_far)

abbrev with_one : ℕ → Event → List SwitchEvent → ℕ → ℕ
with_one m e before k =
    count_if is_acceptance (if m == k then e ∷ at_switch k before else at_switch k before)

accepted-sum : (c : Plan) (so_far : List SwitchEvent) → AllByRecursion (IsInPlan c) so_far
    → accepted_in so_far ≤ sum_below (λ k. accepted_at k so_far) c.count
accepted-sum c [] all = omega arith
accepted-sum c (h ∷ before) all =
    by (is_acceptance h.event) refl (accepted-sum c before all.1)
  where
    grown : (k : ℕ) → accepted_at k before ≤ with_one h.switch h.event before k
    grown k = at (h.switch == k)
      where
        one : (d : Bool) → accepted_at k before
            ≤ (if d then suc (accepted_at k before) else accepted_at k before)
        one true = omega arith
        one false = omega arith

        at : (b : Bool) → accepted_at k before
            ≤ count_if is_acceptance (if b then h.event ∷ at_switch k before else at_switch k before)
        at true = one (is_acceptance h.event)
        at false = omega arith

    by : (d : Bool) → is_acceptance h.event ≡ d
        → accepted_in before ≤ sum_below (λ k. accepted_at k before) c.count
        → (if d then suc (accepted_in before) else accepted_in before)
        ≤ sum_below (with_one h.switch h.event before) c.count
    by false is rest =
        let more = sum-grows (λ k. accepted_at k before) (with_one h.switch h.event before) c.count
        grown in
        omega (arith, rest, more)
    by true is rest =
        let more = sum-more (λ k. accepted_at k before) (with_one h.switch h.event before)
        c.count h.switch all.0.0 grown
        (rw (eqb-same h.switch h.switch refl, is) (omega arith)) in
        omega (arith, rest, more)

-- they are those that it accepts by its tables
accepted-there : (t : Rows) (es : List Event) → EachFollows t es
    → count_if is_acceptance es ≡ length (accepted_by t (arrivals_in es))
accepted-there t [] all = refl
accepted-there t (Left d ∷ es) all = accepted-there t es all.1
accepted-there t (Came a ∷ es) all =
    rw (ap (λ x. is_none x.reason) all.0)
    (by (is_none (reason_of t (arrivals_in es) a.arrival)) (accepted-there t es all.1))
  where
    by : (b : Bool) → count_if is_acceptance es ≡ length (accepted_by t (arrivals_in es))
        → (if b then suc (count_if is_acceptance es) else count_if is_acceptance es)
        ≡ length (if b then a.arrival ∷ accepted_by t (arrivals_in es)
        else accepted_by t (arrivals_in es))
    by true rest = ap suc rest
    by false rest = rest

-- at most as many as the list has
accepted-few : (c : Plan) (so_far : List SwitchEvent) (k : ℕ) → IsPlan c
    → AlwaysKeepsRules c so_far → EachFollows (c.tables k) (at_switch k so_far)
    → accepted_at k so_far ≤ length (listed c so_far)
accepted-few c so_far k plan each follows =
    let there = accepted-there (c.tables k) (at_switch k so_far) follows in
    let a = at-most-listed c so_far A k all_frames plan each in
    let b = at-most-listed c so_far B k all_frames plan each in
    let accepted = both-sides (accepted_by (c.tables k) (came_to k so_far)) in
    let all = both-sides (listed c so_far) in
    omega (arith, there, a, b, accepted, all)

pub events-counted : EventsAreCounted
events-counted c w so_far st =
    let few = events-few c so_far st.keeps.plan st.keeps.stands.rules st.inside in
    let sum = accepted-sum c so_far st.inside in
    let most = sum-most (λ k. accepted_at k so_far) (length (listed c so_far)) c.count
    (λ k within. accepted-few c so_far k st.keeps.plan st.keeps.stands.rules
    (each-follows c w.networks.items so_far st.keeps.stands.all st.count k within)) in
    let events : c.count * (48 * length (listed c so_far)) ≤ 24 * (48 * length (listed c so_far)) =
    mul-le-mul_right (48 * length (listed c so_far)) st.few in
    let accepted : c.count * length (listed c so_far) ≤ 24 * length (listed c so_far) =
    mul-le-mul_right (length (listed c so_far)) st.few in
    record {
      events = omega (arith, few, events);
      accepted = omega (arith, sum, most, accepted);
    }
