-- The first of several ports.
use Rattle.std.proofs.Common.{IfSome, Bool, true, false, if◌then◌else◌, ◌≡◌, ℕ, ◌+◌, ◌*◌, ◌<◌, ◌≤◌}
use Rattle.std.proofs.Common.{List, length, get_or, Option, Some, None, inl, inr, refl, sym, ap, subst}
use Rattle.std.proofs.Common.{arith, ◌∙◌}
use Rattle.std.specs.Prelude.{All}
use Rattle.std.specs.List.{slice_get}
use Rattle.std.proofs.lemmas.Bool.{cases_lt}
use Rattle.std.proofs.lemmas.Option.{slice_get-get_or}
use Rattle.afdx_port.specs.declared.left.Due.{Due}
use Rattle.afdx_port.specs.declared.port_state.PortState.{PortState}
use Rattle.afdx_port.specs.Facts.{Facts}
use Rattle.afdx_port.specs.Due.{given_at, IsAfter, order_of}
use Rattle.afdx_port.specs.Held.{due_of, IsQuiet}
use Rattle.afdx_port.specs.Ports.{order_at, order_without_turn, AreLimited, AreServed}

-- what goes before a turn that is given after a time is given after it too
after-order : (t : ℕ) (n m : ℕ) (a b : Bool) → 2 * n + (if a then 1 else 0)
    ≤ 2 * m + (if b then 1 else 0) → t < n + (if a then 1 else 0) → t < m + (if b then 1 else 0)
after-order t n m true true le lt = omega (arith, le, lt)
after-order t n m true false le lt = omega (arith, le, lt)
after-order t n m false true le lt = omega (arith, le, lt)
after-order t n m false false le lt = omega (arith, le, lt)

pub low-order : (n : ℕ) (a : Bool) → n + (if a then 1 else 0) ≤ 1200000000000000
    → 2 * n + (if a then 1 else 0) < order_without_turn
low-order n true le = omega (arith, le)
low-order n false le = omega (arith, le)

later : (until : ℕ) (a b : Option Due) → order_at a ≤ order_at b
    → ((e : Due) → b ≡ Some e → given_at e ≤ 1200000000000000) → IfSome a (λ d. IsAfter until d)
    → IfSome b (λ e. IsAfter until e)
later until a None le within after = tt
later until None (Some e) le within after = absurd (omega (arith, le, low-order e.time e.too_old (within e refl)))
later until (Some d) (Some e) le within after = after-order until d.time e.time d.too_old e.too_old le after

-- what is due, by its order
pub order-is : (o : Option Due) (d : Due) → o ≡ Some d → order_at o ≡ order_of d
order-is o d is = ap order_at is

module _ {X : Type 0} (facts : X → Facts) (ports : List (PortState X)) where
  pub limit-step : (n : ℕ) (q : PortState X) → slice_get ports n ≡ Some q
      → IfSome (due_of facts q) (λ d. given_at d ≤ 1200000000000000) →
      AreLimited facts ports n → AreLimited facts ports (n + 1)
  limit-step n q here within h = λ j r d lt stands due. elim (cases_lt j n) [
    | inl before ↦ h j r d before stands due
    | inr past ↦
        (let at : j ≡ n = omega (arith, past, lt) in
        let at_n : slice_get ports n ≡ Some r = subst (λ k. slice_get ports k ≡ Some r) at stands in
        let same : r ≡ q = cc in
        let some : due_of facts q ≡ Some d = ap (λ z. due_of facts z) (sym same) ∙ due in
        let P : Option Due → Type 0 = λ z. IfSome z (λ e. given_at e ≤ 1200000000000000) in
        subst P some within)
  ]

  module _ (place : ℕ) (served : AreServed facts ports place) (p : PortState X)
      (at : slice_get ports place ≡ Some p) where
    same-first : served.first.p ≡ p
    same-first = let there = served.first.stands in cc

    pub before-each : (j : ℕ) (q : PortState X) → j < length ports → slice_get ports j ≡ Some q
        → order_at (due_of facts p) ≤ order_at (due_of facts q)
    before-each j q below there = subst (λ z. order_at (due_of facts z) ≤ order_at (due_of facts q))
        same-first (served.first.least j q below there)

    pub before-same : (j : ℕ) (q : PortState X) → j < length ports → slice_get ports j ≡ Some q
        → order_at (due_of facts p) ≡ order_at (due_of facts q) → place ≤ j
    before-same j q below there same =
        served.first.first j q below there (ap (λ z. order_at (due_of facts z)) same-first ∙ same)

    -- where it gives nothing by then, no port does
    pub all-quiet : (until : ℕ) → IsQuiet facts p until → All (λ q. IsQuiet facts q until) ports
    all-quiet until quiet j d below =
        let q : PortState X = get_or ports j d in
        let there : slice_get ports j ≡ Some q = slice_get-get_or ports j d below in
        later until (due_of facts p) (due_of facts q) (before-each j q below there)
        (λ e is. served.limit j q e below there is) quiet

    -- what is due there goes first of all that is due
    module _ (d : Due) (due : due_of facts p ≡ Some d) (j : ℕ) (q : PortState X) (e : Due)
        (below : j < length ports) (there : slice_get ports j ≡ Some q) (is : due_of facts q ≡ Some e) where
      pub least-order : order_of d ≤ order_of e
      least-order =
          omega (arith, before-each j q below there, order-is (due_of facts p) d due, order-is (due_of facts q) e is)

      pub least-place : order_of d ≡ order_of e → place ≤ j
      least-place same =
          before-same j q below there (order-is (due_of facts p) d due ∙ same ∙ sym (order-is (due_of facts q) e is))
