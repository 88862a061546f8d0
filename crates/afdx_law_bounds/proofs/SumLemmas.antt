-- The sums over the flows at a port.
use Rattle.std.proofs.Common.{◌≡◌, ℕ, ◌+◌, ◌*◌, ◌-◌, ◌<◌, ◌≤◌, ◌==◌, ◌&&◌, ◌||◌, Bool, true, false}
use Rattle.std.proofs.Common.{List, [], ◌∷◌, ◌++◌, length, map, filter, inl, inr, refl}
use Rattle.std.proofs.Common.{sym, ap, arith, ◌∙◌, suc, zero, if◌then◌else◌}
use Rattle.std.specs.Prelude.{nat_le, IsTrue, sum_by, All, Contains, slice_index_or, reverse}
use Rattle.std.specs.List.{list_any}
use Rattle.std.proofs.lemmas.List.{reverse-append, map-append, append-nil}
use Rattle.std.proofs.lemmas.List.Elements.{All-contains, filter-append}
use Rattle.std.proofs.lemmas.Bool.{cases_Bool, eqb-true}
use Rattle.std.proofs.lemmas.List.Sums.{sum_by-cons}
use Rattle.afdx_frame.specs.declared.link.Priority.{Priority}
use Rattle.afdx_frame.specs.declared.link.Priority.TheVariants.{High, Low}
use Rattle.afdx_frame.specs.Regulation.{byte_units, fill_rate, cap}
use Rattle.afdx_frame.specs.Flows.{Flow, is_class, of_class, burst, load, longest}
use Rattle.afdx_port.specs.Schedule.{Entry}
use Rattle.afdx_port.proofs.TurnLemmas.{priority_cases, eqb-same}
use Rattle.afdx_police.specs.Account.{missing}
use Rattle.afdx_police.specs.Laws.{EachAccountMoves}
use Rattle.afdx_police.specs.Rule.{is_bag}
use Rattle.afdx_law_bounds.specs.Curve.{Curve, KeepsCurve, wire_in, wire_between}
use Rattle.afdx_law_bounds.specs.Policed.{AreFlows, charged_as, charged_to, IsCharged, ArePoliced}
use Rattle.afdx_law_bounds.proofs.FlowLemmas.{charged_in, charged_between, between-append, window-missing, accepted-keeps}
use Rattle.afdx_law_bounds.proofs.ListLemmas.{contains_head, contains_tail}

-- what the flows are filled in a nanosecond, in units
abbrev pub rates : List Flow → ℕ
rates flows = sum_by (λ f. fill_rate f.link) flows

-- what the flows of a class send together keeps this curve
abbrev pub curve_of : Priority → List Flow → Curve
curve_of class flows = record { burst = burst (of_class class flows); rate = rates (of_class class flows) }

-- of the tests of both classes one is met
record IsOf (yes not : Priority) (class : Priority) : Type 0 where
  own : is_class yes class ≡ true
  other : is_class not class ≡ false

is-high : (c : Priority) → c ≡ High → IsOf High Low c
is-high High h = record { own = refl; other = refl }
is-high Low h = absurd (cc h)

is-low : (c : Priority) → c ≡ Low → IsOf Low High c
is-low High h = absurd (cc h)
is-low Low h = record { own = refl; other = refl }

-- both classes together are all
pub sum-classes : (g : Flow → ℕ) (flows : List Flow) → sum_by g flows ≡ sum_by g (of_class High flows) + sum_by g
    (of_class Low flows)
sum-classes g [] = refl
sum-classes g (f ∷ fs) =
    let rest = sum-classes g fs in
    elim (priority_cases f.priority) [
      | inl is ↦ (let c = is-high f.priority is in
          rw (c.own, c.other, sum_by-cons g f fs, sum_by-cons g f (of_class High fs))
          (omega (arith, rest)))
      | inr is ↦ (let c = is-low f.priority is in
          rw (c.own, c.other, sum_by-cons g f fs, sum_by-cons g f (of_class Low fs))
          (omega (arith, rest)))
    ]

-- a low flow is one of the sum
low-at : (g : Flow → ℕ) (flows : List Flow) (i : ℕ) (f : Flow) → i < length flows → slice_index_or flows i f ≡ f →
    f.priority ≡ Low → g f ≤ sum_by g (of_class Low flows)
low-at g [] i f lt h low = absurd (omega (arith, lt))
low-at g (d ∷ ds) zero f lt h low =
    let c = is-low d.priority (ap (λ z. z.priority) h ∙ low) in
    let value : g d ≡ g f = ap g h in
    rw (c.own, sum_by-cons g d (of_class Low ds)) (omega (arith, value))
low-at g (d ∷ ds) (suc i) f lt h low =
    let rest = low-at g ds i f (omega (arith, lt)) h low in
    elim (priority_cases d.priority) [
      | inl is ↦ (let c = is-high d.priority is in rw c.other rest)
      | inr is ↦ (let c = is-low d.priority is in rw (c.own, sum_by-cons g d (of_class Low ds)) (omega (arith, rest)))
    ]

pub low-one : (g : Flow → ℕ) (flows : List Flow) (f : Flow) → Contains flows f → f.priority ≡ Low →
    g f ≤ sum_by g (of_class Low flows)
low-one g flows f h low = low-at g flows h.0 f h.1 h.2 low

longest-at : (flows : List Flow) (i : ℕ) (f : Flow) → i < length flows → slice_index_or flows i f ≡ f →
    f.priority ≡ Low → f.link.smax ≤ longest (of_class Low flows)
longest-at [] i f lt h low = absurd (omega (arith, lt))
longest-at (d ∷ ds) zero f lt h low =
    let c = is-low d.priority (ap (λ z. z.priority) h ∙ low) in
    let value : d.link.smax ≡ f.link.smax = ap (λ z. z.link.smax) h in
    rw c.own (omega (arith, value))
longest-at (d ∷ ds) (suc i) f lt h low =
    let rest = longest-at ds i f (omega (arith, lt)) h low in
    elim (priority_cases d.priority) [
      | inl is ↦ (let c = is-high d.priority is in rw c.other rest)
      | inr is ↦ (let c = is-low d.priority is in rw c.own (omega (arith, rest)))
    ]

pub longest-one : (flows : List Flow) (f : Flow) → Contains flows f → f.priority ≡ Low →
    f.link.smax ≤ longest (of_class Low flows)
longest-one flows f h low = longest-at flows h.0 f h.1 h.2 low

pub load-rates : (byte_ns : ℕ) (flows : List Flow) → load byte_ns flows ≡ byte_ns * rates flows
load-rates byte_ns [] = omega arith
load-rates byte_ns (f ∷ fs) =
    let rest = load-rates byte_ns fs in
    rw (
      sum_by-cons (λ f. fill_rate f.link * byte_ns) f fs,
      sum_by-cons (λ f. fill_rate f.link) f fs,
      rest,
    ) (grind arith)

-- a bound of each flow is one of the sums of a class
pub sum-bound : (g h r : Flow → ℕ) (gap : ℕ) (class : Priority) (fs : List Flow) →
    ((f : Flow) → Contains fs f → byte_units * g f ≤ h f + r f * gap) →
    byte_units * sum_by g (of_class class fs) ≤ sum_by h (of_class class fs) + sum_by r (of_class class fs) * gap
sum-bound g h r gap class [] each = omega arith
sum-bound g h r gap class (f ∷ fs) each =
    let rest = sum-bound g h r gap class fs (λ d k. each d (contains_tail f fs d k)) in
    let first = each f (contains_head f fs) in
    elim (cases_Bool (is_class class f.priority)) [
      | inl is ↦ rw (
        is,
        sum_by-cons g f (of_class class fs),
        sum_by-cons h f (of_class class fs),
        sum_by-cons r f (of_class class fs),
      )
          (omega (arith, rest, first))
      | inr is ↦ rw is rest
    ]

-- the identifier is that of one of the flows
abbrev among : List Flow → ℕ → Bool
among fs vl = list_any (λ f. vl == f.vl) fs

or-right : (a b : Bool) → b ≡ true → (a || b) ≡ true
or-right true b h = refl
or-right false b h = h

among-at : (fs : List Flow) (i : ℕ) (f : Flow) (vl : ℕ) → i < length fs → slice_index_or fs i f ≡ f → vl ≡ f.vl →
    among fs vl ≡ true
among-at [] i f vl lt h same = absurd (omega (arith, lt))
among-at (d ∷ ds) zero f vl lt h same = let named : vl ≡ d.vl = same ∙ sym (ap (λ z. z.vl) h) in
    rw (eqb-same vl d.vl named) refl
among-at (d ∷ ds) (suc i) f vl lt h same =
    or-right (vl == d.vl) (among ds vl) (among-at ds i f vl (omega (arith, lt)) h same)

pub classes-load : (byte_ns : ℕ) (flows : List Flow) →
    load byte_ns flows ≡ byte_ns * (rates (of_class High flows) + rates (of_class Low flows))
classes-load byte_ns flows =
    let all = load-rates byte_ns flows in
    let split = sum-classes (λ f. fill_rate f.link) flows in
    all ∙ ap (λ n. byte_ns * n) split

module _ {X : Type 0} where
  -- the wire bytes of the entries of these flows
  abbrev wire_among : (X → ℕ) → Priority → ℕ → ℕ → List Flow → List (Entry X) → ℕ
  wire_among vl_of class since until fs [] = 0
  wire_among vl_of class since until fs (e ∷ es) =
      (if among fs (vl_of e.item) then wire_in class since until e else 0) + wire_among vl_of class since until fs es

  among-all : (vl_of : X → ℕ) (charge_of : Entry X → ℕ) (flows : List Flow) (class : Priority) (since until : ℕ)
      (es : List (Entry X)) → All (λ e. IsCharged vl_of charge_of flows e) es →
      wire_between class since until es ≡ wire_among vl_of class since until flows es
  among-all vl_of charge_of flows class since until [] each = refl
  among-all vl_of charge_of flows class since until (e ∷ es) each =
      let rest = among-all vl_of charge_of flows class since until es (λ k d lt. each (suc k) d (omega (arith, lt))) in
      let here : IsCharged vl_of charge_of flows e = each 0 e (omega arith) in
      let own = among-at flows here.stands.0 here.flow (vl_of e.item) here.stands.1 here.stands.2 (sym here.named) in
      rw own (omega (arith, rest))

  among-none : (vl_of : X → ℕ) (class : Priority) (since until : ℕ) (es : List (Entry X)) →
      wire_among vl_of class since until [] es ≡ 0
  among-none vl_of class since until [] = refl
  among-none vl_of class since until (e ∷ es) = let rest = among-none vl_of class since until es in omega (arith, rest)

  -- what is charged from `since` to `until` for the entries of one link
  abbrev charged_own : (X → ℕ) → (Entry X → ℕ) → ℕ → ℕ → ℕ → List (Entry X) → ℕ
  charged_own vl_of charge_of since until vl [] = 0
  charged_own vl_of charge_of since until vl (e ∷ es) =
      (if vl_of e.item == vl then charged_in since until (charged_as charge_of e) else 0) +
      charged_own vl_of charge_of since until vl es

  own-is : (vl_of : X → ℕ) (charge_of : Entry X → ℕ) (since until vl : ℕ) (es : List (Entry X)) →
      charged_own vl_of charge_of since until vl es ≡ charged_between since until (charged_to vl_of charge_of vl es)
  own-is vl_of charge_of since until vl [] = refl
  own-is vl_of charge_of since until vl (e ∷ es) =
      let rest = own-is vl_of charge_of since until vl es in
      elim (cases_Bool (vl_of e.item == vl)) [
        | inr other ↦ rw other (omega (arith, rest))
        | inl own ↦ (let last = reverse-append (charged_as charge_of e ∷ [])
            (map (charged_as charge_of) (filter (λ d. vl_of d.item == vl) es)) in
            let append = between-append since until (charged_to vl_of charge_of vl es) (charged_as charge_of e ∷ []) in
            let whole = ap (λ xs. charged_between since until xs) last in
            rw own (omega (arith, rest, append, whole)))
      ]

  part-charged : (charge_of : Entry X → ℕ) (class : Priority) (since until : ℕ) (e : Entry X) →
      e.bytes + 20 ≤ charge_of e → wire_in class since until e ≤ charged_in since until (charged_as charge_of e)
  part-charged charge_of class since until e least =
      elim (cases_Bool (is_class class e.priority)) [
        | inr other ↦ rw other (omega arith)
        | inl own ↦ elim (cases_Bool (nat_le since e.time && nat_le e.time until)) [
          | inl counted ↦ rw (own, counted) (omega (arith, least))
          | inr out ↦ rw (own, out) (omega arith)
        ]
      ]

  -- the entries of one flow, and those of the flows after it
  step : (vl_of : X → ℕ) (charge_of : Entry X → ℕ) (flows : List Flow) (class : Priority) (since until : ℕ)
      (f : Flow) (fs : List Flow) → AreFlows flows → Contains flows f → (es : List (Entry X)) →
      All (λ e. IsCharged vl_of charge_of flows e) es →
      wire_among vl_of class since until (f ∷ fs) es
      ≤ (if is_class class f.priority then charged_own vl_of charge_of since until f.vl es else 0)
      + wire_among vl_of class since until fs es
  step vl_of charge_of flows class since until f fs links own [] each = omega arith
  step vl_of charge_of flows class since until f fs links own (e ∷ es) each =
      let rest = step vl_of charge_of flows class since until f fs links own es
      (λ k d lt. each (suc k) d (omega (arith, lt))) in
      let here : IsCharged vl_of charge_of flows e = each 0 e (omega arith) in
      elim (cases_Bool (vl_of e.item == f.vl)) [
        | inl same ↦ (let named : vl_of e.item ≡ f.vl = eqb-true (vl_of e.item) f.vl same in
            let is-own : here.flow ≡ f = links.distinct here.flow f here.stands own (here.named ∙ named) in
            let classes : e.priority ≡ f.priority = here.class ∙ ap (λ z. z.priority) is-own in
            elim (cases_Bool (is_class class f.priority)) [
              | inl is ↦ (let charge = part-charged charge_of class since until e here.at_least in
                  let old = rw is at rest in
                  rw (same, is) (omega (arith, charge, old)))
              | inr is ↦ (let old = rw is at rest in
                  let none : is_class class e.priority ≡ false = rw classes is in
                  rw (same, is, none) (omega (arith, old)))
            ])
        | inr other ↦ elim (cases_Bool (is_class class f.priority)) [
          | inl is ↦ (let old = rw is at rest in rw (other, is) (omega (arith, old)))
          | inr is ↦ (let old = rw is at rest in rw (other, is) (omega (arith, old)))
        ]
      ]

  -- what comes of a class is at most what its flows are charged
  among-flows : (vl_of : X → ℕ) (charge_of : Entry X → ℕ) (flows : List Flow) (class : Priority) (since until : ℕ)
      (es : List (Entry X)) → AreFlows flows → All (λ e. IsCharged vl_of charge_of flows e) es →
      (fs : List Flow) → ((f : Flow) → Contains fs f → Contains flows f) →
      wire_among vl_of class since until fs es
      ≤ sum_by (λ f. charged_own vl_of charge_of since until f.vl es) (of_class class fs)
  among-flows vl_of charge_of flows class since until es links each [] part =
      omega (arith, among-none vl_of class since until es)
  among-flows vl_of charge_of flows class since until es links each (f ∷ fs) part =
      let rest = among-flows vl_of charge_of flows class since until es links each fs
      (λ d k. part d (contains_tail f fs d k)) in
      let first = step vl_of charge_of flows class since until f fs links (part f (contains_head f fs)) es each in
      elim (cases_Bool (is_class class f.priority)) [
        | inl is ↦ (let split = rw is at first in
            rw (
              is,
              sum_by-cons (λ d. charged_own vl_of charge_of since until d.vl es) f
                  (of_class class fs),
            ) (omega (arith, split, rest)))
        | inr is ↦ (let split = rw is at first in rw is (omega (arith, split, rest)))
      ]

  pub wire-charged : (vl_of : X → ℕ) (charge_of : Entry X → ℕ) (flows : List Flow) (class : Priority)
      (since until : ℕ) (es : List (Entry X)) → AreFlows flows → All (λ e. IsCharged vl_of charge_of flows e) es →
      wire_between class since until es
      ≤ sum_by (λ f. charged_own vl_of charge_of since until f.vl es) (of_class class flows)
  wire-charged vl_of charge_of flows class since until es links each =
      let all = among-all vl_of charge_of flows class since until es each in
      let sum = among-flows vl_of charge_of flows class since until es links each flows (λ f k. k) in
      omega (arith, all, sum)

  -- policed entries keep the curve of their flows
  pub policed-keep : EachAccountMoves → (vl_of : X → ℕ) (charge_of : Entry X → ℕ) (flows : List Flow)
      (entries : List (Entry X)) (class : Priority) → AreFlows flows → ArePoliced vl_of charge_of flows entries →
      KeepsCurve class (curve_of class flows) entries
  policed-keep moves vl_of charge_of flows entries class links policed since until le =
      let g : Flow → ℕ = λ f. charged_own vl_of charge_of since until f.vl entries in
      let all = wire-charged vl_of charge_of flows class since until entries links policed.charged in
      let each : (f : Flow) → Contains flows f → byte_units * g f ≤ cap f.link + fill_rate f.link * (until - since)
      = λ f k. let own = policed.accepted f k in
      let kept = accepted-keeps moves f.link
      (All-contains (λ d. IsTrue (is_bag d.link.bag_ms)) flows f links.gaps k) own.0 since until le in
      let same = ap (λ xs. charged_between since until xs) own.1 in
      let is = own-is vl_of charge_of since until f.vl entries in
      omega (arith, kept, same, is) in
      let sum = sum-bound g (λ f. cap f.link) (λ f. fill_rate f.link) (until - since) class flows each in
      omega (arith, all, sum)

  -- and whatever was accepted, what is missing in the accounts is as much as their burst would be
  pub missing-keep : (vl_of : X → ℕ) (charge_of : Entry X → ℕ) (flows : List Flow) (entries : List (Entry X))
      (class : Priority) (since now : ℕ) → AreFlows flows → All (λ e. IsCharged vl_of charge_of flows e) entries →
      byte_units * wire_between class since now entries ≤ sum_by
      (λ f. missing f.link (charged_to vl_of charge_of f.vl entries) now) (of_class class flows) + rates
      (of_class class flows) * (now - since)
  missing-keep vl_of charge_of flows entries class since now links each =
      let g : Flow → ℕ = λ f. charged_own vl_of charge_of since now f.vl entries in
      let all = wire-charged vl_of charge_of flows class since now entries links each in
      let sum = sum-bound g (λ f. missing f.link (charged_to vl_of charge_of f.vl entries) now)
      (λ f. fill_rate f.link) (now - since) class flows
      (λ f k. let is = own-is vl_of charge_of since now f.vl entries in
      omega (arith, is, window-missing f.link since now now (charged_to vl_of charge_of f.vl entries))) in
      omega (arith, all, sum)

  -- a further entry is the newest of its link
  pub charged-push : (vl_of : X → ℕ) (charge_of : Entry X → ℕ) (vl : ℕ) (es : List (Entry X)) (e : Entry X) →
      charged_to vl_of charge_of vl (es ++ e ∷ [])
      ≡ (if vl_of e.item == vl then charged_as charge_of e ∷ charged_to vl_of charge_of vl es
      else charged_to vl_of charge_of vl es)
  charged-push vl_of charge_of vl es e =
      let own = filter-append (λ d. vl_of d.item == vl) es (e ∷ []) in
      let split = ap (λ ds. reverse (map (charged_as charge_of) ds)) own in
      elim (cases_Bool (vl_of e.item == vl)) [
        | inl is ↦ (let seen = map-append (charged_as charge_of) (filter (λ d. vl_of d.item == vl) es) (e ∷ []) in
            let back = reverse-append
            (map (charged_as charge_of) (filter (λ d. vl_of d.item == vl) es))
            (charged_as charge_of e ∷ []) in
            rw is at split ∙ rw is (ap reverse seen ∙ back))
        | inr other ↦ rw other at split
            ∙ rw other (ap (λ ds. reverse (map (charged_as charge_of) ds))
            (append-nil (filter (λ d. vl_of d.item == vl) es)))
      ]
