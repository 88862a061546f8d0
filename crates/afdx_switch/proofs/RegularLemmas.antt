-- A link's stream at its sender's port that keeps the link's gap is accepted.
use Rattle.std.proofs.Common.{◌≡◌, ℕ, suc, ◌==◌, Bool, true, false, List, [], ◌∷◌, length, map, sym}
use Rattle.std.proofs.Common.{ap, ◌∙◌, subst, refl, arith, inl, inr}
use Rattle.std.specs.Prelude.{Result, Ok, Err, IfOk, Option, Some, None, is_none, slice_get, if◌then◌else◌}
use Rattle.std.proofs.lemmas.Bool.{eq-eqb}
use Rattle.afdx_frame.specs.Regulation.{Regulation}
use Rattle.afdx_config.specs.Lawful.{IsLawfulSwitch}
use Rattle.afdx_config.specs.Rows.{LinkRow, Rows}
use Rattle.afdx_police.specs.Arrival.{Arrival, names, own}
use Rattle.afdx_police.specs.Rule.{Rule, regulation_of}
use Rattle.afdx_police.specs.Shape.{IsSound, fault_of}
use Rattle.afdx_police.specs.Stream.{IsRegular}
use Rattle.afdx_police.specs.Verdicts.{accepted_arrivals, accepted_own, charged_by, reason_after}
use Rattle.afdx_police.specs.Window.{Charged, fits, with_next, accepted_of}
use Rattle.afdx_police.specs.declared.shape.Reason.{Reason}
use Rattle.afdx_police.proofs.ShapeLemmas.{faultless-is-sound}
use Rattle.afdx_police.proofs.StreamLemmas.{regular_accepted}
use Rattle.afdx_police.proofs.VerdictLemmas.{verdict_decides, reason-fault}
use Rattle.afdx_switch.specs.Regular.{at_port, AreSound, IsRegularAt, IsAccepted}
use Rattle.afdx_switch.specs.Tables.{rule_of}
use Rattle.afdx_switch.specs.Verdicts.{reason_of, IsVerdict}
use Rattle.afdx_switch.specs.declared.verdict.Verdict.{Verdict}
use Rattle.afdx_switch.specs.declared.verdict.Verdict.TheVariants.{Dropped, Accepted}
use Rattle.afdx_switch.proofs.AdmittedLemmas.{link-reason}
use Rattle.afdx_switch.proofs.ArrivalLemmas.{own-named}
use Rattle.afdx_switch.proofs.ListLemmas.{bool_cases}

-- ---- the arrivals at a link's port are accepted, if they are sound and keep the gap

pub at-own : (rule : Rule) (x : Arrival) (past : List Arrival) → (rule.port == x.port) ≡ true
    → at_port rule (x ∷ past) ≡ x ∷ at_port rule past
at-own rule x past own_port = ap (λ b. if b then x ∷ at_port rule past else at_port rule past) own_port

pub at-other : (rule : Rule) (x : Arrival) (past : List Arrival) → (rule.port == x.port) ≡ false
    → at_port rule (x ∷ past) ≡ at_port rule past
at-other rule x past other = ap (λ b. if b then x ∷ at_port rule past else at_port rule past) other

accepts-fits : (link : Regulation) (xs : List Charged) (x : Charged) → accepted_of link (x ∷ xs)
    ≡ x ∷ xs → accepted_of link xs ≡ xs → fits link xs x ≡ true
unfolding accepted_of
accepts-fits link xs x all rest = by (fits link xs x) refl
  where
    longer : (zs : List Charged) → zs ≡ x ∷ zs → ⊥
    longer zs same = let n : length zs ≡ suc (length zs) = ap length same in omega (arith, n)

    by : (b : Bool) → fits link xs x ≡ b → fits link xs x ≡ true
    by true fit = fit
    by false not_fit = absurd
        (longer xs (ap (λ b. if b then x ∷ xs else xs) (sym not_fit)
        ∙ sym (ap (λ ys. with_next link ys x) rest) ∙ all))

-- of a link's own arrivals exactly those at its port are accepted
pub record AreAccepted (rule : Rule) (xs : List Arrival) : Type 0 where
  pub charged : accepted_own rule xs ≡ map (charged_by rule) (at_port rule xs)
  pub arrivals : accepted_arrivals rule xs ≡ at_port rule xs

-- one at another port has a fault
pub wrong-port : (rule : Rule) (x : Arrival) → (rule.port == x.port) ≡ false → (reason : Reason)
    × (fault_of (Some rule) x.port x.bytes ≡ Some reason)
wrong-port rule x other = by (fault_of (Some rule) x.port x.bytes) refl
  where
    by : (o : Option Reason) → fault_of (Some rule) x.port x.bytes ≡ o → (reason : Reason)
        × (fault_of (Some rule) x.port x.bytes ≡ Some reason)
    by (Some reason) fault = (reason, fault)
    by None none = absurd (let same =
        eq-eqb rule.port x.port ((faultless-is-sound rule x.port x.bytes).0 none).at_port in cc)

pub step-other : (rule : Rule) (x : Arrival) (past : List Arrival) → (rule.port == x.port) ≡ false
    → AreAccepted rule past → AreAccepted rule (x ∷ past)
unfolding accepted_arrivals
step-other rule x past other so_far =
    let wrong = wrong-port rule x other in
    let reason : reason_after rule past x ≡ Some wrong.0 = reason-fault rule past x wrong.0 wrong.1 in
    let same = sym (at-other rule x past other) in
    record {
      charged = (verdict_decides rule past x).dropped wrong.0 reason ∙ so_far.charged ∙ ap (map (charged_by rule)) same;
      arrivals = ap (λ (o : Option Reason). if is_none o then x
          ∷ accepted_arrivals rule past else accepted_arrivals rule past) reason ∙ so_far.arrivals ∙ same;
    }

pub reason-own : (rule : Rule) (x : Arrival) (past : List Arrival) (next : ℕ)
    → IsSound rule x.port x.bytes →
    IsRegular (regulation_of rule) (map (charged_by rule) (x ∷ at_port rule past)) next
    → AreAccepted rule past →
    reason_after rule past x ≡ None
reason-own rule x past next sound regular so_far =
    let link = regulation_of rule in
    let came = map (charged_by rule) (at_port rule past) in
    let fit : fits link came (charged_by rule x) ≡ true =
    accepts-fits link came (charged_by rule x)
    (regular_accepted link (charged_by rule x ∷ came) next regular)
    (regular_accepted link came regular.0 regular.5) in
    (verdict_decides rule past x).exactly.1 (
      (faultless-is-sound rule x.port x.bytes).1 sound,
      ap (λ zs. fits link zs (charged_by rule x)) so_far.charged ∙ fit,
    )

pub step-own : (rule : Rule) (x : Arrival) (past : List Arrival) → (rule.port == x.port) ≡ true
    → reason_after rule past x ≡ None → AreAccepted rule past → AreAccepted rule (x ∷ past)
unfolding accepted_arrivals
step-own rule x past own_port none so_far =
    let same = sym (at-own rule x past own_port) in
    record {
      charged = (verdict_decides rule past x).accepted none
          ∙ ap (λ zs. charged_by rule x ∷ zs) so_far.charged ∙ ap (map (charged_by rule)) same;
      arrivals = ap (λ (o : Option Reason). if is_none o then x
          ∷ accepted_arrivals rule past else accepted_arrivals rule past) none
          ∙ ap (λ zs. x ∷ zs) so_far.arrivals ∙ same;
    }

pub accepted-at : (rule : Rule) (xs : List Arrival) (next : ℕ) → AreSound rule (at_port rule xs)
    → IsRegular (regulation_of rule) (map (charged_by rule) (at_port rule xs)) next → AreAccepted rule xs
unfolding accepted_own accepted_arrivals
accepted-at rule [] next sound regular = record { charged = refl; arrivals = refl }
accepted-at rule (x ∷ past) next sound regular =
    elim (bool_cases (rule.port == x.port)) [
      | inl own_port ↦
          let sound_own = subst (AreSound rule) (at-own rule x past own_port) sound in
          let regular_own = subst (λ zs. IsRegular (regulation_of rule) (map (charged_by rule) zs)
          next) (at-own rule x past own_port) regular in
          let so_far = accepted-at rule past regular_own.0 sound_own.1 regular_own.5 in
          step-own rule x past own_port (reason-own rule x past next sound_own.0 regular_own so_far) so_far
      | inr other ↦
          step-other rule x past other
          (accepted-at rule past next (subst (AreSound rule) (at-other rule x past other) sound)
          (subst (λ zs. IsRegular (regulation_of rule) (map (charged_by rule) zs) next)
          (at-other rule x past other) regular))
    ]

-- an arrival at the port is accepted
pub regular-reason : (t : Rows) (past : List Arrival) (x : Arrival) (place : ℕ) (l : LinkRow)
    → IsLawfulSwitch t → slice_get t.links place ≡ Some l → names l.vl x.bytes ≡ true
    → (rule_of t l).port ≡ x.port →
    IsRegularAt (rule_of t l) (own l.vl x.side (x ∷ past)) → reason_of t past x ≡ None
regular-reason t past x place l lawful at named port is =
    let rule = rule_of t l in
    let before = own l.vl x.side past in
    let all : at_port rule (own l.vl x.side (x ∷ past)) ≡ x ∷ at_port rule before =
    ap (at_port rule) (own-named l.vl x past named)
    ∙ at-own rule x before (eq-eqb rule.port x.port port) in
    let sound : AreSound rule (x ∷ at_port rule before) = subst (AreSound rule) all is.sound in
    let regular : IsRegular (regulation_of rule) (map (charged_by rule) (x ∷ at_port rule before))
    is.next = subst (λ zs. IsRegular (regulation_of rule) (map (charged_by rule) zs) is.next)
    all is.regular in
    link-reason t past x place l lawful at named
    ∙ reason-own rule x before is.next sound.0 regular
    (accepted-at rule before regular.0 sound.1 regular.5)

accepted-verdict : (t : Rows) (past : List Arrival) (x : Arrival) (v : Verdict)
    → reason_of t past x ≡ None → IsVerdict t past x v → IsAccepted v
accepted-verdict t past x (Dropped reason) none is = absurd (cc (none, is))
accepted-verdict t past x (Accepted lost) none is = tt

pub verdict-accepted : {E : Type 0} (r : Result Verdict E) (t : Rows) (past : List Arrival)
    (x : Arrival) → reason_of t past x ≡ None → IfOk r (IsVerdict t past x) → IfOk r IsAccepted
verdict-accepted (Ok v) t past x none is = accepted-verdict t past x v none is
verdict-accepted (Err e) t past x none is = tt
