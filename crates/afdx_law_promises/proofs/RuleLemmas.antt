-- Verdicts by the window rule.
use Rattle.std.proofs.Common.{◌≡◌, ◌&&◌, Bool, true, false, List, [], ◌∷◌, map, filter, refl, sym, ap, ◌∙◌, subst}
use Rattle.std.specs.Prelude.{ℕ, Option, Some, None, is_none, slice_get, if◌then◌else◌}
use Rattle.afdx_frame.specs.declared.link.Side.{Side}
use Rattle.afdx_frame.proofs.SideLemmas.{is_side-same}
use Rattle.afdx_config.specs.Lawful.{IsLawfulSwitch}
use Rattle.afdx_config.specs.Rows.{LinkRow, Rows}
use Rattle.afdx_police.specs.Arrival.{Arrival, is_side, names, own}
use Rattle.afdx_police.specs.Rule.{Rule, regulation_of}
use Rattle.afdx_police.specs.Shape.{fault_of}
use Rattle.afdx_police.specs.Verdicts.{accepted_arrivals, accepted_own, charged_by, drop_reason, reason_after}
use Rattle.afdx_police.specs.Window.{Fits, fits}
use Rattle.afdx_police.specs.declared.shape.Reason.{Reason}
use Rattle.afdx_police.specs.declared.shape.Reason.TheVariants.{OverRate}
use Rattle.afdx_police.proofs.VerdictLemmas.{reason-fault, verdict_decides}
use Rattle.afdx_police.proofs.WindowLemmas.{fits-Fits}
use Rattle.afdx_switch.specs.Tables.{rule_of}
use Rattle.afdx_switch.specs.Verdicts.{reason_of}
use Rattle.afdx_switch.proofs.AdmittedLemmas.{link-reason}
use Rattle.afdx_law_promises.specs.Lines.{Judged, accepted_in, arrivals_judged}
use Rattle.afdx_law_promises.specs.WindowRule.{KeepsWindows, IsByWindowRule, AreByWindowRule}

-- ---- the rule's answer to one arrival

abbrev judged : Arrival → Option Reason → Judged
judged x reason = record { arrival = x; reason = reason }

charged-accepted : (rule : Rule) (xs : List Arrival)
    → accepted_own rule xs ≡ map (charged_by rule) (accepted_arrivals rule xs)
unfolding accepted_own accepted_arrivals reason_after
charged-accepted rule [] = refl
charged-accepted rule (x ∷ past) =
    by (is_none (drop_reason rule (accepted_own rule past) x)) (charged-accepted rule past)
  where
    by : (b : Bool) → accepted_own rule past ≡ map (charged_by rule) (accepted_arrivals rule past) →
        (if b then charged_by rule x ∷ accepted_own rule past else accepted_own rule past)
        ≡ map (charged_by rule) (if b then x
        ∷ accepted_arrivals rule past else accepted_arrivals rule past)
    by true rest = ap (λ zs. charged_by rule x ∷ zs) rest
    by false rest = rest

over-rate : (rule : Rule) (past : List Arrival) (x : Arrival) → fault_of (Some rule) x.port x.bytes
    ≡ None → fits (regulation_of rule) (accepted_own rule past) (charged_by rule x) ≡ false →
    reason_after rule past x ≡ Some OverRate
unfolding reason_after
over-rate rule past x sound unfit = rw (sound, unfit) refl

pub by-window-rule : (rule : Rule) (past : List Arrival) (x : Arrival)
    → IsByWindowRule rule (accepted_arrivals rule past) (judged x (reason_after rule past x))
by-window-rule rule past x = record {
  shape = λ fault is. reason-fault rule past x fault is;
  fits = λ sound keeps. (verdict_decides rule past x).exactly.1 (
    sound,
    (fits-Fits (regulation_of rule) (accepted_own rule past) (charged_by rule x)).1
        (windows keeps),
  );
  over_rate = λ sound passes. over-rate rule past x sound
      (unfit (fits (regulation_of rule) (accepted_own rule past) (charged_by rule x)) refl passes);
}
  where
    windows : KeepsWindows rule (accepted_arrivals rule past) x
        → Fits (regulation_of rule) (accepted_own rule past) (charged_by rule x)
    windows keeps = subst (λ xs. Fits (regulation_of rule) xs (charged_by rule x))
        (sym (charged-accepted rule past)) keeps

    unfit : (b : Bool) → fits (regulation_of rule) (accepted_own rule past) (charged_by rule x) ≡ b
        → (KeepsWindows rule (accepted_arrivals rule past) x → ⊥) → b ≡ false
    unfit false is passes = refl
    unfit true is passes = absurd
        (passes (subst (λ xs. Fits (regulation_of rule) xs (charged_by rule x))
        (charged-accepted rule past) ((fits-Fits (regulation_of rule) (accepted_own rule past)
        (charged_by rule x)).0 is)))

-- there is one answer
one-answer : (rule : Rule) (accepted : List Arrival) (x : Arrival) (a b : Option Reason)
    → IsByWindowRule rule accepted (judged x a) → IsByWindowRule rule accepted (judged x b) → a ≡ b
one-answer rule accepted x a b is other = by-fault (fault_of (Some rule) x.port x.bytes) refl
  where
    by-fit : (c : Bool) → fits (regulation_of rule) (map (charged_by rule) accepted)
        (charged_by rule x) ≡ c → fault_of (Some rule) x.port x.bytes ≡ None → a ≡ b
    by-fit true fit sound =
        let keeps = (fits-Fits (regulation_of rule) (map (charged_by rule) accepted) (charged_by rule x)).0 fit in
        is.fits sound keeps ∙ sym (other.fits sound keeps)
    by-fit false unfit sound =
        let passes : KeepsWindows rule accepted x
        → ⊥ = λ keeps. let fit : fits (regulation_of rule) (map (charged_by rule) accepted)
        (charged_by rule x) ≡ true = (fits-Fits (regulation_of rule)
        (map (charged_by rule) accepted) (charged_by rule x)).1 keeps in cc (fit, unfit) in
        is.over_rate sound passes ∙ sym (other.over_rate sound passes)

    by-fault : (o : Option Reason) → fault_of (Some rule) x.port x.bytes ≡ o → a ≡ b
    by-fault (Some fault) some = is.shape fault some ∙ sym (other.shape fault some)
    by-fault None none = by-fit
        (fits (regulation_of rule) (map (charged_by rule) accepted) (charged_by rule x)) refl none

-- and of a list of arrivals one list of verdicts
pub one-verdicts : (rule : Rule) (these those : List Judged)
    → arrivals_judged these ≡ arrivals_judged those → AreByWindowRule rule these
    → AreByWindowRule rule those → these ≡ those
one-verdicts rule [] [] same is other = refl
one-verdicts rule [] (w ∷ ws) same is other = absurd (cc same)
one-verdicts rule (v ∷ vs) [] same is other = absurd (cc same)
one-verdicts rule (v ∷ vs) (w ∷ ws) same is other =
    let arrival : v.arrival ≡ w.arrival = cc same in
    let before : arrivals_judged vs ≡ arrivals_judged ws = cc same in
    let rest : vs ≡ ws = one-verdicts rule vs ws before is.1 other.1 in
    let also : IsByWindowRule rule (accepted_in vs) (judged v.arrival w.reason) =
    subst (λ zs. IsByWindowRule rule (accepted_in zs) (judged v.arrival w.reason)) (sym rest)
    (subst (λ x. IsByWindowRule rule (accepted_in ws) (judged x w.reason)) (sym arrival) other.0) in
    let reason : v.reason ≡ w.reason = one-answer rule (accepted_in vs) v.arrival v.reason w.reason is.0 also in
    let first : v ≡ w = same-judged v w arrival reason in
    ap (λ z. z ∷ vs) first ∙ ap (λ zs. w ∷ zs) rest
  where
    same-judged : (v w : Judged) → v.arrival ≡ w.arrival → v.reason ≡ w.reason → v ≡ w
    same-judged v w a r = ap (λ (x : Arrival). record { arrival = x; reason = v.reason }) a
        ∙ ap (λ (o : Option Reason). record { arrival = w.arrival; reason = o }) r

-- ---- the verdicts of a switch

unfoldable pub verdicts_of : Rows → List Arrival → List Judged
verdicts_of t [] = []
verdicts_of t (x ∷ past) = record { arrival = x; reason = reason_of t past x } ∷ verdicts_of t past

abbrev pub own_verdicts : ℕ → Side → List Judged → List Judged
own_verdicts vl side verdicts = filter (λ v. is_side side v.arrival.side && names vl v.arrival.bytes) verdicts

-- those on a link's own arrivals are the window rule's
pub record AreOwn (t : Rows) (l : LinkRow) (side : Side) (arrivals : List Arrival) : Type 0 where
  pub accepted : accepted_in (own_verdicts l.vl side (verdicts_of t arrivals))
      ≡ accepted_arrivals (rule_of t l) (own l.vl side arrivals)
  pub rule : AreByWindowRule (rule_of t l) (own_verdicts l.vl side (verdicts_of t arrivals))

pub own-verdicts : (t : Rows) (l : LinkRow) (side : Side) (place : ℕ)
    → IsLawfulSwitch t
    → slice_get t.links place ≡ Some l → (arrivals : List Arrival) → AreOwn t l side arrivals
unfolding verdicts_of accepted_arrivals
own-verdicts t l side place lawful at [] = record { accepted = refl; rule = tt }
own-verdicts t l side place lawful at (x ∷ past) =
    by (is_side side x.side) (names l.vl x.bytes) refl refl (own-verdicts t l side place lawful at past)
  where
    other : (is_side side x.side && names l.vl x.bytes) ≡ false → AreOwn t l side past → AreOwn t l side (x ∷ past)
    other out before = record {
      accepted = rw out before.accepted;
      rule = rw out before.rule;
    }

    by : (b c : Bool) → is_side side x.side ≡ b → names l.vl x.bytes ≡ c → AreOwn t l side past
        → AreOwn t l side (x ∷ past)
    by false c off named before = other (rw off refl) before
    by true false on off before = other (rw (on, off) refl) before
    by true true on named before =
        let reason : reason_of t past x ≡ reason_after (rule_of t l) (own l.vl side past) x =
        link-reason t past x place l lawful at named
        ∙ ap (λ s. reason_after (rule_of t l) (own l.vl s past) x) (sym (is_side-same side x.side on)) in
        record {
          accepted = rw (on, named, reason)
              (push (is_none (reason_after (rule_of t l) (own l.vl side past) x)) before.accepted);
          rule = rw (on, named) ((
            subst (λ xs. IsByWindowRule (rule_of t l) xs (judged x (reason_of t past x))) (sym before.accepted)
                (subst (λ r. IsByWindowRule (rule_of t l)
                (accepted_arrivals (rule_of t l) (own l.vl side past)) (judged x r))
                (sym reason) (by-window-rule (rule_of t l) (own l.vl side past) x)),
            before.rule,
          ));
        }
      where
        push : (b : Bool) → accepted_in (own_verdicts l.vl side (verdicts_of t past))
            ≡ accepted_arrivals (rule_of t l) (own l.vl side past) →
            arrivals_judged (if b then
            record { arrival = x; reason = reason_after (rule_of t l) (own l.vl side past) x }
            ∷ filter (λ v. is_none v.reason) (own_verdicts l.vl side (verdicts_of t past)) else
            filter (λ v. is_none v.reason) (own_verdicts l.vl side (verdicts_of t past)))
            ≡ (if b then x ∷ accepted_arrivals (rule_of t l) (own l.vl side past) else
            accepted_arrivals (rule_of t l) (own l.vl side past))
        push true rest = ap (λ zs. x ∷ zs) rest
        push false rest = rest
