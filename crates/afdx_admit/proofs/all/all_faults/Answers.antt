use Rattle.std.proofs.Common.{◌≡◌, ◌++◌, [], List, slice_get, sym, ap, subst, ◌∙◌}
use Rattle.std.specs.List.{AllByRecursion}
use Rattle.std.proofs.lemmas.List.Elements.{All-from_recursion}
use Rattle.afdx_config.specs.Rows.{Rows}
use Rattle.afdx_config.specs.Admission.{IsAdmitted}
use Rattle.afdx_config.specs.Lawful.{IsLawfulSwitch}
use Rattle.afdx_admit.specs.declared.fault.AdmitFault.{AdmitFault}
use Rattle.afdx_admit.specs.Known.{IsKnown}
use Rattle.afdx_admit.specs.Lines.{lines, false_lines}
use Rattle.afdx_frame.proofs.FalseLinesLemmas.{first-of_all, empty-none}
use Rattle.afdx_admit.proofs.KnownLemmas.{false_lines-known}
use Rattle.afdx_admit.proofs.ExactLemmas.{admitted_from, from_admitted}
use Rattle.afdx_admit.proofs.all.all_faults.Goals as goal

none-admitted : (t : Rows) (faults : List AdmitFault) → IsLawfulSwitch t → faults ≡ false_lines (lines t) →
    (faults ≡ [] → IsAdmitted t) × (IsAdmitted t → faults ≡ [])
none-admitted t faults lawful is = (
  λ none. admitted_from t lawful (first-of_all (lines t) ∙ ap (λ fs. slice_get fs 0) (sym is ∙ none)),
  λ admitted. is ∙ empty-none (false_lines (lines t))
      (sym (first-of_all (lines t)) ∙ from_admitted t lawful admitted),
)

pub returns-clause-faults : goal.returns-clause-faults
returns-clause-faults c =
    c.in_ok-add_lines.ensures.walks ∙ ap (λ fs. fs ++ false_lines (lines c.args.tables.now)) c.new-found.ensures.items

pub returns-clause-none : goal.returns-clause-none
returns-clause-none c = none-admitted c.args.tables.now _ c.add_lines.ensures.lawful
    (c.in_ok-add_lines.ensures.walks ∙ ap (λ fs. fs ++ false_lines (lines c.args.tables.now)) c.new-found.ensures.items)

pub returns-clause-known : goal.returns-clause-known
returns-clause-known c =
    let t = c.args.tables.now in
    All-from_recursion (IsKnown t) c.add_lines.new.found.items
    (subst (AllByRecursion (IsKnown t))
    (sym (c.in_ok-add_lines.ensures.walks ∙ ap (λ fs. fs ++ false_lines (lines t)) c.new-found.ensures.items))
    (false_lines-known t c.add_lines.ensures.lawful.own))
