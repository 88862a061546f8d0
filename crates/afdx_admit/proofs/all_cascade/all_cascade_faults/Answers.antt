use Rattle.std.proofs.Common.{◌≡◌, ◌++◌, [], List, slice_get, sym, ap, subst, ◌∙◌}
use Rattle.std.specs.List.{AllByRecursion}
use Rattle.std.proofs.lemmas.List.Elements.{All-from_recursion}
use Rattle.afdx_config.specs.Switches.{NamedRows, AreSwitches}
use Rattle.afdx_frame.specs.Lines.{false_lines}
use Rattle.afdx_frame.proofs.FalseLinesLemmas.{first-of_all, empty-none}
use Rattle.afdx_admit.specs.declared.cascade_fault.CascadeFault.{CascadeFault}
use Rattle.afdx_admit.specs.Cascade.{cascade_lines, IsCascadeAdmitted}
use Rattle.afdx_admit.specs.AtSwitch.{IsKnownAt}
use Rattle.afdx_admit.proofs.CascadeExactLemmas.{admitted-from, from-admitted}
use Rattle.afdx_admit.proofs.CascadeKnownLemmas.{false-known}
use Rattle.afdx_admit.proofs.all_cascade.all_cascade_faults.Goals as goal

none-admitted : (ss : List NamedRows) (faults : List CascadeFault) → AreSwitches ss
    → faults ≡ false_lines (cascade_lines ss) →
    (faults ≡ [] → IsCascadeAdmitted ss) × (IsCascadeAdmitted ss → faults ≡ [])
none-admitted ss faults are is = (
  λ none. admitted-from ss are (first-of_all (cascade_lines ss) ∙ ap (λ fs. slice_get fs 0) (sym is ∙ none)),
  λ admitted. is ∙ empty-none (false_lines (cascade_lines ss))
      (sym (first-of_all (cascade_lines ss)) ∙ from-admitted ss are admitted),
)

pub returns-clause-faults : goal.returns-clause-faults
returns-clause-faults c =
    c.in_ok-add_cascade_lines.ensures.walks
    ∙ ap (λ fs. fs ++ false_lines (cascade_lines c.args.switches.now)) c.new-found.ensures.items

pub returns-clause-none : goal.returns-clause-none
returns-clause-none c = none-admitted c.args.switches.now _ c.add_cascade_lines.ensures.switches
    (c.in_ok-add_cascade_lines.ensures.walks
    ∙ ap (λ fs. fs ++ false_lines (cascade_lines c.args.switches.now)) c.new-found.ensures.items)

pub returns-clause-known : goal.returns-clause-known
returns-clause-known c =
    let ss = c.args.switches.now in
    All-from_recursion (IsKnownAt ss) c.add_cascade_lines.new.found.items
    (subst (AllByRecursion (IsKnownAt ss))
    (sym (c.in_ok-add_cascade_lines.ensures.walks
    ∙ ap (λ fs. fs ++ false_lines (cascade_lines ss)) c.new-found.ensures.items))
    (false-known ss c.add_cascade_lines.ensures.switches))
