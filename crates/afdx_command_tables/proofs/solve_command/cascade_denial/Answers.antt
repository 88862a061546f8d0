use Rattle.std.proofs.Common.{◌≡◌, List, ℕ, [], sym, ap, ◌∙◌}
use Rattle.std.specs.Option.{option_map_or}
use Rattle.std.proofs.lemmas.Result.{IfOk-weaker}
use Rattle.afdx_frame.proofs.ListLemmas.{slice_get-within}
use Rattle.afdx_config.specs.Switches.{NamedRows}
use Rattle.afdx_admit.specs.FaultText.{switch_fault_text}
use Rattle.afdx_admit.specs.Known.{name_at}
use Rattle.afdx_text.specs.OutLines.{denied_line}
use Rattle.afdx_command_tables.specs.CascadeText.{cascade_fault_line, fault_line_at}
use Rattle.afdx_command_tables.proofs.solve_command.cascade_denial.Goals as goal

pub returns : goal.returns
returns c =
    let found = slice_get-within c.args.switches.now c.args.fault.switch.0 c.requires.switch in
    let s : NamedRows = found.0 in
    let fault = c.args.fault.fault in
    let text = c.text-fault.result in
    let said = c.text-fault.ensures s found.1 in
    let line : denied_line (switch_fault_text text.switch.now text.name.now text.fault)
    ≡ cascade_fault_line c.args.switches.now c.args.fault =
    ap denied_line (ap (λ (x : List ℕ). switch_fault_text x text.name.now text.fault) said.1
    ∙ ap (λ (x : List ℕ). switch_fault_text s.name x text.fault) said.2
    ∙ ap (λ x. switch_fault_text s.name (name_at s.rows fault) x) said.0)
    ∙ sym (ap (λ o. option_map_or (fault_line_at c.args.fault) o []) found.1) in
    IfOk-weaker c.format.result _ _ (λ denial told. told ∙ line) c.format.ensures.ok
