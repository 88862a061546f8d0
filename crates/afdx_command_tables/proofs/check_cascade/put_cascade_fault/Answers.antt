use Rattle.std.proofs.Common.{◌≡◌, ◌++◌, List, ℕ, [], sym, ap, subst, ◌∙◌}
use Rattle.std.specs.Prelude.{OnOk}
use Rattle.std.specs.Option.{option_map_or}
use Rattle.afdx_frame.proofs.ListLemmas.{slice_get-within}
use Rattle.afdx_config.specs.Switches.{NamedRows}
use Rattle.afdx_admit.specs.FaultText.{switch_fault_text}
use Rattle.afdx_admit.specs.Known.{name_at}
use Rattle.afdx_text.specs.OutLines.{denied_line}
use Rattle.afdx_text.specs.Texts.{text_bytes}
use Rattle.afdx_command_tables.specs.CascadeText.{fault_line_at}
use Rattle.afdx_command_tables.proofs.check_cascade.put_cascade_fault.Goals as goal

pub returns : goal.returns
returns c =
    let found = slice_get-within c.args.switches.now c.args.fault.switch.0 c.requires.switch in
    let s : NamedRows = found.0 in
    let fault = c.args.fault.fault in
    let text = c.text-fault.result in
    let said = c.text-fault.ensures s found.1 in
    let line : c.as_str.result.now ≡ switch_fault_text s.name (name_at s.rows fault) fault =
    c.as_str.ensures.value ∙ c.in_ok-line.ensures.ok
    ∙ ap (λ (x : List ℕ). switch_fault_text x text.name.now text.fault) said.1
    ∙ ap (λ (x : List ℕ). switch_fault_text s.name x text.fault) said.2
    ∙ ap (λ x. switch_fault_text s.name (name_at s.rows fault) x) said.0 in
    subst (λ (x : List ℕ). OnOk c.put.result (text_bytes c.put.new.text ≡ text_bytes c.args.text.now ++ x))
    (ap denied_line line
    ∙ sym (ap (λ o. option_map_or (fault_line_at c.args.fault) o []) found.1))
    c.put.ensures.added
