use Rattle.std.proofs.Common.{◌≡◌, ◌++◌, List, ℕ, [], codes, sym, ap, subst, refl, ◌∙◌}
use Rattle.std.specs.Option.{option_map_or}
use Rattle.afdx_frame.proofs.ListLemmas.{slice_get-within}
use Rattle.afdx_config.specs.Switches.{NamedRows}
use Rattle.afdx_admit.specs.FaultText.{switch_fault_text}
use Rattle.afdx_admit.specs.Known.{name_at}
use Rattle.afdx_text.specs.Telling.{Tells}
use Rattle.afdx_text.proofs.TellingLemmas.{Tells-more}
use Rattle.afdx_command_tables.specs.Refusals.{admit_line_there}
use Rattle.afdx_command_tables.proofs.refusing.refuse_switches.Goals as goal

pub returns : goal.returns
returns g c =
    let more = Tells-more g.E.Write.contents in
    let found = slice_get-within c.args.switches.now c.args.fault.switch.0 c.requires.switch in
    let s : NamedRows = found.0 in
    let fault = c.args.fault.fault in
    let text = c.text-text.result in
    let said = c.text-text.ensures s found.1 in
    let line : switch_fault_text text.switch.now text.name.now text.fault
    ≡ switch_fault_text s.name (name_at s.rows fault) fault =
    ap (λ (x : List ℕ). switch_fault_text x text.name.now text.fault) said.1
    ∙ ap (λ (x : List ℕ). switch_fault_text s.name x text.fault) said.2
    ∙ ap (λ x. switch_fault_text s.name (name_at s.rows fault) x) said.0 in
    let told = more _ _ _ _ _ (more _ _ _ _ _ c.tell.ensures c.tell_switch_fault.ensures)
    c.tell-2.ensures in
    record {
      status_is = refl;
      told = subst (λ (x : List ℕ). Tells g.E.Write.contents c.args.errors.now c.tell-2.new.device x)
          (ap (λ (x : List ℕ). codes "admit " ++ x ++ codes "\n") line
          ∙ sym (ap (λ o. option_map_or (admit_line_there c.args.fault) o []) found.1)) told;
    }
