use Rattle.std.proofs.Common.{◌++◌, Bool, [], codes, decimal, sym, subst, ne_eqb}
use Rattle.std.specs.Prelude.{if◌then◌else◌}
use Rattle.afdx_text.specs.Telling.{Tells}
use Rattle.afdx_text.proofs.TellingLemmas.{Tells-more}
use Rattle.afdx_command_tables.proofs.refusing.tell_switch.Goals as goal

pub returns-else-switch-eq0 : goal.returns-else-switch-eq0
returns-else-switch-eq0 g c =
    let number = rw c.from.ensures at c.tell_number.ensures in
    subst (λ (b : Bool). Tells g.E.Write.contents c.args.errors.now c.tell_number.new.device
    (if b then [] else codes " switch " ++ decimal c.args.switch))
    (sym (ne_eqb c.args.switch 0 c.if-switch-eq0.false))
    (Tells-more g.E.Write.contents _ _ _ _ _ c.tell-else-switch-eq0.ensures number)
