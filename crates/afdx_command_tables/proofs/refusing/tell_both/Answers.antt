use Rattle.afdx_text.proofs.TellingLemmas.{Tells-more}
use Rattle.afdx_command_tables.proofs.refusing.tell_both.Goals as goal

pub returns : goal.returns
returns g c =
    let more = Tells-more g.E.Write.contents in
    more _ _ _ _ _ (more _ _ _ _ _ c.tell_number.ensures c.tell.ensures) c.tell_number-2.ensures
