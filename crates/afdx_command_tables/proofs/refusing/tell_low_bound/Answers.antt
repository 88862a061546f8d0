use Rattle.afdx_text.proofs.TellingLemmas.{Tells-more}
use Rattle.afdx_command_tables.proofs.refusing.tell_low_bound.Goals as goal

pub returns : goal.returns
returns g c =
    let more = Tells-more g.E.Write.contents in
    let both = rw (c.from.ensures, c.from-2.ensures) at c.tell_both.ensures in
    more _ _ _ _ _ (more _ _ _ _ _ both c.tell.ensures) c.tell_low_number.ensures
