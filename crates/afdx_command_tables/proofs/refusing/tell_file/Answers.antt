use Rattle.afdx_text.proofs.TellingLemmas.{Tells-more}
use Rattle.afdx_command_tables.proofs.refusing.tell_file.Goals as goal

pub returns : goal.returns
returns g c =
    let more = Tells-more g.E.Write.contents in
    let word = rw (c.as_bytes.ensures.value, c.word.ensures) at c.tell-2.ensures in
    more _ _ _ _ _
    (more _ _ _ _ _ c.tell.ensures
    (more _ _ _ _ _ word (more _ _ _ _ _ c.tell_switch.ensures c.tell_file_place.ensures)))
    c.tell-3.ensures
