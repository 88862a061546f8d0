use Rattle.afdx_text.proofs.TellingLemmas.{Tells-more}
use Rattle.afdx_command_tables.proofs.refusing.tell_place.Goals as goal

pub returns : goal.returns
returns g c =
    let more = Tells-more g.E.Write.contents in
    let part = rw (c.as_bytes.ensures.value, c.word.ensures) at c.tell-2.ensures in
    let key = rw c.from.ensures at c.tell_number-2.ensures in
    more _ _ _ _ _ c.tell.ensures
    (more _ _ _ _ _
    (more _ _ _ _ _ (more _ _ _ _ _ (more _ _ _ _ _ part c.tell-3.ensures) c.tell_number.ensures)
    c.tell-4.ensures)
    key)
