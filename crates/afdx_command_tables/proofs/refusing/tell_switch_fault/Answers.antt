use Rattle.afdx_text.proofs.TellingLemmas.{Tells-more}
use Rattle.afdx_command_tables.proofs.refusing.tell_switch_fault.Goals as goal

pub returns : goal.returns
returns g c =
    let more = Tells-more g.E.Write.contents in
    let word = rw (c.as_bytes.ensures.value, c.word.ensures) at c.tell.ensures in
    let switch = rw c.as_bytes-2.ensures.value at c.tell-3.ensures in
    more _ _ _ _ _
    (more _ _ _ _ _
    (more _ _ _ _ _ (more _ _ _ _ _ word c.tell-2.ensures) switch)
    c.tell-4.ensures)
    c.tell_switch_subject.ensures
