use Rattle.afdx_text.proofs.TellingLemmas.{Tells-more}
use Rattle.afdx_command_tables.proofs.refusing.tell_switch_subject.Goals as goal

pub returns-in-Unread : goal.returns-in-Unread
returns-in-Unread g c =
    let more = Tells-more g.E.Write.contents in
    let number = rw c.from-in-Unread.ensures at c.tell_number-in-Unread.ensures in
    let name = rw c.as_bytes.ensures.value at c.tell-in-Unread.ensures in
    rw c.in-Unread.is (more _ _ _ _ _ (more _ _ _ _ _ number c.tell.ensures) name)
