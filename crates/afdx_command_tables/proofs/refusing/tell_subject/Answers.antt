use Rattle.afdx_text.proofs.TellingLemmas.{Tells-more}
use Rattle.afdx_command_tables.proofs.refusing.tell_subject.Goals as goal

pub returns-in-SenderJitter : goal.returns-in-SenderJitter
returns-in-SenderJitter g c =
    let more = Tells-more g.E.Write.contents in
    let name = rw c.as_bytes.ensures.value at c.tell.ensures in
    let told = more _ _ _ _ _ (more _ _ _ _ _ name c.tell-in-SenderJitter.ensures)
    c.tell_number-in-SenderJitter.ensures in
    rw c.in-SenderJitter.is told
