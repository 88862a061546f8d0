use Rattle.afdx_text.proofs.TellingLemmas.{Tells-more}
use Rattle.std.proofs.Common.{refl}
use Rattle.afdx_command_tables.proofs.refusing.refuse_tables.Goals as goal

pub returns : goal.returns
returns g c =
    let more = Tells-more g.E.Write.contents in
    let word = rw (c.as_bytes.ensures.value, c.word.ensures) at c.tell-2.ensures in
    let subject = rw (c.text-text.ensures.fault, c.text-text.ensures.name) at c.tell_subject.ensures in
    let text = more _ _ _ _ _ (more _ _ _ _ _ word c.tell-3.ensures) subject in
    record {
      status_is = refl;
      told = more _ _ _ _ _ (more _ _ _ _ _ c.tell.ensures text) c.tell-4.ensures;
    }
