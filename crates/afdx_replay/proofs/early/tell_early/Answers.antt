use Rattle.afdx_text.proofs.TellingLemmas.{Tells-more}
use Rattle.afdx_replay.proofs.early.tell_early.Goals as goal

pub returns : goal.returns
returns g c =
    let more = Tells-more g.D.Write.contents in
    more _ _ _ _ _ (more _ _ _ _ _ (more _ _ _ _ _ (more _ _ _ _ _ (more _ _ _ _ _ c.tell.ensures
    c.tell_number.ensures) c.tell-2.ensures) c.tell_place_word.ensures) c.tell_number-2.ensures) c.tell-3.ensures
