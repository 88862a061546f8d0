use Rattle.std.proofs.Common.{List, ℕ, subst}
use Rattle.afdx_text.proofs.TellingLemmas.{Tells-more}
use Rattle.afdx_text.specs.Telling.{Tells}
use Rattle.afdx_replay.proofs.CascadeEventLemmas.{place-whole}
use Rattle.afdx_replay.proofs.early.tell_place.Goals as goal

pub returns-then-not-is_empty : goal.returns-then-not-is_empty
returns-then-not-is_empty g c =
    let more = Tells-more g.D.Write.contents in
    subst (λ (x : List ℕ). Tells g.D.Write.contents c.args.device.now c.tell-then-not-is_empty-2.new.device x)
    (place-whole c.args.site.side c.letter_of.result.now c.args.site.switch.now c.as_bytes.result.now
    c.is_empty.result c.letter_of.ensures c.as_bytes.ensures.value c.is_empty.ensures c.if-not-is_empty.true)
    (more _ _ _ _ _ (more _ _ _ _ _ c.tell.ensures c.tell-then-not-is_empty.ensures)
    c.tell-then-not-is_empty-2.ensures)
