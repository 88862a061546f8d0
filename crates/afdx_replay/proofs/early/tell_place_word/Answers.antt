use Rattle.std.proofs.Common.{sym, subst}
use Rattle.std.specs.Prelude.{option_map}
use Rattle.afdx_text.proofs.TellingLemmas.{Tells-more}
use Rattle.afdx_text.specs.OutLines.{site_text}
use Rattle.afdx_text.specs.Telling.{Tells}
use Rattle.afdx_replay.specs.Early.{place_word}
use Rattle.afdx_replay.proofs.early.tell_place_word.Goals as goal

pub returns-in-Some : goal.returns-in-Some
returns-in-Some g c =
    subst (λ place. Tells g.D.Write.contents c.args.device.now c.tell.new.device
    (place_word (option_map site_text place))) (sym c.in-Some.is)
    (Tells-more g.D.Write.contents _ _ _ _ _ c.tell_place.ensures c.tell.ensures)
