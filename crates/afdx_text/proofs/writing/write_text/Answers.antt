use Rattle.afdx_text.proofs.OutputLemmas.{some_front}
use Rattle.afdx_text.proofs.writing.write_text.Goals as goal

pub returns-then-taken-text-clause-front : goal.returns-then-taken-text-clause-front
returns-then-taken-text-clause-front g c = some_front _ _ _ _ c.hand_bytes-taken.ensures.taken
