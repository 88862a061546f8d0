use Rattle.afdx_law_text.proofs.AnsweredLemmas.{replays-answered}
use Rattle.afdx_law_text.proofs.ConformLemmas.{replays-conform, replays-conform-exactly}
use Rattle.afdx_law_text.proofs.laws.replays_conform.Goals as goal

pub returns-clause-found : goal.returns-clause-found
returns-clause-found c = replays-conform c.right_conforms.ensures.found c.promises_are_kept.ensures.all

pub returns-clause-exactly : goal.returns-clause-exactly
returns-clause-exactly c =
    replays-conform-exactly c.right_conforms.ensures.found c.conforms_is_the_headline.ensures.found
    c.promises_are_kept.ensures.all

pub returns-clause-answer : goal.returns-clause-answer
returns-clause-answer c =
    replays-answered c.right_conforms.ensures.found c.right_conforms.ensures.answer
    c.conforms_is_the_headline.ensures.found
    c.conforms_is_the_headline.ensures.answer c.promises_are_kept.ensures.all
