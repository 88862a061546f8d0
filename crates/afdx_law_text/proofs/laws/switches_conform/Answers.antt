use Rattle.afdx_law_text.proofs.AnsweredLemmas.{switches-answered}
use Rattle.afdx_law_text.proofs.ConformLemmas.{switches-conform, switches-conform-exactly}
use Rattle.afdx_law_text.proofs.laws.switches_conform.Goals as goal

pub returns-clause-found : goal.returns-clause-found
returns-clause-found c = switches-conform c.right_conforms.ensures.found c.promises_are_kept.ensures.all

pub returns-clause-exactly : goal.returns-clause-exactly
returns-clause-exactly c =
    switches-conform-exactly c.right_conforms.ensures.found c.conforms_is_the_headline.ensures.found
    c.promises_are_kept.ensures.all

pub returns-clause-answer : goal.returns-clause-answer
returns-clause-answer c =
    switches-answered c.right_conforms.ensures.found c.right_conforms.ensures.answer
    c.conforms_is_the_headline.ensures.found
    c.conforms_is_the_headline.ensures.answer c.promises_are_kept.ensures.all
