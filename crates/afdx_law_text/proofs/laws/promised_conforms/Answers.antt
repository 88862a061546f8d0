use Rattle.afdx_law_text.proofs.AnsweredLemmas.{promised-answered}
use Rattle.afdx_law_text.proofs.ConformLemmas.{promised-conforms, promised-conforms-exactly}
use Rattle.afdx_law_text.proofs.laws.promised_conforms.Goals as goal

pub returns-clause-found : goal.returns-clause-found
returns-clause-found c = promised-conforms c.right_conforms.ensures.found

pub returns-clause-exactly : goal.returns-clause-exactly
returns-clause-exactly c =
    promised-conforms-exactly c.right_conforms.ensures.found c.conforms_is_the_headline.ensures.found

pub returns-clause-answer : goal.returns-clause-answer
returns-clause-answer c =
    promised-answered c.right_conforms.ensures.found c.right_conforms.ensures.answer
    c.conforms_is_the_headline.ensures.found
    c.conforms_is_the_headline.ensures.answer
