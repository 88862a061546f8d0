use Rattle.afdx_law_text.proofs.SentArrivalLemmas.{lines-are-arrivals}
use Rattle.afdx_law_text.proofs.laws.sent_lines_are_arrivals.Goals as goal

pub returns : goal.returns
returns c = lines-are-arrivals c.built_is_computed.ensures
