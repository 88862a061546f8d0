use Rattle.afdx_law_text.proofs.EmittedLemmas.{laws-of}
use Rattle.afdx_law_text.proofs.SeveralLemmas.{runs-bring, taken-by-one, taken-comes, taken-so-far, written-from}
use Rattle.afdx_law_text.proofs.laws.taken_comes_end_to_end.Goals as goal

pub returns-clause-lines : goal.returns-clause-lines
returns-clause-lines c =
    taken-comes (laws-of c.all_is_sent.ensures.sent c.all_is_sent.ensures.frames
    c.sent_is_told_once.ensures.stream c.sent_is_told_once.ensures.once
    c.sent_is_told_once.ensures.so_far c.sent_is_told_once.ensures.one_side c.built_is_computed.ensures)

pub returns-clause-one_side : goal.returns-clause-one_side
returns-clause-one_side c =
    taken-by-one (laws-of c.all_is_sent.ensures.sent c.all_is_sent.ensures.frames
    c.sent_is_told_once.ensures.stream c.sent_is_told_once.ensures.once
    c.sent_is_told_once.ensures.so_far c.sent_is_told_once.ensures.one_side c.built_is_computed.ensures)

pub returns-clause-so_far : goal.returns-clause-so_far
returns-clause-so_far c =
    taken-so-far (laws-of c.all_is_sent.ensures.sent c.all_is_sent.ensures.frames
    c.sent_is_told_once.ensures.stream c.sent_is_told_once.ensures.once
    c.sent_is_told_once.ensures.so_far c.sent_is_told_once.ensures.one_side c.built_is_computed.ensures)

pub returns-clause-runs : goal.returns-clause-runs
returns-clause-runs c =
    runs-bring (laws-of c.all_is_sent.ensures.sent c.all_is_sent.ensures.frames
    c.sent_is_told_once.ensures.stream c.sent_is_told_once.ensures.once
    c.sent_is_told_once.ensures.so_far c.sent_is_told_once.ensures.one_side c.built_is_computed.ensures)

pub returns-clause-written : goal.returns-clause-written
returns-clause-written c = written-from
