use Rattle.afdx_law_text.proofs.EmittedLemmas.{laws-of}
use Rattle.afdx_law_text.proofs.EndToEndLemmas.{taken-is-told, written-is-sent}
use Rattle.afdx_law_text.proofs.EndToEndLemmas.{runs-tell-taken, texts-are-lists, taken-so-far}
use Rattle.afdx_law_text.proofs.EndToEndLemmas.{taken-by-one}
use Rattle.afdx_law_text.proofs.MergedLemmas.{merged-are-told}
use Rattle.afdx_law_text.proofs.laws.taken_is_told_once.Goals as goal

pub returns-clause-lines : goal.returns-clause-lines
returns-clause-lines c =
    taken-is-told (laws-of c.all_is_sent.ensures.sent c.all_is_sent.ensures.frames
    c.sent_is_told_once.ensures.stream c.sent_is_told_once.ensures.once
    c.sent_is_told_once.ensures.so_far c.sent_is_told_once.ensures.one_side c.built_is_computed.ensures)

pub returns-clause-written : goal.returns-clause-written
returns-clause-written c = written-is-sent

pub returns-clause-runs : goal.returns-clause-runs
returns-clause-runs c = runs-tell-taken
    (laws-of c.all_is_sent.ensures.sent c.all_is_sent.ensures.frames
    c.sent_is_told_once.ensures.stream c.sent_is_told_once.ensures.once
    c.sent_is_told_once.ensures.so_far c.sent_is_told_once.ensures.one_side c.built_is_computed.ensures)

pub returns-clause-merged : goal.returns-clause-merged
returns-clause-merged c =
    merged-are-told (laws-of c.all_is_sent.ensures.sent c.all_is_sent.ensures.frames
    c.sent_is_told_once.ensures.stream c.sent_is_told_once.ensures.once
    c.sent_is_told_once.ensures.so_far c.sent_is_told_once.ensures.one_side c.built_is_computed.ensures)

pub returns-clause-one_side : goal.returns-clause-one_side
returns-clause-one_side c =
    taken-by-one (laws-of c.all_is_sent.ensures.sent c.all_is_sent.ensures.frames
    c.sent_is_told_once.ensures.stream c.sent_is_told_once.ensures.once
    c.sent_is_told_once.ensures.so_far c.sent_is_told_once.ensures.one_side c.built_is_computed.ensures)

pub returns-clause-so_far : goal.returns-clause-so_far
returns-clause-so_far c =
    taken-so-far (laws-of c.all_is_sent.ensures.sent c.all_is_sent.ensures.frames
    c.sent_is_told_once.ensures.stream c.sent_is_told_once.ensures.once
    c.sent_is_told_once.ensures.so_far c.sent_is_told_once.ensures.one_side c.built_is_computed.ensures)

pub returns-clause-alone : goal.returns-clause-alone
returns-clause-alone c =
    texts-are-lists (laws-of c.all_is_sent.ensures.sent c.all_is_sent.ensures.frames
    c.sent_is_told_once.ensures.stream c.sent_is_told_once.ensures.once
    c.sent_is_told_once.ensures.so_far c.sent_is_told_once.ensures.one_side c.built_is_computed.ensures)
