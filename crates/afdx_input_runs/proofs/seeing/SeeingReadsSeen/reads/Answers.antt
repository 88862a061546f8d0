use Rattle.afdx_input_runs.proofs.seeing.SeeingReadsSeen.reads.Goals as goal

pub returns-clause-gave : goal.returns-clause-gave
returns-clause-gave g c start input source past k =
    c.reads.ensures.gave start input source.lines k.lines k.known_so

pub returns-clause-ended : goal.returns-clause-ended
returns-clause-ended g c start input source past k =
    c.reads.ensures.ended start input source.lines k.lines k.known_so

pub returns-clause-stopped : goal.returns-clause-stopped
returns-clause-stopped g c start input source past fault k =
    c.reads.ensures.stopped start input source.lines k.lines fault k.known_so

pub returns-clause-gave_asked : goal.returns-clause-gave_asked
returns-clause-gave_asked g c start input source past k =
    c.reads.ensures.gave_asked start input source.lines k.lines k.known_so

pub returns-clause-ended_asked : goal.returns-clause-ended_asked
returns-clause-ended_asked g c start input source past k =
    c.reads.ensures.ended_asked start input source.lines k.lines k.known_so

pub returns-clause-stopped_asked : goal.returns-clause-stopped_asked
returns-clause-stopped_asked g c start input source past fault k =
    c.reads.ensures.stopped_asked start input source.lines k.lines fault k.known_so
