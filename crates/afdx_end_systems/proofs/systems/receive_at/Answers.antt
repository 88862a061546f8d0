use Rattle.afdx_end_systems.specs.Handovers.{handed_over, arrival_of}
use Rattle.afdx_end_systems.proofs.SystemsLemmas.{goes_on}
use Rattle.afdx_end_systems.proofs.systems.receive_at.Goals as goal

pub returns-in-Some-clause-stands : goal.returns-in-Some-clause-stands
returns-in-Some-clause-stands c = λ rows past place at.
    goes_on rows past (arrival_of (handed_over c.args.handover)) place c.args.at.now
    c.in-Some.system c.receive.new.self c.in-Some.is
    (λ system is. c.receive.ensures.stands rows system past is) at
