use Rattle.afdx_end_systems.specs.Handovers.{handed_over, arrival_of}
use Rattle.afdx_end_systems.proofs.FoundLemmas.{found, unfound}
use Rattle.afdx_end_systems.proofs.LinkFrameLemmas.{link-frame-is}
use Rattle.afdx_end_systems.proofs.end_system.EndSystem.receive.Goals as goal

pub receive_known-requires : goal.receive_known-requires
receive_known-requires c = link-frame-is c.args.handover.frame c.args.handover.framed

pub returns-in-Dropped-clause-stands : goal.returns-in-Dropped-clause-stands
returns-in-Dropped-clause-stands c = λ rows system past is.
    record {
      name = is.name;
      receives = (c.receive_known.ensures.selected rows system past is.receives).stands;
      found = is.found;
    }

pub returns-in-None-clause-stands : goal.returns-in-None-clause-stands
returns-in-None-clause-stands c = λ rows system past is.
    record {
      name = is.name;
      receives = (c.receive_known.ensures.selected rows system past is.receives).stands;
      found = is.found;
    }

pub returns-in-Some-clause-stands : goal.returns-in-Some-clause-stands
returns-in-Some-clause-stands c = λ rows system past is.
    record {
      name = is.name;
      receives = (c.receive_known.ensures.selected rows system past is.receives).stands;
      found = is.found;
    }

pub returns-in-Dropped-clause-answer : goal.returns-in-Dropped-clause-answer
returns-in-Dropped-clause-answer c = λ rows system past is.
    (c.in-Dropped.ensures.selected rows system past is.receives).computed

pub returns-in-None-clause-answer : goal.returns-in-None-clause-answer
returns-in-None-clause-answer c = λ rows system past is.
    unfound rows system past (arrival_of (handed_over c.args.handover)) c.in-Message.vl.0 c.in-Message.udp
    c.in-Message.bytes.now c.args.self.now.ports is.found c.in-None.ensures.place
    (c.in-Message.ensures.selected rows system past is.receives).computed

pub returns-in-Some-clause-answer : goal.returns-in-Some-clause-answer
returns-in-Some-clause-answer c = λ rows system past is.
    found rows system past (arrival_of (handed_over c.args.handover)) c.in-Message.vl.0 c.in-Message.udp
    c.in-Some.field-0
    c.in-Message.bytes.now c.args.self.now.ports is.found c.in-Some.ensures.place
    (c.in-Message.ensures.selected rows system past is.receives).computed
