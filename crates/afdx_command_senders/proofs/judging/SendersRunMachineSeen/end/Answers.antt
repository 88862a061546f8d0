use Rattle.afdx_input_runs.specs.Joining.{frames_of}
use Rattle.afdx_command_senders.proofs.SenderRunLemmas.{ends-begun, ends-told, may-end}
use Rattle.afdx_command_senders.proofs.judging.SendersRunMachineSeen.end.Goals as goal

pub tell_due-requires-clause-may : goal.tell_due-requires-clause-may
tell_due-requires-clause-may g c =
    let some = c.requires.told in
    may-end some.0 c.args.self.now some.1 _ (frames_of some.2) c.end_time-end.result c.end_time-end.ensures some.3

pub returns-clause-done : goal.returns-clause-done
returns-clause-done g c = λ k start past h.
    ends-told k c.args.self.now start _ (frames_of past) c.end_time-end.result c.end_time-end.ensures h
    c.tell_due.result c.tell_due.new.self _ c.tell_due.ensures.others c.tell_due.ensures.told

pub returns-clause-begins : goal.returns-clause-begins
returns-clause-begins g c = λ k start past h.
    ends-begun k c.args.self.now start _ (frames_of past) c.end_time-end.result c.end_time-end.ensures h
    c.tell_due.result _ c.tell_due.ensures.begun
