use Rattle.afdx_senders.specs.Counting.{lines_left}
use Rattle.afdx_command_senders.specs.SenderRun.{IsSameButSenders, TellsSome, told_in}
use Rattle.afdx_command_senders.proofs.judging.SendersRun.collect.Given as goal

abbrev pub invariant-loop-due : goal.invariant-loop-due
invariant-loop-due l = record {
  others : IsSameButSenders l.fn.self l.self;
  told : TellsSome l.before l.end l.fn.self.senders l.self.senders (told_in l.due.items);
}

abbrev pub decreases-loop-due : goal.decreases-loop-due
decreases-loop-due l = lines_left l.self.senders
