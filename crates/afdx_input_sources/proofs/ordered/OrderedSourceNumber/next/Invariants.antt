use Rattle.std.proofs.Common.{◌≡◌, ◌≤◌}
use Rattle.afdx_input_sources.specs.OrderedSource.{HasOrdered}
use Rattle.afdx_input_sources.specs.OrderedSteps.{left_in_order, steps_left}
use Rattle.afdx_input_sources.specs.Sequences.{Numbers}
use Rattle.afdx_input_sources.proofs.ordered.OrderedSourceNumber.next.Given as goal

abbrev pub invariant-loop-self : goal.invariant-loop-self
invariant-loop-self g l = record {
  gave : (start : g.row.I.Denot) (past : Numbers) →
      HasOrdered g.S.Source.Gave g.S.Source.Ended g.S.Source.Stopped start l.fn.self l.fn.input past →
      HasOrdered g.S.Source.Gave g.S.Source.Ended g.S.Source.Stopped start l.self l.input past;
  settings : g.S.Source.settings l.self.source ≡ g.S.Source.settings l.fn.self.source;
  most : l.self.most ≡ l.fn.self.most;
  fewer : left_in_order g.S.Source.left_of l.self ≤ left_in_order g.S.Source.left_of l.fn.self;
}

abbrev pub decreases-loop-self : goal.decreases-loop-self
decreases-loop-self g l = steps_left g.S.Source.left_of l.self
