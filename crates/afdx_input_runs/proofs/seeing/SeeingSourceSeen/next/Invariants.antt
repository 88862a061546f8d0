use Rattle.std.proofs.Common.{◌≡◌, ◌≤◌, List}
use Rattle.afdx_input_sources.specs.Engine.{Item}
use Rattle.afdx_input_sources.specs.NumberLines.{AreItems}
use Rattle.afdx_input_runs.specs.SeenLines.{seen_listed}
use Rattle.afdx_input_runs.specs.declared.seen.Seen.{Seen}
use Rattle.afdx_input_runs.proofs.seeing.SeeingSourceSeen.next.Given as goal

abbrev pub invariant-loop-kind : goal.invariant-loop-kind
invariant-loop-kind g l = record {
  gave : (start : g.row.I.Denot) (past : List (Item Seen)) →
      AreItems seen_listed (g.S.Source.Gave start l.fn.self.lines l.fn.input) past →
      AreItems seen_listed (g.S.Source.Gave start l.self.lines l.input) past;
  settings : g.S.Source.settings l.self.lines ≡ g.S.Source.settings l.fn.self.lines;
  fewer : g.S.Source.left_of l.self.lines ≤ g.S.Source.left_of l.fn.self.lines;
}

abbrev pub decreases-loop-kind : goal.decreases-loop-kind
decreases-loop-kind g l = g.S.Source.left_of l.self.lines
