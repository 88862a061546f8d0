use Rattle.std.proofs.Common.{◌≡◌, ◌≤◌, ◌-◌, List}
use Rattle.afdx_input_lines.specs.Lines.{lines_taken, most_lines}
use Rattle.afdx_input_lines.specs.declared.watched.Watched.{Watched}
use Rattle.afdx_input_sources.specs.Engine.{Item}
use Rattle.afdx_input_sources.specs.ListSource.{HasGiven}
use Rattle.afdx_input_sources.proofs.read_list.ReadListSourceWatched.next.Given as goal

abbrev pub invariant-loop-self : goal.invariant-loop-self
invariant-loop-self g l = record {
  gave : (start : Watched g.row.R.Denot) (past : List (Item g.row.H.Denot)) →
      HasGiven g.F.LineForm.IsForm g.F.LineForm.kind g.F.LineForm.says_of g.H.Listed.time_of
      g.R.Read.remaining start l.fn.self l.fn.input past →
      HasGiven g.F.LineForm.IsForm g.F.LineForm.kind g.F.LineForm.says_of g.H.Listed.time_of
      g.R.Read.remaining start l.self l.input past;
  form : l.self.form ≡ l.fn.self.form;
  later : lines_taken l.fn.self.reader ≤ lines_taken l.self.reader;
}

abbrev pub decreases-loop-self : goal.decreases-loop-self
decreases-loop-self g l = most_lines - lines_taken l.self.reader
