use Rattle.std.proofs.Common.{◌≡◌, ◌≤◌, ◌-◌, [], false, vec_len}
use Rattle.afdx_input_files.specs.Holding.{standing, Passes, IsTrueToEnd}
use Rattle.afdx_input_files.proofs.held.Held.read_until.Given as goal

abbrev pub invariant-reads : goal.invariant-reads
invariant-reads g l = record {
  sound : l.input.failed ≡ false;
  honest : IsTrueToEnd (standing g.R.Read.remaining l.self l.input);
  room : l.n ≤ vec_len l.self.chunk - l.self.start;
  passes : Passes (standing g.R.Read.remaining l.fn.self l.fn.input)
      (standing g.R.Read.remaining l.self l.input) [];
}

abbrev pub decreases-reads : goal.decreases-reads
decreases-reads g l = l.n - (l.self.end - l.self.start)
