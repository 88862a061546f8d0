use Rattle.std.proofs.Common.{◌≡◌, ◌+◌, ◌-◌, List, ℕ, length, false}
use Rattle.afdx_input_files.specs.Holding.{standing, Passes, IsTrueToEnd}
use Rattle.afdx_input_files.proofs.held.Held.skip.Given as goal

abbrev pub invariant-reads : goal.invariant-reads
invariant-reads g l = record {
  sound : l.input.failed ≡ false;
  honest : IsTrueToEnd (standing g.R.Read.remaining l.self l.input);
  passed : (bytes : List ℕ) × Passes (standing g.R.Read.remaining l.fn.self l.fn.input)
      (standing g.R.Read.remaining l.self l.input) bytes × (length bytes + l.missing ≡ l.n);
}

abbrev pub decreases-reads : goal.decreases-reads
decreases-reads g l = l.missing - (l.self.end - l.self.start)
