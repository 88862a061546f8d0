-- What a run counts.
use Rattle.std.specs.Prelude.{ℕ}
use Rattle.afdx_command_tables.specs.declared.summary.Summary.{Summary}

-- nothing was read
abbrev pub no_counts : Summary
no_counts = record {
  lines = 0;
  accepted = 0;
  dropped = 0;
  lost = 0;
  departed = 0;
  too_old = 0;
  delivered = 0;
}

-- these counts, of so many lines
abbrev pub with_lines : Summary → ℕ → Summary
with_lines s n = record s { lines = n }
