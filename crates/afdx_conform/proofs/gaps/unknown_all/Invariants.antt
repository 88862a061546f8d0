use Rattle.std.proofs.Common.{◌≡◌, ℕ, get_or, length}
use Rattle.afdx_conform.specs.Naming.{no_gaps}
use Rattle.afdx_conform.proofs.gaps.unknown_all.Given as goal

abbrev pub invariant-loop-place : goal.invariant-loop-place
invariant-loop-place l = (length l.all.items ≡ l.place) × ((i : ℕ) → get_or l.all.items i no_gaps ≡ no_gaps)
