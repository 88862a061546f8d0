use Rattle.std.proofs.Common.{◌<◌}
use Rattle.afdx_port.specs.Keys.{IsLeastIn}
use Rattle.afdx_port.proofs.serving.least_in.Given as goal

abbrev pub invariant-loop-place : goal.invariant-loop-place
invariant-loop-place l = record {
  some : l.from < l.place;
  seen : IsLeastIn l.numbers l.from l.place l.least;
}
