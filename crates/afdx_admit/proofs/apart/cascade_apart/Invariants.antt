use Rattle.std.proofs.Common.{◌≡◌}
use Rattle.afdx_admit.specs.Apart.{apart_over}
use Rattle.afdx_admit.proofs.apart.cascade_apart.Given as goal

abbrev pub invariant-loop-k : goal.invariant-loop-k
invariant-loop-k l = l.least ≡ apart_over l.switches l.vl.0 l.k
