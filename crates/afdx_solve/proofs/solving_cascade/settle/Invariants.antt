use Rattle.std.proofs.Common.{List}
use Rattle.afdx_config.specs.Switches.{NamedRows}
use Rattle.afdx_solve.specs.Raising.{IsRising, left}
use Rattle.afdx_solve.proofs.solving_cascade.settle.Given as goal

abbrev pub invariant-loop-options : goal.invariant-loop-options
invariant-loop-options l = (file : List NamedRows) → IsRising l.options file l.fn.switches
    → IsRising l.options file l.switches

abbrev pub decreases-loop-options : goal.decreases-loop-options
decreases-loop-options l = left l.switches
