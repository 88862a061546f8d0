use Rattle.std.proofs.Common.{List}
use Rattle.afdx_cascade.specs.Cascade.{StandsFor, IsUntil}
use Rattle.afdx_cascade.specs.Plans.{plan_of}
use Rattle.afdx_cascade.specs.SwitchEvents.{SwitchEvent}
use Rattle.afdx_test_parts.proofs.cascade.refused.play.Given as goal

abbrev pub invariant-loop-place : goal.invariant-loop-place
invariant-loop-place l =
    ((so_far : List SwitchEvent) × StandsFor (plan_of l.fn.switches) l.cascade so_far)
    × IsUntil l.cascade l.now
