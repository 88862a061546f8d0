use Rattle.std.proofs.Common.{◌≡◌, min, take}
use Rattle.afdx_command_conform.specs.Telling as spec
use Rattle.afdx_command_conform.proofs.telling.findings_in.Given as goal

abbrev pub invariant-loop-line : goal.invariant-loop-line
invariant-loop-line l = l.count ≡ min (spec.findings_in (take l.line-index l.lines)) spec.most_counted
