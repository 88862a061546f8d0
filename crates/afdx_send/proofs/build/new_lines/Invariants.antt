use Rattle.std.proofs.Common.{take}
use Rattle.afdx_config.specs.Admission.{links_from}
use Rattle.afdx_send.specs.New.{AreNewLines}
use Rattle.afdx_send.proofs.build.new_lines.Given as goal

abbrev pub invariant-loop-place : goal.invariant-loop-place
invariant-loop-place l = AreNewLines (links_from (take l.place l.tables.links) l.system.0) l.lines.items
