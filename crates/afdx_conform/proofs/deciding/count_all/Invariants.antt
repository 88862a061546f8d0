use Rattle.std.proofs.Common.{◌≡◌, min, take}
use Rattle.afdx_conform.specs.Findings.{frames_in}
use Rattle.afdx_conform.specs.Growing.{most_found}
use Rattle.afdx_conform.proofs.deciding.count_all.Given as goal

abbrev pub invariant-loop-finding : goal.invariant-loop-finding
invariant-loop-finding l = l.frames ≡ min (frames_in (take l.finding-index l.found)) most_found
