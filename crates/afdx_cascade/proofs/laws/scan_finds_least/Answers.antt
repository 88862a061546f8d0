use Rattle.afdx_cascade.proofs.laws.scan_finds_least.Goals as goal
use Rattle.afdx_cascade.proofs.ScanLemmas.{scan-least, nothing-due}

pub returns : goal.returns
returns c = record { least = scan-least; end = nothing-due }
