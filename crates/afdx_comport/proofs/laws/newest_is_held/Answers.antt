use Rattle.std.proofs.Common.{ap}
use Rattle.afdx_comport.specs.Held.{sample_of}
use Rattle.afdx_comport.proofs.CallLemmas.{newest_is_held}
use Rattle.afdx_comport.proofs.laws.newest_is_held.Goals as goal

pub returns : goal.returns
returns c calls = ap sample_of (newest_is_held calls)
