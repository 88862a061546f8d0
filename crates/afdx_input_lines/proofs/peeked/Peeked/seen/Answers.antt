use Rattle.std.proofs.Common.{refl}
use Rattle.afdx_input_lines.specs.Peeking.{held}
use Rattle.afdx_input_lines.proofs.peeked.Peeked.seen.Goals as goal

pub returns : goal.returns
unfolding held
returns g c = refl
