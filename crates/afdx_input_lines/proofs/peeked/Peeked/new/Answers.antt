use Rattle.std.proofs.KnownBytes.{prepend_known-nil}
use Rattle.afdx_input_lines.specs.Peeking.{held}
use Rattle.afdx_input_lines.proofs.peeked.Peeked.new.Goals as goal

pub returns-clause-left : goal.returns-clause-left
unfolding held
returns-clause-left g c =
    rw (c.new.ensures.unended, c.new.ensures.device) (prepend_known-nil _)
