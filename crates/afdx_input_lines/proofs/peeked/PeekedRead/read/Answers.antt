use Rattle.afdx_input_lines.specs.Peeking.{held}
use Rattle.afdx_input_lines.proofs.PeekLemmas.{none-held, held-given}
use Rattle.afdx_input_lines.proofs.peeked.PeekedRead.read.Goals as goal

pub returns-then-self-clause-bytes : goal.returns-then-self-clause-bytes
unfolding held
returns-then-self-clause-bytes g c =
    none-held _ _ c.args.self.now.first c.args.self.now.start c.args.self.now.end c.read.result c.read.new.buf
    c.if-self.true c.read.ensures.left

pub returns-clause-bytes : goal.returns-clause-bytes
unfolding held
returns-clause-bytes g c =
    let peeked = c.args.self.now in
    held-given _ peeked.first peeked.start peeked.end c.min-count.result c.args.buf.now c.copy_from_slice.new.self
    peeked.ordered c.if-self.false c.min-count.ensures c.copy_from_slice.ensures.len c.copy_from_slice.ensures.after
