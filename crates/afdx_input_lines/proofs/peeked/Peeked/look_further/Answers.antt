use Rattle.std.proofs.Common.{◌≡◌, length, arith}
use Rattle.afdx_input_lines.specs.Peeking.{held}
use Rattle.afdx_input_lines.proofs.PeekLemmas.{held-more, held-same, seen-more, seen-same, seen-more-length, seen-same-length}
use Rattle.afdx_input_lines.proofs.peeked.Peeked.look_further.Goals as goal

pub returns-in-Ok-clause-seen : goal.returns-in-Ok-clause-seen
unfolding held
returns-in-Ok-clause-seen g c =
    let size : length c.args.self.now.first ≡ 4 = search in
    seen-more-length c.args.self.now.first c.read.new.buf _ c.args.self.now.start c.args.self.now.end c.in-Ok.count
    c.requires.first (omega (arith, size, c.args.self.now.within)) c.in-Ok.ensures.bound.0

pub returns-in-Err-clause-seen : goal.returns-in-Err-clause-seen
unfolding held
returns-in-Err-clause-seen g c =
    let size : length c.args.self.now.first ≡ 4 = search in
    seen-same-length c.args.self.now.first c.read.new.buf _ c.args.self.now.start c.args.self.now.end
    c.requires.first (omega (arith, size, c.args.self.now.within))

pub returns-in-Ok-clause-left : goal.returns-in-Ok-clause-left
unfolding held
returns-in-Ok-clause-left g c =
    let size : length c.args.self.now.first ≡ 4 = search in
    held-more _ _ _ _ _ (c.in-Ok.ensures.left).0
    (seen-more c.args.self.now.first c.read.new.buf _ c.args.self.now.start c.args.self.now.end c.in-Ok.count
    c.requires.first (omega (arith, size, c.args.self.now.within)) c.in-Ok.ensures.bound.0)

pub returns-in-Err-clause-left : goal.returns-in-Err-clause-left
unfolding held
returns-in-Err-clause-left g c =
    let size : length c.args.self.now.first ≡ 4 = search in
    held-same _ _ _ _ c.in-Err.ensures.left
    (seen-same c.args.self.now.first c.read.new.buf _ c.args.self.now.start c.args.self.now.end
    c.requires.first (omega (arith, size, c.args.self.now.within)))
