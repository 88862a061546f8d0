use Rattle.std.proofs.Common.{ap, ◌∙◌, List, ℕ, slice_range, arith}
use Rattle.afdx_input_files.specs.Holding.{unread}
use Rattle.afdx_input_files.proofs.HeldLemmas.{same_front}
use Rattle.afdx_input_files.proofs.held.Held.make_room.Goals as goal

pub returns-in_err-resize-clause-unread : goal.returns-in_err-resize-clause-unread
unfolding unread
returns-in_err-resize-clause-unread c =
    let moved = c.move_to_front.new.self in
    ap (λ (items : List ℕ). slice_range items moved.start moved.end) c.in_err-resize.ensures.items
    ∙ c.move_to_front.ensures.unread

pub returns-clause-unread : goal.returns-clause-unread
unfolding unread
returns-clause-unread c =
    let moved = c.move_to_front.new.self in
    same_front moved.chunk.items c.resize.new.self.items _ c.args.n moved.start moved.end
    (omega (arith, moved.within, moved.chunk.ok.0))
    (omega (arith, moved.chunk.ok.0, c.if-n-len-2.false, c.len-2.ensures))
    c.in_ok-resize.ensures.items
    ∙ c.move_to_front.ensures.unread
