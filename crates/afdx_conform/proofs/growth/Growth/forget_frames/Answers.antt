use Rattle.std.proofs.Common.{◌≡◌, ◌+◌, ◌-◌, ℕ, List, drop, ap, ◌∙◌, arith}
use Rattle.std.proofs.lemmas.List.{drop-drop}
use Rattle.afdx_conform.specs.declared.limits.LeftFrame.{LeftFrame}
use Rattle.afdx_conform.proofs.growth.Growth.forget_frames.Goals as goal

pub returns-clause-half : goal.returns-clause-half
returns-clause-half c is = let closed = c.let_go_of_frames.ensures.closed in omega (arith, closed, is)

pub returns-clause-unclosed : goal.returns-clause-unclosed
returns-clause-unclosed c =
    let most = c.requires.closed in
    let same : c.args.passed + (c.args.self.now.closed - c.args.passed) ≡ c.args.self.now.closed = omega
    (arith, most) in
    ap (λ (n : ℕ). drop n c.let_go_of_frames.new.self.frames.items) c.let_go_of_frames.ensures.closed
    ∙ ap (λ (l : List LeftFrame). drop (c.args.self.now.closed - c.args.passed) l) c.let_go_of_frames.ensures.frames
    ∙ drop-drop (c.args.self.now.closed - c.args.passed) c.args.passed c.args.self.now.frames.items
    ∙ ap (λ (n : ℕ). drop n c.args.self.now.frames.items) same
