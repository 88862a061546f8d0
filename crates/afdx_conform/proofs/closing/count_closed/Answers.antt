use Rattle.std.proofs.Common.{rules, ◌≡◌, ◌<◌, get_or, subst, arith}
use Rattle.afdx_conform.specs.declared.limits.LeftFrame.{LeftFrame}
use Rattle.afdx_conform.proofs.ClosedLemmas.{closed-more, same-frame, not-later}
use Rattle.afdx_conform.proofs.closing.count_closed.Goals as goal

pub loop-place-init : goal.loop-place-init
loop-place-init c k f le lt is = absurd (omega (arith, le, lt))

pub loop-place-preserved : goal.loop-place-preserved
loop-place-preserved c =
    let is : c.index-frames-place.result ≡ get_or c.args.frames.now c.loop-place.place c.index-frames-place.result =
    search rules in
    closed-more c.args.frames.now c.args.from c.loop-place.place c.args.time c.index-frames-place.result is
    c.loop-place-test.true
    (not-later c.args.time c.index-frames-place.result.time c.is_later.result c.is_later.ensures c.if-is_later.false)
    c.loop-place.invariant

pub returns-then-is_later-clause-closed : goal.returns-then-is_later-clause-closed
returns-then-is_later-clause-closed c = c.loop-place.invariant

pub returns-then-is_later-clause-behind : goal.returns-then-is_later-clause-behind
returns-then-is_later-clause-behind c f lt at =
    let is : c.index-frames-place.result ≡ get_or c.args.frames.now c.loop-place.place c.index-frames-place.result =
    search rules in
    subst (λ (g : LeftFrame). c.args.time < g.time) (same-frame c.args.frames.now c.loop-place.place f
    c.index-frames-place.result lt at is)
    (c.is_later.ensures.0 c.if-is_later.true)

pub returns-clause-closed : goal.returns-clause-closed
returns-clause-closed c k f le lt is =
    c.loop-place.invariant k f le (let h = c.loop-place-test.false in omega (arith, h, lt)) is
