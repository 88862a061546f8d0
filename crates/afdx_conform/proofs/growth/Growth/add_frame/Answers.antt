use Rattle.std.proofs.Common.{◌+◌, refl}
use Rattle.afdx_conform.proofs.DueLemmas.{due-left, due-many}
use Rattle.afdx_conform.proofs.GrowthFrames.{after-left, frame-unsure, not-many-left}
use Rattle.afdx_conform.proofs.LeanLemmas.{lean-left}
use Rattle.afdx_conform.proofs.growth.Growth.add_frame.Goals as goal

pub returns-then-self-clause-after : goal.returns-then-self-clause-after
returns-then-self-clause-after c z xs ys time over m until o f = (
  frame-unsure z xs ys 0 time over c.args.frame c.args.self.now c.args.self.now.frames 0 c.if-self.true m until o f,
  λ l. l,
)

pub returns-clause-after : goal.returns-clause-after
returns-clause-after c z xs ys time over m until o f = (
  after-left z xs ys 0 time over c.args.frame c.args.self.now c.push.new.self (c.args.self.now.left + 1)
      c.in_ok-push.ensures.items refl m until o f,
  λ l. lean-left c.args.frame c.args.self.now c.push.new.self (c.args.self.now.left + 1) c.in_ok-push.ensures.items
      c.requires.sound.closed c.if-self.false l,
)

pub returns-clause-due : goal.returns-clause-due
returns-clause-due c =
    due-left c.args.self.now c.args.frame c.push.new.self (c.args.self.now.left + 1) c.in_ok-push.ensures.items
    c.requires.sound.closed

pub returns-then-self-ge-MOST_HELD-clause-after : goal.returns-then-self-ge-MOST_HELD-clause-after
returns-then-self-ge-MOST_HELD-clause-after c z xs ys time over m until o f =
    absurd (not-many-left z xs ys 0 time over c.args.frame c.args.self.now c.args.self.now.frames 0 m c.if-self.false
    refl
    c.if-self-ge-MOST_HELD.true f)

pub returns-then-self-ge-MOST_HELD-clause-due : goal.returns-then-self-ge-MOST_HELD-clause-due
returns-then-self-ge-MOST_HELD-clause-due c = due-many c.args.self.now _ c.args.frame.time refl
