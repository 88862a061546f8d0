use Rattle.std.proofs.Common.{refl, arith}
use Rattle.afdx_conform.proofs.UndecidedLemmas.{forgot-frames, undecided-same}
use Rattle.afdx_conform.proofs.ForgetLemmas.{after-frames, due-frames, sound-frames}
use Rattle.afdx_conform.proofs.growth.Growth.let_go_of_frames.Goals as goal

pub returns-clause-after : goal.returns-clause-after
returns-clause-after c z xs ys cut over f =
    let most = c.requires.closed in
    let closed = c.requires.sound.closed in
    after-frames z xs ys cut over c.args.self.now c.args.count c.give_back_first.new.items c.without_first.new.held
    c.give_back_first.ensures c.without_first.ensures c.requires.passed most (omega (arith, most, closed)) f

pub returns-clause-due : goal.returns-clause-due
returns-clause-due c =
    due-frames c.args.self.now c.args.count c.give_back_first.new.items c.without_first.new.held
    c.give_back_first.ensures c.requires.closed

pub returns-clause-sound : goal.returns-clause-sound
returns-clause-sound c =
    sound-frames c.args.self.now c.args.count c.give_back_first.new.items c.without_first.new.held
    c.give_back_first.ensures c.without_first.ensures c.requires.closed c.requires.sound

pub returns-clause-undecided : goal.returns-clause-undecided
returns-clause-undecided c =
    undecided-same c.args.self.now _ refl (forgot-frames c.args.self.now c.args.count
    c.give_back_first.new.items.items c.give_back_first.ensures c.requires.closed)
