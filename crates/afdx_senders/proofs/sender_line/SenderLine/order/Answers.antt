use Rattle.std.proofs.Common.{◌≡◌, arith, ◌∙◌}
use Rattle.afdx_senders.proofs.OrderLemmas.{at_one_moment, later, sooner}
use Rattle.afdx_senders.proofs.sender_line.SenderLine.order.Goals as goal

pub returns-then-self-other : goal.returns-then-self-other
returns-then-self-other c = sooner c.args.self.now c.args.other.now c.are_in_type.ensures c.if-self-other.true

pub returns-then-self-other-2 : goal.returns-then-self-other-2
returns-then-self-other-2 c =
    later c.args.self.now c.args.other.now c.are_in_type-2.ensures
    (let t = c.if-self-other-2.true in omega (arith, t))

pub returns : goal.returns
returns c =
    let same : c.args.self.now.moment ≡ c.args.other.now.moment =
    (let s = c.if-self-other.false in let t = c.if-self-other-2.false in omega (arith, s, t)) in
    c.order_there.ensures ∙ at_one_moment c.args.self.now c.args.other.now same
