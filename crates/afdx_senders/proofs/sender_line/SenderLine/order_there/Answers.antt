use Rattle.std.proofs.Common.{◌≡◌, ◌<◌, arith, ◌∙◌}
use Rattle.afdx_senders.specs.Order.{spot_of}
use Rattle.afdx_senders.proofs.OrderLemmas.{at_one_spot, before_there, behind_there}
use Rattle.afdx_senders.proofs.sender_line.SenderLine.order_there.Goals as goal

pub returns-then-here-there : goal.returns-then-here-there
returns-then-here-there c =
    let x = c.args.self.now in
    let y = c.args.other.now in
    let lt : spot_of x < spot_of y =
    (let h = c.spot-here.ensures in let k = c.spot-there.ensures in let t = c.if-here-there.true in
    omega (arith, h, k, t)) in
    before_there x y c.are_in_type.ensures lt

pub returns-then-here-there-2 : goal.returns-then-here-there-2
returns-then-here-there-2 c =
    let x = c.args.self.now in
    let y = c.args.other.now in
    let lt : spot_of y < spot_of x =
    (let h = c.spot-here.ensures in let k = c.spot-there.ensures in let t = c.if-here-there-2.true in
    omega (arith, h, k, t)) in
    behind_there x y c.are_in_type-2.ensures lt

pub returns : goal.returns
returns c =
    let x = c.args.self.now in
    let y = c.args.other.now in
    let same : spot_of x ≡ spot_of y =
    (let h = c.spot-here.ensures in let k = c.spot-there.ensures in let s = c.if-here-there.false in
    let t = c.if-here-there-2.false in omega (arith, h, k, s, t)) in
    c.cmp.ensures ∙ at_one_spot x y same
