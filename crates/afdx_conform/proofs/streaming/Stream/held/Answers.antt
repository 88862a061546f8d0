use Rattle.std.proofs.Common.{rules, ◌≡◌, length, arith}
use Rattle.afdx_conform.proofs.WindowLemmas.{holds_one_window}
use Rattle.afdx_conform.proofs.streaming.Stream.held.Goals as goal

pub returns-clause-window : goal.returns-clause-window
returns-clause-window c z xs ys j time moment h due =
    let few = holds_one_window z xs ys j time moment c.args.self.now h due in
    let came : c.len.result ≡ length c.args.self.now.growth.arrivals.items = search rules in
    let left : c.len-2.result ≡ length c.args.self.now.growth.frames.items = search rules in
    omega (arith, few, came, left)
