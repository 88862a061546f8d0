use Rattle.std.proofs.Common.{ap, take, drop, ◌-◌}
use Rattle.afdx_input_files.specs.Holding.{unread}
use Rattle.afdx_input_files.proofs.held.Held.bytes.Goals as goal

pub returns : goal.returns
unfolding unread
returns c = ap (λ items. take (c.args.self.now.end - c.args.self.now.start)
    (drop c.args.self.now.start items)) c.deref.ensures.value
