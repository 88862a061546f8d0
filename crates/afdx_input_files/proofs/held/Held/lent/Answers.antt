use Rattle.std.proofs.Common.{ap, take, drop, ◌-◌}
use Rattle.afdx_input_files.specs.Holding.{lent}
use Rattle.afdx_input_files.proofs.held.Held.lent.Goals as goal

pub returns : goal.returns
unfolding lent
returns c = ap (λ items. take (c.args.self.now.lent_end - c.args.self.now.lent_start)
    (drop c.args.self.now.lent_start items)) c.deref.ensures.value
