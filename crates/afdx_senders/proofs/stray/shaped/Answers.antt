use Rattle.std.proofs.Common.{sym, ap}
use Rattle.afdx_senders.specs.Strays.{shaped}
use Rattle.afdx_senders.proofs.stray.shaped.Goals as goal

pub returns-in-Ok : goal.returns-in-Ok
returns-in-Ok c = sym (ap (shaped c.args.why) c.in-Ok.ensures.computed)

pub returns-in-Err : goal.returns-in-Err
returns-in-Err c = sym (ap (shaped c.args.why) c.in-Err.ensures.computed)
