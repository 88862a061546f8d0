use Rattle.afdx_port.proofs.AloneLemmas.{puts-alike}
use Rattle.afdx_port.proofs.port.Port.put.Goals as goal

pub returns-then-is_without_turn : goal.returns-then-is_without_turn
returns-then-is_without_turn g c =
    rw (← c.self.view_is)
    (puts-alike g.T.HasLength.facts c.self.inside.state c.put_alone.new.self c.args.time c.args.priority c.args.item
    c.in-Ok.due tt c.in-Ok.ensures.puts)
