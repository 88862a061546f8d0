use Rattle.std.proofs.Common.{[], arith, sym, ap}
use Rattle.std.specs.Option.{option_map_or}
use Rattle.afdx_config.specs.Reading.{listener_at}
use Rattle.afdx_end_systems.specs.Handovers.{came_to}
use Rattle.afdx_end_systems.specs.Receptions.{name_of}
use Rattle.afdx_end_systems.proofs.SystemsLemmas.{at_port, none_at_port, name_is}
use Rattle.afdx_end_systems.proofs.systems.Systems.name_at.Goals as goal

pub returns-then-place-len : goal.returns-then-place-len
returns-then-place-len c = λ rows before stands.
    let port = c.args.port in
    name_is rows port _ (c.name_of.ensures rows (came_to port before) (listener_at rows port)
    (at_port rows c.args.self.now before port c.from-place.result c.index.result.now stands
    c.from-place.ensures (omega arith) c.index.ensures))

pub returns-else-place-len : goal.returns-else-place-len
returns-else-place-len c = λ rows before stands.
    name_is rows c.args.port _ (sym (ap (λ place. option_map_or (name_of rows) place [])
    (none_at_port rows c.args.self.now before c.args.port c.from-place.result stands
    c.from-place.ensures (omega arith))))
