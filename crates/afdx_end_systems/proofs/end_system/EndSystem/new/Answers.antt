use Rattle.std.proofs.Common.{sym, ◌∙◌}
use Rattle.afdx_config.specs.Rows.{system_row}
use Rattle.afdx_end_systems.proofs.EndLemmas.{named, found_at_first}
use Rattle.afdx_end_systems.proofs.end_system.EndSystem.new.Goals as goal

pub returns : goal.returns
returns c =
    let rows = c.args.tables.now in
    let name = named rows c.args.system.0 (system_row c.system.result.now) c.system.ensures.row in
    record {
      stands = record {
        name = c.in_ok-name.ensures.cases ∙ sym name;
        receives = c.in_ok-receiver.ensures.stands;
        found = found_at_first rows c.args.system.0 c.in_ok-ports.ports c.in_ok-ports.ensures.ports;
      };
    }
