use Rattle.std.proofs.Common.{rules, refl}
use Rattle.afdx_command_tables.proofs.SendStartLemmas.{items-start}
use Rattle.afdx_command_tables.proofs.sending.run.Sending.new.Goals as goal

pub returns-clause-told : goal.returns-clause-told
returns-clause-told c row is output =
    items-start c.args.switch.now c.args.tables.now c.args.system.0 row _ output (c.in_ok-sender.ensures.stands row is)
    c.in_ok-sender.ensures.clock c.in_ok-sender.ensures.held (search rules) refl refl
