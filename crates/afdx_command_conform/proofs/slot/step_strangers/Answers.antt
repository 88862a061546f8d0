use Rattle.afdx_command_conform.proofs.SlotLemmas.{later-taken}
use Rattle.afdx_command_conform.proofs.slot.step_strangers.Goals as goal

pub returns-clause-later : goal.returns-clause-later
returns-clause-later c all lines moment falling is at =
    later-taken c.args.key c.args.strangers.now.waiting.items c.take_first.new.self.waiting.items c.take_first.result
    all lines
    moment c.take_first.ensures.some c.take_first.ensures.none falling is at
