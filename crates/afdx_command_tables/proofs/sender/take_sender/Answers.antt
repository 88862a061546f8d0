use Rattle.afdx_config.specs.declared.describing.Described.TheVariants.{One, Several}
use Rattle.afdx_command_tables.specs.Checking.{IsRead}
use Rattle.afdx_command_tables.proofs.SenderLemmas.{none-to-send}
use Rattle.afdx_command_tables.proofs.sender.take_sender.Goals as goal

pub returns-in-One-clause-refused : goal.returns-in-One-clause-refused
returns-in-One-clause-refused g c =
    let read : IsRead c.args.config.now c.in-Ok.described = record {
      described = c.in-Ok.ensures.ok;
      one = c.in-Ok.ensures.one;
      lawful = c.in-Ok.ensures.lawful;
    } in
    none-to-send _ _ _ _ _ (One c.in-One.tables) (rw c.in-One.is at read) _ c.sender_in.ensures.refused

pub returns-in-Several-clause-refused : goal.returns-in-Several-clause-refused
returns-in-Several-clause-refused g c =
    let read : IsRead c.args.config.now c.in-Ok.described = record {
      described = c.in-Ok.ensures.ok;
      one = c.in-Ok.ensures.one;
      lawful = c.in-Ok.ensures.lawful;
    } in
    none-to-send _ _ _ _ _ (Several c.in-Several.switches) (rw c.in-Several.is at read) _
    c.sender_among.ensures.refused
