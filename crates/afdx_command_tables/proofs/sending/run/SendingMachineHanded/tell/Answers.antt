use Rattle.std.proofs.Common.{arith, add-one, length}
use Rattle.afdx_input_sources.specs.Items.{handed}
use Rattle.afdx_command_tables.proofs.sending.run.SendingMachineHanded.tell.Goals as goal

pub returns-clause-told : goal.returns-clause-told
returns-clause-told g c s start past h follows can = record {
  told = c.in_ok-tell_submission.ensures.told s start (handed past) h.told;
  early = follows.early;
  clock = omega (arith, c.in_ok-tell_submission.ensures.clock);
  few = omega (arith, follows.few);
  room = rw add-one at (c.in_ok-tell_submission.ensures.room (length past) h.room);
}
