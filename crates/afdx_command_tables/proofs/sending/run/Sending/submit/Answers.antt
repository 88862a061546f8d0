use Rattle.std.proofs.Common.{refl}
use Rattle.afdx_send.specs.Sender.{last_time}
use Rattle.afdx_command_tables.specs.sending.Progress.{handed_at}
use Rattle.afdx_command_tables.proofs.SendLemmas.{tells-taken, tells-refused}
use Rattle.afdx_command_tables.proofs.sending.run.Sending.submit.Goals as goal

pub returns-in-Ok-clause-told : goal.returns-in-Ok-clause-told
returns-in-Ok-clause-told c s before n stands counted =
    let k = c.in-Ok.ensures.ok _ stands in
    tells-taken s c.args.self.now.sender _ _ _ before
    (handed_at n c.args.handed.now c.args.payload.now) _ k.0 stands k.1 k.2 counted refl

pub returns-in_ok-refusal-in-Err-clause-told : goal.returns-in_ok-refusal-in-Err-clause-told
returns-in_ok-refusal-in-Err-clause-told c s before n stands counted =
    rw c.in_ok-refusal-in-Err.ensures.same (tells-refused s c.args.self.now.sender _ _ _ before
    (handed_at n c.args.handed.now c.args.payload.now) (last_time c.args.self.now.sender) _
    (c.in-Err.ensures.unchanged _ stands) c.in_ok-refusal-in-Err.ensures.message
    (c.in-Err.ensures.refused _ stands) counted refl)
