use Rattle.std.proofs.Common.{rules, ◌≡◌, refl, inl, inr}
use Rattle.std.specs.Prelude.{string_bytes}
use Rattle.afdx_command_tables.proofs.SendLemmas.{sends-in}
use Rattle.afdx_command_tables.proofs.sending.command.send_and_count.Goals as goal

pub returns-in-Err-clause-sends : goal.returns-in-Err-clause-sends
returns-in-Err-clause-sends g c = inr (rw c.without_counts.ensures.status c.in-Err.ensures.refused, refl, refl)

pub returns-clause-sends : goal.returns-clause-sends
returns-clause-sends g c =
    let e : c.as_str-switch.result.now ≡ string_bytes c.in-Ok.taken.switch = search rules in
    inl (
      c.send_into-answer.result,
      record {
        status_is = c.end.ensures.status;
        summary_is = c.end.ensures.summary;
        told = rw c.in-Ok.ensures.silent at c.end.ensures.told;
        silent = rw c.in-Ok.ensures.silent at c.end.ensures.silent;
        ended = c.send_into-answer.ensures.ended;
        read = c.send_into-answer.ensures.read;
        write = c.send_into-answer.ensures.write;
      },
      sends-in c.args.config.now c.args.system.now c.in-Ok.taken _ _ _ _ _ c.in-Ok.ensures.taken c.in-Ok.ensures.own
          (rw e at c.send_into-answer.ensures.answer),
    )
