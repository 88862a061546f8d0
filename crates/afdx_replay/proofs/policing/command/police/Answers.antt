use Rattle.std.proofs.Common.{refl}
use Rattle.afdx_replay.proofs.policing.command.police.Goals as goal

pub returns-clause-polices : goal.returns-clause-polices
returns-clause-polices g c commanded = (
  c.end.result,
  refl,
  (
    c.run_police-answer.result,
    record {
      status_is = c.end.ensures.status;
      summary_is = c.end.ensures.summary;
      told = c.end.ensures.told;
      silent = c.end.ensures.silent;
      ended = c.run_police-answer.ensures.ended;
      read = c.run_police-answer.ensures.read;
      write = c.run_police-answer.ensures.write;
    },
    rw c.in-Some.ensures.given at c.run_police-answer.ensures.answer,
  ),
)
