use Rattle.std.proofs.Common.{refl, inl, inr, None}
use Rattle.afdx_command_tables.specs.Taking.{described_of}
use Rattle.afdx_replay.proofs.CascadeOverLemmas.{file-promised}
use Rattle.afdx_replay.proofs.replaying.command.replay.Goals as goal

pub returns-in-Err-clause-replays : goal.returns-in-Err-clause-replays
returns-in-Err-clause-replays g c = (
  record { status = c.in-Err.status; summary = None },
  refl,
  inr (c.in-Err.ensures.refused, refl, refl),
)

pub returns-clause-replays : goal.returns-clause-replays
returns-clause-replays g c =
    let answers = c.run_taken-answer.ensures.answer in (
      c.end.result,
      refl,
      inl (
        c.run_taken-answer.result,
        record {
          status_is = c.end.ensures.status;
          summary_is = c.end.ensures.summary;
          told = rw c.in-Ok.ensures.silent at c.end.ensures.told;
          silent = rw c.in-Ok.ensures.silent at c.end.ensures.silent;
          ended = c.run_taken-answer.ensures.ended;
          read = c.run_taken-answer.ensures.read;
          write = c.run_taken-answer.ensures.write;
        },
        record {
          described = described_of c.in-Ok.taken;
          read = c.in-Ok.ensures.read;
          admitted = c.in-Ok.ensures.admitted;
          answers = answers;
          promised = λ asked. file-promised (described_of c.in-Ok.taken)
              (g.R.Read.remaining c.args.input.now.inner) (g.R.Read.remaining c.run_taken-answer.new.input.inner)
              (g.O.Write.contents c.args.output.now.inner)
              (g.O.Write.contents c.run_taken-answer.new.output.inner) c.run_taken-answer.result
              c.in-Ok.ensures.read.lawful (c.in-Ok.ensures.admitted asked) answers;
        },
      ),
    )
