use Rattle.std.proofs.Common.{ap, refl, ◌∙◌}
use Rattle.afdx_input_runs.specs.Joining.{frames_of}
use Rattle.afdx_command_conform.specs.Lines.{lines_of}
use Rattle.afdx_command_conform.specs.Totals.{concluded}
use Rattle.afdx_command_conform.proofs.CountingLemmas.{no-more}
use Rattle.afdx_command_conform.proofs.EndLemmas.{all-lines}
use Rattle.afdx_command_conform.proofs.judging.JudgingRunJudge.conclusion.Goals as goal

pub returns : goal.returns
returns c k start end past h =
    let frames = frames_of past in
    record {
      lines = lines_of h.0;
      written = h.2;
      are_so = record {
        dues = h.0;
        by_time = h.1.stands.by_time;
        are = refl;
        are_lines = all-lines k c.args.self.now frames h.0 h.1;
        last_is = c.conclusion_with.ensures k frames h.0 h.1 ∙ ap concluded (no-more k frames h.0);
      };
    }
