use Rattle.std.proofs.Common.{refl, ap, ◌∙◌}
use Rattle.afdx_config.specs.Rows.{Rows}
use Rattle.afdx_input_runs.specs.Joining.{frames_of}
use Rattle.afdx_text.specs.declared.conform_line.Answer.{Answer}
use Rattle.afdx_command_conform.specs.Tapped.{Taps, unseen_of}
use Rattle.afdx_input_sources.specs.Tapping.{no_taps}
use Rattle.afdx_command_conform.specs.Sight.{of_tables}
use Rattle.afdx_command_senders.specs.SenderLines.{found_of, sent_of}
use Rattle.afdx_command_senders.specs.SenderTexts.{told_lines}
use Rattle.afdx_command_senders.proofs.ConcludedLemmas.{conclusion-same, conclusion-with}
use Rattle.afdx_command_senders.proofs.judging.SendersRunJudge.conclusion.Goals as goal

pub returns : goal.returns
returns c = λ k start end past h.
    let frames = frames_of past in
    let answered = c.answer_by-answer.ensures in
    record {
      lines = told_lines h.told;
      are_so = record {
        told = h.told;
        are = refl;
        are_all = h.all;
        last_is = ap (λ (w : Answer). record (conclusion-with c.args.self.now.findings c.totals-senders.result
            c.args.self.now.left_out c.unseen_of-unseen.result) {
              answer = w;
            }) answered
            ∙ conclusion-same c.args.self.now.findings c.totals-senders.result c.args.self.now.left_out
            c.unseen_of-unseen.result
            (found_of k frames (told_lines h.told))
            (sent_of k frames) _ (unseen_of k.0.tables (of_tables k.0.tables no_taps)) h.writes.findings
            (c.totals-senders.ensures k frames h.told h.works h.have) h.works.left_out
            (c.unseen_of-unseen.ensures
            ∙ ap (λ (p : Taps). unseen_of c.args.self.now.tables.now (of_tables c.args.self.now.tables.now p))
            c.none.ensures
            ∙ ap (λ (t : Rows). unseen_of t (of_tables t no_taps)) h.works.tables);
      };
      written = h.writes.written;
    }
