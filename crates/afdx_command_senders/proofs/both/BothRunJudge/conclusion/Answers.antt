use Rattle.std.proofs.Common.{refl, ap, ◌∙◌}
use Rattle.std.specs.Prelude.{Some}
use Rattle.afdx_input_runs.specs.Joining.{frames_of}
use Rattle.afdx_text.specs.declared.conform_line.Conclusion.{Conclusion}
use Rattle.afdx_text.specs.declared.sender_lines.SenderTotals.{SenderTotals}
use Rattle.afdx_command_conform.proofs.EndLemmas.{all-lines}
use Rattle.afdx_command_conform.specs.Totals.{concluded}
use Rattle.afdx_command_conform.specs.declared.totals.Totals.{Totals}
use Rattle.afdx_command_senders.specs.BothLines.{both_totals, switch_rules}
use Rattle.afdx_command_senders.specs.BothTold.{both_lines}
use Rattle.afdx_command_senders.proofs.BothRunLemmas.{both-concluded}
use Rattle.afdx_command_senders.proofs.both.BothRunJudge.conclusion.Goals as goal

pub returns : goal.returns
returns c = λ k start end past h.
    let frames = frames_of past in
    record {
      lines = both_lines h.are.all;
      are_so = record {
        told = h.told;
        dues = h.dues;
        all = h.are.all;
        joined = h.are.joined;
        by_time = h.judged.stands.by_time;
        are = refl;
        are_told = h.all;
        are_lines = all-lines (switch_rules k) c.args.self.now.switch frames h.dues h.judged;
        last_is =
            ap (λ (l : Conclusion). record l { senders = Some c.totals-senders.result })
            (c.conclusion_with-last.ensures (switch_rules k) frames h.dues h.judged
            ∙ ap (λ (t : Totals). concluded t)
            (both-concluded k frames h.told h.dues h.are.all c.args.self.now.senders.findings h.are.joined
            h.counts.findings))
            ∙ ap (λ (s : SenderTotals). record (concluded (both_totals k frames h.dues (both_lines h.are.all))) {
              senders = Some s;
            }) (c.totals-senders.ensures k frames h.told h.counts.works h.have);
      };
      written = h.are.written;
    }
