-- What a last line shows of a switch and the systems that send to it.
use Rattle.std.proofs.Common.{◌≡◌, ◌+◌, ℕ, List, ap, arith, min, subst, sym, ◌∙◌}
use Rattle.std.specs.Prelude.{IfSome, Option}
use Rattle.afdx_config.specs.Rows.{Rows}
use Rattle.afdx_input_runs.specs.Joining.{Frame}
use Rattle.afdx_senders.specs.Lines.{Line}
use Rattle.afdx_text.specs.declared.conform_line.Conclusion.{Conclusion}
use Rattle.afdx_text.specs.declared.conform_line.ConformLine.{ConformLine}
use Rattle.afdx_text.specs.declared.sender_lines.SenderTotals.{SenderTotals}
use Rattle.afdx_command_conform.proofs.VerdictLemmas.{conforms-parts}
use Rattle.afdx_command_conform.specs.Lines as due
use Rattle.afdx_command_conform.specs.Lines.{AreLines}
use Rattle.afdx_command_conform.specs.Telling.{findings_in, most_counted}
use Rattle.afdx_command_conform.specs.Written.{WritesLines}
use Rattle.afdx_command_conform.specs.Lines.{Due}
use Rattle.afdx_command_conform.specs.Sight.{of_tables}
use Rattle.afdx_command_senders.proofs.MergeLemmas.{found-both}
use Rattle.afdx_command_senders.proofs.TogetherLemmas.{both_show_once}
use Rattle.afdx_command_senders.specs.BothLines.{AreBothLines, both_totals}
use Rattle.afdx_command_senders.specs.Outlook.{Outlook}
use Rattle.afdx_command_senders.specs.SenderLines.{RunRules}
use Rattle.afdx_command_senders.specs.SenderTexts.{told_lines}
use Rattle.afdx_command_senders.specs.Setting.{IsSetting}
use Rattle.afdx_command_senders.specs.Shown.{AreBothShown, IsClean, ShowsOnce}
use Rattle.afdx_command_senders.specs.Together.{SendersFindNothing, SwitchFindsNothing}

module _ (o : Outlook) (k : RunRules) (frames : List Frame) (lines : List ConformLine) (last : Conclusion)
    (setting : IsSetting o k.1 k.0) (are : AreBothLines k frames lines last) (clean : IsClean last) where
  none-found : min (findings_in lines) most_counted ≡ 0
  none-found = (conforms-parts (both_totals k frames are.dues lines)
      (sym (ap (λ (l : Conclusion). l.answer) are.last_is) ∙ clean.conforms)).none

  -- those of both
  found : findings_in (told_lines are.told) + findings_in (due.lines_of are.dues) ≡ 0
  found =
      let none = none-found in
      let all = ap (λ (l : List ConformLine). findings_in l) are.are ∙ found-both are.all in
      let mine = ap (λ (l : List Line). findings_in (told_lines l)) are.joined.senders in
      let its = ap (λ (l : List Due). findings_in (due.lines_of l)) are.joined.switch in
      omega (arith, none, all, mine, its)

  senders : SendersFindNothing o k.1 k.0 frames are.told
  senders = record {
    setting = setting;
    by_time = are.by_time;
    are_all = are.are_told;
    none = let h = found in omega (arith, h);
    alone = subst (λ (s : Option SenderTotals). IfSome s (λ t. t.alone ≡ 0))
        (ap (λ (l : Conclusion). l.senders) are.last_is) clean.none_alone;
  }

  switch : SwitchFindsNothing o.tables k.1.run frames are.dues
  switch = subst (λ (t : Rows). SwitchFindsNothing t k.1.run frames are.dues) setting.tables (record {
    are_all = are.are_lines;
    none = let h = found in omega (arith, h);
    closed = sym (ap (λ (l : Conclusion). l.waiting) are.last_is) ∙ clean.none_open;
    left_out = sym (ap (λ (l : Conclusion). l.left_out) are.last_is) ∙ clean.none_left_out;
    unseen = sym (ap (λ (l : Conclusion). l.unseen) are.last_is) ∙ clean.none_unseen;
  })

pub shows-once : (o : Outlook) (k : RunRules) (frames : List Frame) (lines : List ConformLine) (last : Conclusion)
    → IsSetting o k.1 k.0 → k.1.run.sight ≡ of_tables o.tables k.1.taps → AreBothLines k frames lines last
    → ShowsOnce o k frames last
shows-once o k frames lines last setting sees are test clean =
    both_show_once o k.1 k.0 frames are.told are.dues test sees
    (senders o k frames lines last setting are clean) (switch o k frames lines last setting are clean)

-- all lines, with what they show
pub with-shown : (o : Outlook) (k : RunRules) (frames : List Frame) (old new : Option (List ℕ)) (last : Conclusion)
    → IsSetting o k.1 k.0 → k.1.run.sight ≡ of_tables o.tables k.1.taps
    → WritesLines old new (AreBothLines k frames) last → WritesLines old new (AreBothShown o k frames) last
with-shown o k frames old new last setting sees w = record {
  lines = w.lines;
  are_so = record {
    are = w.are_so;
    once = shows-once o k frames w.lines last setting sees w.are_so;
  };
  written = w.written;
}
