use Rattle.std.proofs.Common.{Bor, ◌++◌, ℕ, sym, ap, subst, ◌∙◌}
use Rattle.std.specs.Prelude.{None, Some, min}
use Rattle.afdx_config.specs.Rows.{Rows}
use Rattle.afdx_input_runs.specs.Joining.{frames_of}
use Rattle.afdx_senders.specs.History.{HaveTold}
use Rattle.afdx_senders.specs.declared.senders.Senders.{Senders}
use Rattle.afdx_text.proofs.OutputLemmas.{on-err}
use Rattle.afdx_command_conform.proofs.BegunLemmas.{err-on, none-due-yet}
use Rattle.afdx_command_conform.specs.Choices.{latest_of}
use Rattle.afdx_command_conform.specs.Telling.{findings_in, most_counted}
use Rattle.afdx_command_conform.specs.Told.{IsJudgedToEnd, told_by}
use Rattle.afdx_command_senders.specs.Asked.{asked_of, came_in}
use Rattle.afdx_command_senders.specs.BothLines.{switch_rules}
use Rattle.afdx_command_senders.specs.SenderLines.{whole_setup}
use Rattle.afdx_command_senders.specs.SenderRun.{TellsUpTo, told_in}
use Rattle.afdx_command_senders.specs.SenderTexts.{told_lines}
use Rattle.afdx_command_senders.specs.declared.asked.SenderChoices.{SenderChoices}
use Rattle.afdx_command_senders.proofs.BothRunLemmas.{begins-last, begins-so, may-finish, on-two, told-last, written-last}
use Rattle.afdx_command_senders.proofs.SenderRunLemmas.{found-told}
use Rattle.afdx_command_senders.proofs.both.BothRunMachineSeen.end.Goals as goal

pub collect-requires : goal.collect-requires
collect-requires g c =
    let some = c.requires.told in
    may-finish some.0 c.args.self.now some.1 _ (frames_of some.2) some.3 c.end_time-end.result c.end_time-end.ensures

pub returns-in_err-finish-clause-begins : goal.returns-in_err-finish-clause-begins
returns-in_err-finish-clause-begins g c = λ k start past h.
    on-err c.from_residual.result _ (begins-so k c.args.self.now start _ (frames_of past) h)

pub returns-in_err-found-clause-begins : goal.returns-in_err-found-clause-begins
returns-in_err-found-clause-begins g c = λ k start past h.
    on-err c.from_residual-in_err-found.result _ (begins-so k c.args.self.now start _ (frames_of past) h)

pub returns-clause-done : goal.returns-clause-done
returns-clause-done g c = λ k start past h.
    let frames = frames_of past in
    let is = c.end_time-end.ensures in
    let end = c.end_time-end.result in
    let lines = c.as_slice-lines.result.now in
    let ds = c.as_slice-dues.result.now in
    let senders = c.collect.new.self.senders in
    let up = subst (λ l. TellsUpTo None (Some end) c.args.self.now.senders.senders senders (told_in l))
    (sym c.as_slice-lines.ensures.value) c.in_ok-found.ensures.told in
    let done = subst (λ l. IsJudgedToEnd (switch_rules k) c.finish.new.self frames (told_by l h.dues))
    (sym c.as_slice-dues.ensures.value)
    (c.in_ok-finish.ensures (switch_rules k) frames h.dues
    (none-due-yet (switch_rules k) (latest_of frames) c.args.self.now.switch frames h.dues c.new-due.ensures.items
    (h.judged.works, h.judged.stands))) in
    let told = told_in lines ++ h.told in
    let last = told-last k c.args.self.now start _ frames h end is lines ds senders c.finish.new.self up done in
    on-two c.tell_merged.result (λ put counted. record {
      told = told;
      dues = told_by ds h.dues;
      are = written-last k c.args.self.now start _ frames h end is lines ds senders c.finish.new.self up done _ put;
      judged = done;
      counts = record {
        works = record {
          tables = ap (λ (t : Bor Rows). t.now) (c.tell_merged.ensures.others.tables ∙ c.collect.ensures.others.tables)
              ∙ h.counts.works.tables;
          asked = ap (λ (s : SenderChoices). asked_of k.0.tables k.1.taps s)
              (c.tell_merged.ensures.others.asked ∙ c.collect.ensures.others.asked)
              ∙ h.counts.works.asked;
          left_out = c.tell_merged.ensures.others.left_out ∙ c.collect.ensures.others.left_out
              ∙ h.counts.works.left_out;
          latest = c.tell_merged.ensures.others.latest ∙ c.collect.ensures.others.latest ∙ h.counts.works.latest;
          few = h.counts.works.few;
        };
        findings = counted ∙ ap (λ (n : ℕ). min n most_counted) (sym (found-told (told_in lines) h.told));
      };
      have = subst (λ (s : Senders). HaveTold (whole_setup k frames) None (came_in k.1 frames) told s)
          (sym c.tell_merged.ensures.others.senders) last.0;
      all = last.1;
    }) c.tell_merged.ensures.told
    (c.tell_merged.ensures.counted (findings_in (told_lines h.told))
    (c.collect.ensures.others.findings ∙ h.counts.findings))

pub returns-clause-begins : goal.returns-clause-begins
returns-clause-begins g c = λ k start past h.
    let frames = frames_of past in
    let is = c.end_time-end.ensures in
    let end = c.end_time-end.result in
    let lines = c.as_slice-lines.result.now in
    let ds = c.as_slice-dues.result.now in
    let senders = c.collect.new.self.senders in
    let up = subst (λ l. TellsUpTo None (Some end) c.args.self.now.senders.senders senders (told_in l))
    (sym c.as_slice-lines.ensures.value) c.in_ok-found.ensures.told in
    let done = subst (λ l. IsJudgedToEnd (switch_rules k) c.finish.new.self frames (told_by l h.dues))
    (sym c.as_slice-dues.ensures.value)
    (c.in_ok-finish.ensures (switch_rules k) frames h.dues
    (none-due-yet (switch_rules k) (latest_of frames) c.args.self.now.switch frames h.dues c.new-due.ensures.items
    (h.judged.works, h.judged.stands))) in
    err-on
    (λ put. begins-last k c.args.self.now start _ frames h end is lines ds senders c.finish.new.self up done _ put)
    c.tell_merged.result c.tell_merged.ensures.begun
