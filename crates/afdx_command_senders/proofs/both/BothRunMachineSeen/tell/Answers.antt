use Rattle.std.proofs.Common.{Bor, ◌≤◌, ◌++◌, ℕ, inl, inr, refl, sym, ap, subst, ◌∙◌, arith, false}
use Rattle.std.specs.Prelude.{Some, min}
use Rattle.afdx_config.specs.Rows.{Rows}
use Rattle.afdx_input_runs.specs.Joining.{Frame, frame_of, frames_of}
use Rattle.afdx_input_sources.specs.Engine.{item_of}
use Rattle.afdx_senders.specs.History.{HaveTold}
use Rattle.afdx_senders.specs.Setups.{ending}
use Rattle.afdx_senders.specs.declared.senders.Senders.{Senders}
use Rattle.afdx_text.proofs.OutputLemmas.{on-err}
use Rattle.afdx_command_conform.proofs.BegunLemmas.{none-due-yet}
use Rattle.afdx_command_conform.proofs.EndLemmas.{are-few, latest-same}
use Rattle.afdx_command_conform.specs.Choices.{latest_of}
use Rattle.afdx_command_conform.specs.Keeping.{IsNothingDue}
use Rattle.afdx_command_conform.specs.Telling.{findings_in, most_counted}
use Rattle.afdx_command_conform.specs.Told.{HasTold, told_by}
use Rattle.afdx_command_senders.specs.Asked.{asked_of, came_in}
use Rattle.afdx_command_senders.specs.BothLines.{switch_rules}
use Rattle.afdx_command_senders.specs.SenderRun.{TellsUpTo, told_in}
use Rattle.afdx_command_senders.specs.SenderTexts.{told_lines}
use Rattle.afdx_command_senders.specs.declared.asked.SenderChoices.{SenderChoices}
use Rattle.afdx_command_senders.proofs.BothRunLemmas.{begins-all, begins-next, begins-so, may-tell, told-next, told-up, written-next}
use Rattle.afdx_command_senders.proofs.SenderRunLemmas.{found-told}
use Rattle.afdx_command_senders.proofs.both.BothRunMachineSeen.tell.Goals as goal

pub collect-requires : goal.collect-requires
collect-requires g c =
    let some = c.requires.told in
    let x : Frame = frame_of (item_of c.args.n c.args.seen.now c.args.message.now) in
    let frames = frames_of some.2 in
    let latest : latest_of frames ≤ c.args.seen.now.heading.time =
    (let o = some.4.order in let l = latest-same some.2 in omega (arith, o, l)) in
    may-tell some.0 c.args.self.now some.1 _ frames some.3 x latest

pub returns-in_err-reach-clause-begins : goal.returns-in_err-reach-clause-begins
returns-in_err-reach-clause-begins g c = λ k start past h.
    on-err c.from_residual.result _ (inl (begins-so k c.args.self.now start _ (frames_of past) h))

pub returns-in_err-found-clause-begins : goal.returns-in_err-found-clause-begins
returns-in_err-found-clause-begins g c = λ k start past h.
    on-err c.from_residual-in_err-found.result _ (inl (begins-so k c.args.self.now start _ (frames_of past) h))

pub returns-in_err-tell_merged-clause-begins : goal.returns-in_err-tell_merged-clause-begins
returns-in_err-tell_merged-clause-begins g c = λ k start past h.
    let x : Frame = frame_of (item_of c.args.n c.args.seen.now c.args.message.now) in
    let frames = frames_of past in
    let some = c.requires.told in
    let latest : latest_of frames ≤ c.args.seen.now.heading.time =
    (let a = h.counts.works.latest in let b = some.3.counts.works.latest in let d = latest-same some.2 in
    let o = some.4.order in omega (arith, a, b, d, o)) in
    let lines = c.as_slice-lines.result.now in
    let ds = c.as_slice-dues.result.now in
    let up = subst (λ l. TellsUpTo (Some c.args.seen.now.heading.time) c.args.self.now.senders.asked.choices.now.until
    c.args.self.now.senders.senders c.collect.new.self.senders (told_in l)) (sym c.as_slice-lines.ensures.value)
    c.in_ok-found.ensures.told in
    let reached = subst (λ l. HasTold (switch_rules k) false c.args.seen.now.heading.time c.reach.new.self frames
    (told_by l h.dues) × IsNothingDue k.0.tables (Some c.args.seen.now.heading.time) c.reach.new.self.streams.kept)
    (sym c.as_slice-dues.ensures.value)
    (c.in_ok-reach.ensures.stands (switch_rules k) (latest_of frames) frames h.dues latest (omega arith)
    (none-due-yet (switch_rules k) (latest_of frames) c.args.self.now.switch frames h.dues c.new-due.ensures.items
    (h.judged.works, h.judged.stands))) in
    on-err c.from_residual-in_err-tell_merged.result _ (inr
    (begins-next k c.args.self.now start _ frames h x latest lines ds c.collect.new.self.senders
    c.reach.new.self up reached _
    c.in_err-tell_merged.ensures.begun))

pub returns-in_err-follow-clause-begins : goal.returns-in_err-follow-clause-begins
returns-in_err-follow-clause-begins g c = λ k start past h.
    let x : Frame = frame_of (item_of c.args.n c.args.seen.now c.args.message.now) in
    let frames = frames_of past in
    let some = c.requires.told in
    let latest : latest_of frames ≤ c.args.seen.now.heading.time =
    (let a = h.counts.works.latest in let b = some.3.counts.works.latest in let d = latest-same some.2 in
    let o = some.4.order in omega (arith, a, b, d, o)) in
    let lines = c.as_slice-lines.result.now in
    let ds = c.as_slice-dues.result.now in
    let up = subst (λ l. TellsUpTo (Some c.args.seen.now.heading.time) c.args.self.now.senders.asked.choices.now.until
    c.args.self.now.senders.senders c.collect.new.self.senders (told_in l)) (sym c.as_slice-lines.ensures.value)
    c.in_ok-found.ensures.told in
    let reached = subst (λ l. HasTold (switch_rules k) false c.args.seen.now.heading.time c.reach.new.self frames
    (told_by l h.dues) × IsNothingDue k.0.tables (Some c.args.seen.now.heading.time) c.reach.new.self.streams.kept)
    (sym c.as_slice-dues.ensures.value)
    (c.in_ok-reach.ensures.stands (switch_rules k) (latest_of frames) frames h.dues latest (omega arith)
    (none-due-yet (switch_rules k) (latest_of frames) c.args.self.now.switch frames h.dues c.new-due.ensures.items
    (h.judged.works, h.judged.stands))) in
    on-err c.from_residual-in_err-follow.result _ (inr
    (begins-all k c.args.self.now start _ frames h x latest lines ds c.collect.new.self.senders
    c.reach.new.self up reached _
    c.in_ok-tell_merged.ensures.told))

pub returns-in_err-take-clause-begins : goal.returns-in_err-take-clause-begins
returns-in_err-take-clause-begins g c = λ k start past h.
    let x : Frame = frame_of (item_of c.args.n c.args.seen.now c.args.message.now) in
    let frames = frames_of past in
    let some = c.requires.told in
    let latest : latest_of frames ≤ c.args.seen.now.heading.time =
    (let a = h.counts.works.latest in let b = some.3.counts.works.latest in let d = latest-same some.2 in
    let o = some.4.order in omega (arith, a, b, d, o)) in
    let lines = c.as_slice-lines.result.now in
    let ds = c.as_slice-dues.result.now in
    let up = subst (λ l. TellsUpTo (Some c.args.seen.now.heading.time) c.args.self.now.senders.asked.choices.now.until
    c.args.self.now.senders.senders c.collect.new.self.senders (told_in l)) (sym c.as_slice-lines.ensures.value)
    c.in_ok-found.ensures.told in
    let reached = subst (λ l. HasTold (switch_rules k) false c.args.seen.now.heading.time c.reach.new.self frames
    (told_by l h.dues) × IsNothingDue k.0.tables (Some c.args.seen.now.heading.time) c.reach.new.self.streams.kept)
    (sym c.as_slice-dues.ensures.value)
    (c.in_ok-reach.ensures.stands (switch_rules k) (latest_of frames) frames h.dues latest (omega arith)
    (none-due-yet (switch_rules k) (latest_of frames) c.args.self.now.switch frames h.dues c.new-due.ensures.items
    (h.judged.works, h.judged.stands))) in
    on-err c.from_residual-in_err-take.result _ (inr
    (begins-all k c.args.self.now start _ frames h x latest lines ds c.collect.new.self.senders
    c.reach.new.self up reached _
    c.in_ok-tell_merged.ensures.told))

pub returns-clause-told : goal.returns-clause-told
returns-clause-told g c = λ k start past h follows can.
    let x : Frame = frame_of (item_of c.args.n c.args.seen.now c.args.message.now) in
    let frames = frames_of past in
    let latest : latest_of frames ≤ c.args.seen.now.heading.time =
    (let o = follows.order in let l = latest-same past in omega (arith, o, l)) in
    let lines = c.as_slice-lines.result.now in
    let ds = c.as_slice-dues.result.now in
    let up = subst (λ l. TellsUpTo (Some c.args.seen.now.heading.time) c.args.self.now.senders.asked.choices.now.until
    c.args.self.now.senders.senders c.collect.new.self.senders (told_in l)) (sym c.as_slice-lines.ensures.value)
    c.in_ok-found.ensures.told in
    let reached = subst (λ l. HasTold (switch_rules k) false c.args.seen.now.heading.time c.reach.new.self frames
    (told_by l h.dues) × IsNothingDue k.0.tables (Some c.args.seen.now.heading.time) c.reach.new.self.streams.kept)
    (sym c.as_slice-dues.ensures.value)
    (c.in_ok-reach.ensures.stands (switch_rules k) (latest_of frames) frames h.dues latest (omega arith)
    (none-due-yet (switch_rules k) (latest_of frames) c.args.self.now.switch frames h.dues c.new-due.ensures.items
    (h.judged.works, h.judged.stands))) in
    let told = told_in lines ++ h.told in
    let asked = ap (λ (s : SenderChoices). asked_of k.0.tables k.1.taps s)
    (c.tell_merged.ensures.others.asked ∙ c.collect.ensures.others.asked) ∙ h.counts.works.asked in
    let to = told-up k c.args.self.now start _ frames h x latest lines ds c.collect.new.self.senders c.reach.new.self up
    reached in
    record {
      told = told;
      dues = told_by ds h.dues;
      are = written-next k c.args.self.now start _ frames h x latest lines ds c.collect.new.self.senders
          c.reach.new.self up reached _ c.in_ok-tell_merged.ensures.told;
      judged = c.in_ok-follow.ensures (switch_rules k) frames (told_by ds h.dues) refl latest
          (are-few past follows.few) reached.0 reached.1;
      counts = record {
        works = record {
          tables = ap (λ (t : Bor Rows). t.now) (c.take.ensures.others.tables ∙ c.tell_merged.ensures.others.tables
              ∙ c.collect.ensures.others.tables)
              ∙ h.counts.works.tables;
          asked = ap (λ (s : SenderChoices). asked_of k.0.tables k.1.taps s) c.take.ensures.others.asked ∙ asked;
          left_out = c.in_ok-take.ensures.counted k.0.tables k.1 frames asked
              (c.tell_merged.ensures.others.left_out ∙ c.collect.ensures.others.left_out ∙ h.counts.works.left_out);
          latest = refl;
          few = let f = are-few past follows.few in omega (arith, f);
        };
        findings = c.take.ensures.others.findings
            ∙ c.in_ok-tell_merged.ensures.counted (findings_in (told_lines h.told))
            (c.collect.ensures.others.findings ∙ h.counts.findings)
            ∙ ap (λ (n : ℕ). min n most_counted) (sym (found-told (told_in lines) h.told));
      };
      have = λ until may. c.in_ok-take.ensures.came k.0.tables k.1 (ending until k.0) frames told asked
          (subst (λ (s : Senders). HaveTold (ending until k.0) (Some c.args.seen.now.heading.time) (came_in k.1 frames)
          told s) (sym c.tell_merged.ensures.others.senders) (to until may).0);
      early = told-next k c.args.self.now start _ frames h x latest lines ds c.collect.new.self.senders
          c.reach.new.self up reached;
    }
