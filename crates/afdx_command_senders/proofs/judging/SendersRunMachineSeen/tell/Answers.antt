use Rattle.std.proofs.Common.{Bor, ◌≤◌, ◌++◌, ℕ, List, inl, inr, refl, sym, ap, subst, ◌∙◌, arith}
use Rattle.std.specs.Prelude.{Some, min}
use Rattle.afdx_config.specs.Rows.{Rows}
use Rattle.afdx_input_runs.specs.Joining.{Frame, frame_of, frames_of}
use Rattle.afdx_input_sources.specs.Engine.{item_of}
use Rattle.afdx_senders.specs.History.{HaveTold}
use Rattle.afdx_senders.specs.Lines.{Line}
use Rattle.afdx_senders.specs.Setups.{ending}
use Rattle.afdx_senders.specs.Telling.{AreToldBefore, IsEndSince}
use Rattle.afdx_text.proofs.OutputLemmas.{on-err}
use Rattle.afdx_command_conform.proofs.EndLemmas.{are-few, latest-same}
use Rattle.afdx_command_conform.specs.Choices.{latest_of}
use Rattle.afdx_command_conform.specs.Telling.{findings_in, most_counted}
use Rattle.afdx_command_senders.specs.Asked.{Asked, asked_of, came_in}
use Rattle.afdx_command_senders.specs.declared.asked.SenderChoices.{SenderChoices}
use Rattle.afdx_command_senders.specs.SenderTexts.{told_lines}
use Rattle.afdx_command_senders.proofs.SenderRunLemmas.{begun-next, early-next, found-told, front-told, is-end, since-sooner, some-end, text-front, text-told}
use Rattle.afdx_command_senders.proofs.judging.SendersRunMachineSeen.tell.Goals as goal

pub tell_due-requires-clause-may : goal.tell_due-requires-clause-may
tell_due-requires-clause-may g c =
    let some = c.requires.told in
    let k = some.0 in
    let h = some.3 in
    let frames = frames_of some.2 in
    let time = c.args.seen.now.heading.time in
    let latest : latest_of frames ≤ time = let o = some.4.order in let l = latest-same some.2 in omega (arith, o, l) in
    let end = some-end k.1.run.until time in (
      ending end.0 k.0,
      Some (latest_of frames),
      came_in k.1 frames,
      h.told,
      h.have end.0 (since-sooner k.1.run.until (latest_of frames) time end.0 latest end.1),
      latest,
      is-end c.args.self.now.asked.choices.now.until time end.0
          (subst (λ (a : Asked). IsEndSince a.run.until time end.0) (sym h.works.asked) end.1),
    )

pub returns-in_err-tell_due-clause-begins : goal.returns-in_err-tell_due-clause-begins
returns-in_err-tell_due-clause-begins g c = λ k start past h.
    let x : Frame = frame_of (item_of c.args.n c.args.seen.now c.args.message.now) in
    let frames = frames_of past in
    let time = c.args.seen.now.heading.time in
    let some = c.requires.told in
    let latest : latest_of frames ≤ time =
    (let a = h.works.latest in let b = some.3.works.latest in let d = latest-same some.2 in let o = some.4.order in
    omega (arith, a, b, d, o)) in
    let b = c.in_err-tell_due.ensures.begun in
    let told : List Line = b.more ++ h.told in
    on-err c.from_residual.result _ (inr (record {
      lines = told_lines told;
      are_so = record {
        told = told;
        are = refl;
        are_first = inl (λ until may. begun-next k.1 (ending until k.0) x frames told
            (b.up_to (ending until k.0) (Some (latest_of frames)) (came_in k.1 frames) h.told
            (h.have until (since-sooner k.1.run.until (latest_of frames) time until latest may)) latest
            (is-end c.args.self.now.asked.choices.now.until time until
            (subst (λ (a : Asked). IsEndSince a.run.until time until) (sym h.works.asked) may))));
      };
      begun = front-told start _ _ b.more h.told h.writes.written b.begun;
    }))

pub returns-in_err-take-clause-begins : goal.returns-in_err-take-clause-begins
returns-in_err-take-clause-begins g c = λ k start past h.
    let x : Frame = frame_of (item_of c.args.n c.args.seen.now c.args.message.now) in
    let frames = frames_of past in
    let time = c.args.seen.now.heading.time in
    let some = c.requires.told in
    let latest : latest_of frames ≤ time =
    (let a = h.works.latest in let b = some.3.works.latest in let d = latest-same some.2 in let o = some.4.order in
    omega (arith, a, b, d, o)) in
    let b = c.in_ok-tell_due.ensures.told in
    let told : List Line = b.more ++ h.told in
    on-err c.from_residual-in_err-take.result _ (inr (record {
      lines = told_lines told;
      are_so = record {
        told = told;
        are = refl;
        are_first = inl (λ until may. begun-next k.1 (ending until k.0) x frames told
            (c.in_err-take.ensures.begun k.1 (ending until k.0) frames told
            (b.up_to (ending until k.0) (Some (latest_of frames)) (came_in k.1 frames) h.told
            (h.have until (since-sooner k.1.run.until (latest_of frames) time until latest may)) latest
            (is-end c.args.self.now.asked.choices.now.until time until
            (subst (λ (a : Asked). IsEndSince a.run.until time until) (sym h.works.asked) may))).0));
      };
      begun = text-front start _ told (text-told start _ _ b.more h.told h.writes.written b.tells.written);
    }))

pub returns-clause-told : goal.returns-clause-told
returns-clause-told g c = λ k start past h follows can.
    let x : Frame = frame_of (item_of c.args.n c.args.seen.now c.args.message.now) in
    let frames = frames_of past in
    let time = c.args.seen.now.heading.time in
    let latest : latest_of frames ≤ time = let o = follows.order in let l = latest-same past in omega (arith, o, l) in
    let b = c.in_ok-tell_due.ensures.told in
    let told : List Line = b.more ++ h.told in
    let asked = ap (λ (s : SenderChoices). asked_of k.0.tables k.1.taps s) c.tell_due.ensures.others.asked ∙
    h.works.asked in
    let up : (until : ℕ) → IsEndSince k.1.run.until time until
    → HaveTold (ending until k.0) (Some time) (came_in k.1 frames) told c.tell_due.new.self.senders
    × AreToldBefore (ending until k.0) (Some time) (came_in k.1 frames) told =
    λ until may. b.up_to (ending until k.0) (Some (latest_of frames)) (came_in k.1 frames) h.told
    (h.have until (since-sooner k.1.run.until (latest_of frames) time until latest may)) latest
    (is-end c.args.self.now.asked.choices.now.until time until
    (subst (λ (a : Asked). IsEndSince a.run.until time until) (sym h.works.asked) may)) in
    record {
      told = told;
      works = record {
        tables = ap (λ (t : Bor Rows). t.now) (c.take.ensures.others.tables ∙ c.tell_due.ensures.others.tables)
            ∙ h.works.tables;
        asked = ap (λ (s : SenderChoices). asked_of k.0.tables k.1.taps s) c.take.ensures.others.asked ∙ asked;
        left_out = c.in_ok-take.ensures.counted k.0.tables k.1 frames asked
            (c.tell_due.ensures.others.left_out ∙ h.works.left_out);
        latest = refl;
        few = let f = are-few past follows.few in omega (arith, f);
      };
      writes = record {
        written = text-told start _ _ b.more h.told h.writes.written b.tells.written;
        findings = c.take.ensures.others.findings
            ∙ b.tells.findings (findings_in (told_lines h.told)) h.writes.findings
            ∙ ap (λ (n : ℕ). min n most_counted) (sym (found-told b.more h.told));
      };
      have = λ until may. c.in_ok-take.ensures.came k.0.tables k.1 (ending until k.0) frames told asked
          (up until may).0;
      early = early-next k.1 k.0 k.1.run.until x frames told (λ until may. (up until may).1);
    }
