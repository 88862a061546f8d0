use Rattle.std.proofs.Common.{rules, ◌≡◌, Err, refl, subst}
use Rattle.afdx_input_lines.specs.FrameLines.{listed_frame}
use Rattle.afdx_input_lines.specs.declared.fault.RunFault.TheVariants as run
use Rattle.afdx_input_runs.specs.Arrivals.{TakesFrames}
use Rattle.afdx_input_runs.specs.Joining.{frames_of}
use Rattle.afdx_input_sources.specs.Claims.{ports_of_one}
use Rattle.afdx_input_sources.specs.Items.{thing_of}
use Rattle.afdx_input_sources.specs.Listed.{frames}
use Rattle.afdx_input_sources.specs.Tapping.{taps_in}
use Rattle.afdx_command_conform.proofs.AddedLemmas.{if-some}
use Rattle.afdx_command_conform.proofs.RanLemmas.{answers-memory, run-answers, where-known}
use Rattle.afdx_command_conform.specs.Tapped.{Taps}
use Rattle.afdx_command_conform.specs.Written.{Begins}
use Rattle.afdx_command_senders.proofs.BothRunLemmas.{are-early, none-early}
use Rattle.afdx_command_senders.proofs.ShownLemmas.{with-shown}
use Rattle.afdx_command_senders.proofs.SettingLemmas.{is-setting, nothing-early}
use Rattle.afdx_command_senders.specs.Asked.{Asked, asked_of}
use Rattle.afdx_command_senders.specs.BothLines.{AreBothEarly, AreBothSome}
use Rattle.afdx_command_senders.specs.BothRun.{BothCountsAll, BothTellItems, BothTellItemsToEnd}
use Rattle.afdx_command_senders.specs.BothTold.{both_lines}
use Rattle.afdx_command_senders.specs.Outlook.{outlook_of}
use Rattle.afdx_command_senders.specs.SenderAnswers.{BothAnswer}
use Rattle.afdx_command_senders.specs.SenderLines.{RunRules}
use Rattle.afdx_command_senders.specs.Setting.{setting_of}
use Rattle.afdx_command_senders.specs.Shown.{AreBothShown}
use Rattle.afdx_command_senders.proofs.run.run_both.Goals as goal

-- there was no memory
pub returns-in_err-judging-clause-answer : goal.returns-in_err-judging-clause-answer
returns-in_err-judging-clause-answer g c =
    let old = g.O.Sink.written c.args.output.now in
    let a : Asked = asked_of c.args.outlook.tables.now (g.P.Tapping.tapped c.args.options) c.args.asked in
    let o = outlook_of c.args.outlook in
    let z = setting_of o a in
    let k : RunRules = (z, a) in
    let e : c.from_residual.result ≡ Err run.Memory = search rules in
    rw e (where-known (g.A.RunInput.known c.args.inputs.now) _ (λ bytes known. (
      z,
      is-setting o a,
      answers-memory
          (g.A.RunInput.Takes TakesFrames c.args.options (ports_of_one o.tables) bytes c.args.inputs.now)
          (AreBothShown o k) (AreBothEarly k) (AreBothSome k) c.args.asked.choices.now.is_lossy old
          (none-early k (nothing-early z a.run.until 0))
          (c.takes_none.ensures frames (thing_of frames listed_frame) c.args.options (ports_of_one o.tables) bytes
          c.args.inputs.now c.requires.new known),
    )))

pub run_judged-requires-clause-ready : goal.run_judged-requires-clause-ready
run_judged-requires-clause-ready g c =
    let new = c.in_ok-judging.ensures in (
      (new.0, asked_of c.args.outlook.tables.now (taps_in c.taps-taps.result) c.args.asked),
      new.2 (g.O.Sink.written c.args.output.now),
      λ item. tt,
    )

pub returns-clause-answer : goal.returns-clause-answer
returns-clause-answer g c =
    let old = g.O.Sink.written c.args.output.now in
    let last = g.O.Sink.written c.run_judged.new.output in
    let new = c.in_ok-judging.ensures in
    let a : Asked = asked_of c.args.outlook.tables.now (taps_in c.taps-taps.result) c.args.asked in
    let k : RunRules = (new.0, a) in
    let j = c.run_judged.new.judge in
    let o = outlook_of c.args.outlook in
    subst (λ (p : Taps). BothAnswer (g.A.RunInput.known c.args.inputs.now)
    (g.A.RunInput.Takes TakesFrames c.args.options) c.run_judged.new.inputs o p c.args.asked old last
    c.run_judged.result) c.taps-taps.ensures
    (if-some (λ bytes h. (
      new.0,
      new.1,
      run-answers
          (g.A.RunInput.Takes TakesFrames c.args.options (ports_of_one o.tables) bytes c.run_judged.new.inputs)
          (AreBothShown o k) (AreBothEarly k) (AreBothSome k) c.args.asked.choices.now.is_lossy
          (BothTellItemsToEnd k j) (BothTellItems k j)
          (λ start written past. Begins start written (AreBothSome k (frames_of past)))
          (BothCountsAll j) old last
          (λ mid items end done counted.
          with-shown o k (frames_of items) old mid end new.1 refl (counted k old mid items done))
          (λ items told. record {
            lines = both_lines told.are.all;
            are_so = are-early k j old last (frames_of items) told;
            written = told.are.written;
          }) (λ items begun. begun) c.run_judged.result h,
    ))
    (g.A.RunInput.known c.args.inputs.now)
    (c.run_judged.ensures.answer k (new.2 old) (λ item. tt)))
