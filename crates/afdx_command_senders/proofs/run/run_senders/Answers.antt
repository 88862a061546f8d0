use Rattle.std.proofs.Common.{rules, ◌≡◌, Err, [], refl, sym, subst}
use Rattle.afdx_input_lines.specs.FrameLines.{listed_frame}
use Rattle.afdx_input_lines.specs.declared.fault.RunFault.TheVariants as run
use Rattle.afdx_input_runs.specs.Arrivals.{TakesFrames}
use Rattle.afdx_input_runs.specs.Joining.{frames_of}
use Rattle.afdx_input_sources.specs.Claims.{ports_of_one}
use Rattle.afdx_input_sources.specs.Items.{thing_of}
use Rattle.afdx_input_sources.specs.Listed.{frames}
use Rattle.afdx_input_sources.specs.Tapping.{taps_in}
use Rattle.afdx_command_conform.proofs.AddedLemmas.{if-some}
use Rattle.afdx_command_conform.proofs.RanLemmas.{answers-memory, run-answers, where-known}
use Rattle.afdx_command_conform.specs.Tapped.{Taps}
use Rattle.afdx_command_conform.specs.Written.{Begins}
use Rattle.afdx_command_senders.proofs.SenderRunLemmas.{new-tells, no-lines}
use Rattle.afdx_command_senders.proofs.SettingLemmas.{is-setting, nothing-early}
use Rattle.afdx_command_senders.specs.Asked.{Asked, asked_of}
use Rattle.afdx_command_senders.specs.Outlook.{outlook_of}
use Rattle.afdx_command_senders.specs.SenderAnswers.{SendersAnswer}
use Rattle.afdx_command_senders.specs.SenderLines.{AreAllLines, AreEarlyLines, AreFirstLines, RunRules}
use Rattle.afdx_command_senders.specs.SenderRun.{CountsAll, TellsItems, TellsItemsToEnd}
use Rattle.afdx_command_senders.specs.SenderTexts.{told_lines}
use Rattle.afdx_command_senders.specs.Setting.{setting_of}
use Rattle.afdx_command_senders.proofs.run.run_senders.Goals as goal

-- there was no memory
pub returns-in_err-judging-clause-answer : goal.returns-in_err-judging-clause-answer
returns-in_err-judging-clause-answer g c =
    let old = g.O.Sink.written c.args.output.now in
    let a : Asked = asked_of c.args.outlook.tables.now (g.P.Tapping.tapped c.args.options) c.args.asked in
    let o = outlook_of c.args.outlook in
    let z = setting_of o a in
    let k : RunRules = (z, a) in
    let e : c.from_residual.result ≡ Err run.Memory = search rules in
    rw e (where-known (g.A.RunInput.known c.args.inputs.now) _ (λ bytes known. (
      z,
      is-setting o a,
      answers-memory
          (g.A.RunInput.Takes TakesFrames c.args.options (ports_of_one o.tables) bytes c.args.inputs.now)
          (AreAllLines k) (AreEarlyLines k) (AreFirstLines k) c.args.asked.choices.now.is_lossy old
          (record { told = []; are = sym no-lines; are_early = nothing-early z a.run.until 0 })
          (c.takes_none.ensures frames (thing_of frames listed_frame) c.args.options (ports_of_one o.tables) bytes
          c.args.inputs.now c.requires.new known),
    )))

pub run_judged-requires-clause-ready : goal.run_judged-requires-clause-ready
run_judged-requires-clause-ready g c =
    let new = c.in_ok-judging.ensures in (
      (new.0, asked_of c.args.outlook.tables.now (taps_in c.taps-taps.result) c.args.asked),
      new-tells (new.0, asked_of c.args.outlook.tables.now (taps_in c.taps-taps.result) c.args.asked) _
          (g.O.Sink.written c.args.output.now)
          new.2,
      λ item. tt,
    )

pub returns-clause-answer : goal.returns-clause-answer
returns-clause-answer g c =
    let old = g.O.Sink.written c.args.output.now in
    let last = g.O.Sink.written c.run_judged.new.output in
    let new = c.in_ok-judging.ensures in
    let a : Asked = asked_of c.args.outlook.tables.now (taps_in c.taps-taps.result) c.args.asked in
    let k : RunRules = (new.0, a) in
    let j = c.run_judged.new.judge in
    let o = outlook_of c.args.outlook in
    subst (λ (p : Taps). SendersAnswer (g.A.RunInput.known c.args.inputs.now)
    (g.A.RunInput.Takes TakesFrames c.args.options) c.run_judged.new.inputs o p c.args.asked old last
    c.run_judged.result) c.taps-taps.ensures
    (if-some (λ bytes h. (
      new.0,
      new.1,
      run-answers
          (g.A.RunInput.Takes TakesFrames c.args.options (ports_of_one o.tables) bytes c.run_judged.new.inputs)
          (AreAllLines k) (AreEarlyLines k) (AreFirstLines k) c.args.asked.choices.now.is_lossy
          (TellsItemsToEnd k j) (TellsItems k j)
          (λ start written past. Begins start written (AreFirstLines k (frames_of past)))
          (CountsAll j) old last (λ mid items end done counted. counted k old mid items done)
          (λ items told. record {
            lines = told_lines told.told;
            are_so = record { told = told.told; are = refl; are_early = told.early };
            written = told.writes.written;
          }) (λ items begun. begun) c.run_judged.result h,
    ))
    (g.A.RunInput.known c.args.inputs.now)
    (c.run_judged.ensures.answer k (new-tells k _ old new.2) (λ item. tt)))
