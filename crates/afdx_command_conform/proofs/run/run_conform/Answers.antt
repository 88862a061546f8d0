use Rattle.std.proofs.Common.{rules, ◌≡◌, Err, [], refl, subst}
use Rattle.afdx_input_lines.specs.declared.fault.RunFault.TheVariants as run
use Rattle.afdx_input_lines.specs.FrameLines.{listed_frame}
use Rattle.afdx_input_runs.specs.Arrivals.{TakesFrames}
use Rattle.afdx_input_sources.specs.Claims.{ports_of_one}
use Rattle.afdx_input_sources.specs.Items.{thing_of}
use Rattle.afdx_input_sources.specs.Listed.{frames}
use Rattle.afdx_command_conform.specs.Sight.{of_tables, sight_in}
use Rattle.afdx_command_conform.proofs.AddedLemmas.{if-some}
use Rattle.afdx_command_conform.proofs.BegunLemmas.{nothing-early, tells-none}
use Rattle.afdx_command_conform.proofs.RanLemmas.{answers-memory, run-answers, where-known}
use Rattle.afdx_config.specs.Rows.{Rows}
use Rattle.afdx_command_conform.specs.AllLines.{AreAllLines, AreEarlyLines, AreSomeLines}
use Rattle.afdx_command_conform.specs.Choices.{Choices}
use Rattle.afdx_command_conform.specs.ChoicesOf.{choices_of}
use Rattle.afdx_command_conform.specs.Lines.{lines_of}
use Rattle.afdx_command_conform.specs.Told.{CountsAll, TellsItems, TellsToEnd}
use Rattle.afdx_command_conform.specs.Written.{Begins}
use Rattle.afdx_input_runs.specs.Joining.{frames_of}
use Rattle.afdx_command_conform.proofs.run.run_conform.Goals as goal

-- there was no memory
pub returns-in_err-judging-clause-answer : goal.returns-in_err-judging-clause-answer
returns-in_err-judging-clause-answer g c =
    let old = g.O.Sink.written c.args.output.now in
    let k : Rows × Choices = (
      c.args.tables.now,
      choices_of
          (of_tables c.args.tables.now (g.P.Tapping.tapped c.args.options)) c.args.choices.now,
    )
    in
    let e : c.from_residual.result ≡ Err run.Memory = search rules in
    rw e (where-known (g.A.RunInput.known c.args.inputs.now) _ (λ bytes known. answers-memory
    (g.A.RunInput.Takes TakesFrames c.args.options (ports_of_one c.args.tables.now) bytes c.args.inputs.now)
    (AreAllLines k) (AreEarlyLines k) (AreSomeLines k) c.args.choices.now.is_lossy old (nothing-early k)
    (c.takes_none.ensures frames (thing_of frames listed_frame) c.args.options (ports_of_one c.args.tables.now) bytes
    c.args.inputs.now c.requires.new known)))

pub run_judged-requires-clause-ready : goal.run_judged-requires-clause-ready
run_judged-requires-clause-ready g c = (
  (c.args.tables.now, choices_of (sight_in c.args.tables.now c.taps-taps.result) c.args.choices.now),
  tells-none _ _ (g.O.Sink.written c.args.output.now) c.in_ok-judging.ensures,
  λ item. tt,
)

pub returns-clause-answer : goal.returns-clause-answer
returns-clause-answer g c =
    let old = g.O.Sink.written c.args.output.now in
    let new = g.O.Sink.written c.run_judged.new.output in
    let k : Rows × Choices = (
      c.args.tables.now,
      choices_of
          (of_tables c.args.tables.now (g.P.Tapping.tapped c.args.options)) c.args.choices.now,
    )
    in
    let j = c.run_judged.new.judge in
    if-some (λ bytes h. run-answers
    (g.A.RunInput.Takes TakesFrames c.args.options (ports_of_one c.args.tables.now) bytes c.run_judged.new.inputs)
    (AreAllLines k) (AreEarlyLines k) (AreSomeLines k) c.args.choices.now.is_lossy
    (TellsToEnd k j) (TellsItems k j) (λ start written past. Begins start written (AreSomeLines k (frames_of past)))
    (CountsAll j) old new (λ mid items last done counted. counted k old mid items done)
    (λ items told. record { lines = lines_of told.0; are_so = (told.0, refl, told.1.early); written = told.2 })
    (λ items begun. begun)
    c.run_judged.result h)
    (g.A.RunInput.known c.args.inputs.now)
    (c.run_judged.ensures.answer k
    (subst (λ p. TellsItems (c.args.tables.now, choices_of (of_tables c.args.tables.now p) c.args.choices.now)
    c.in_ok-judging.judging old old [])
    c.taps-taps.ensures (tells-none _ _ old c.in_ok-judging.ensures)) (λ item. tt))
