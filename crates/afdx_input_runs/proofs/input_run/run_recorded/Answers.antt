use Rattle.std.proofs.Common.{rules}
use Rattle.afdx_input_sources.specs.Becoming.{options_of}
use Rattle.afdx_input_sources.specs.Claims.{ports_of, ports_unsaid}
use Rattle.afdx_input_sources.specs.Entering.{entry_in}
use Rattle.afdx_input_sources.specs.NumberLines.{arrivals_listed}
use Rattle.afdx_input_sources.proofs.EnteringLemmas.{entry-agrees}
use Rattle.afdx_input_runs.proofs.InputLemmas.{if-agree}
use Rattle.afdx_input_runs.proofs.RecordingRunLemmas.{answers-start, listed-none}
use Rattle.afdx_input_runs.proofs.input_run.run_recorded.Goals as goal

-- there was no memory
pub returns-in_err-ports-clause-answer : goal.returns-in_err-ports-clause-answer
returns-in_err-ports-clause-answer g c law start can =
    let old = g.O.Sink.written c.args.output.now in
    let stop = answers-start (options_of c.args.options) (ports_unsaid c.args.unsaid) arrivals_listed
    (g.M.Machine.Done law c.args.machine.now old old) (g.M.Machine.Told law c.args.machine.now old old)
    (g.M.Machine.Begins law c.args.machine.now old old)
    (g.R.Read.remaining c.args.input.now.inner) (g.R.Read.remaining c.args.input.now.inner) listed-none start in
    search rules

pub run_recording-requires-clause-told : goal.run_recording-requires-clause-told
run_recording-requires-clause-told g c =
    let told = c.requires.told in (
      told.0,
      told.1,
      λ item entered. told.2 item (entry-agrees (options_of c.args.options) (ports_of c.in_ok-ports.ports)
          (ports_unsaid c.args.unsaid) (entry_in item) c.in_ok-ports.ensures entered),
    )

pub returns-clause-answer : goal.returns-clause-answer
returns-clause-answer g c law start can =
    let old = g.O.Sink.written c.args.output.now in
    let new = g.O.Sink.written c.run_recording.new.output in
    let machine = c.run_recording.new.machine in
    if-agree (options_of c.args.options) (ports_of c.in_ok-ports.ports) (ports_unsaid c.args.unsaid)
    c.in_ok-ports.ensures (g.M.Machine.Done law machine old new) (g.M.Machine.Told law machine old new)
    (g.M.Machine.Begins law machine old new) (g.R.Read.remaining c.args.input.now.inner)
    (g.R.Read.remaining c.run_recording.new.input.inner) c.run_recording.result
    (c.run_recording.ensures.answer law start (λ item entered. can item
    (entry-agrees (options_of c.args.options) (ports_of c.in_ok-ports.ports) (ports_unsaid c.args.unsaid)
    (entry_in item) c.in_ok-ports.ensures entered)))
