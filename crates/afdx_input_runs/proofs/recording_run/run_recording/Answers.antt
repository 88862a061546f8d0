use Rattle.std.proofs.Common.{rules, refl, sym, []}
use Rattle.afdx_input_sources.specs.Becoming.{options_of}
use Rattle.afdx_input_sources.specs.Claims.{ports_of}
use Rattle.afdx_input_sources.specs.NumberLines.{arrivals_listed}
use Rattle.afdx_input_runs.specs.ReadPair.{IsNewOne}
use Rattle.afdx_input_runs.proofs.EnteringLemmas.{one-can}
use Rattle.afdx_input_runs.proofs.RecordingRunLemmas.{answers-start, listed-none, one-by, one-set, timed-start, unasked}
use Rattle.afdx_input_runs.proofs.recording_run.run_recording.Goals as goal

pub returns-in_err-read_one-clause-calls : goal.returns-in_err-read_one-clause-calls
returns-in_err-read_one-clause-calls g c =
    unasked (g.R.Read.remaining c.args.input.now.inner) c.args.input.now.calls

-- there was no memory
pub returns-in_err-read_one-clause-answer : goal.returns-in_err-read_one-clause-answer
returns-in_err-read_one-clause-answer g c law start can =
    let old = g.O.Sink.written c.args.output.now in
    let stop = answers-start (options_of c.args.options) (ports_of c.args.ports) arrivals_listed
    (g.M.Machine.Done law c.args.machine.now old old) (g.M.Machine.Told law c.args.machine.now old old)
    (g.M.Machine.Begins law c.args.machine.now old old)
    (g.R.Read.remaining c.args.input.now.inner) (g.R.Read.remaining c.args.input.now.inner) listed-none start in
    search rules

pub run_over-requires-clause-gave : goal.run_over-requires-clause-gave
run_over-requires-clause-gave g c = record {
  lines = [];
  known_so = rw c.new-arrivals.ensures (timed-start c.args.options c.args.ports
      c.in_ok-read_one.field-0 c.in_ok-read_one.ensures
      g.R.Read.remaining c.args.input.now c.requires.sound_input c.requires.unended);
  items_are = sym listed-none;
}

pub run_over-requires-clause-set : goal.run_over-requires-clause-set
run_over-requires-clause-set g c =
    rw c.new-arrivals.ensures (one-set c.args.options c.args.ports c.in_ok-read_one.field-0 c.in_ok-read_one.ensures)

pub run_over-requires-clause-told : goal.run_over-requires-clause-told
run_over-requires-clause-told g c =
    let told = c.requires.told in
    let lines = c.new-arrivals.result.lines in
    let is : IsNewOne c.args.options c.args.ports lines = rw c.new-arrivals.ensures c.in_ok-read_one.ensures in
    (told.0, told.1, one-can g.R.Read.remaining (g.M.Machine.Can told.0) c.args.options c.args.ports lines is told.2)

pub returns-clause-calls : goal.returns-clause-calls
returns-clause-calls g c = c.run_over.ensures.calls (rw (c.requires.sound_input, c.requires.unended) refl)

pub returns-clause-answer : goal.returns-clause-answer
returns-clause-answer g c law start can =
    let lines = c.new-arrivals.result.lines in
    let is : IsNewOne c.args.options c.args.ports lines = rw c.new-arrivals.ensures c.in_ok-read_one.ensures in
    one-by c.args.options c.args.ports lines is arrivals_listed _ _ _ c.run_over.result
    (g.R.Read.remaining c.args.input.now.inner) (g.R.Read.remaining c.run_over.new.input.inner)
    (c.run_over.ensures.answer law start
    (one-can g.R.Read.remaining (g.M.Machine.Can law) c.args.options c.args.ports lines is can))
