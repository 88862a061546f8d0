use Rattle.std.proofs.Common.{rules, refl, sym, []}
use Rattle.afdx_input_sources.specs.Becoming.{options_of}
use Rattle.afdx_input_sources.specs.Claims.{ports_of, ports_unsaid}
use Rattle.afdx_input_runs.specs.ReadPair.{IsNewOne}
use Rattle.afdx_input_runs.specs.SeenLines.{seen_listed}
use Rattle.afdx_input_runs.proofs.InputLemmas.{seen-agree}
use Rattle.afdx_input_runs.proofs.RecordingRunLemmas.{answers-start, one-by, one-set, timed-start, unasked}
use Rattle.afdx_input_runs.proofs.SeeingLemmas.{seen-none}
use Rattle.afdx_input_runs.proofs.seen_run.run_seen.Goals as goal

-- there was no memory
pub returns-in_err-ports-clause-calls : goal.returns-in_err-ports-clause-calls
returns-in_err-ports-clause-calls g c = unasked (g.R.Read.remaining c.args.input.now.inner) c.args.input.now.calls

pub returns-in_err-ports-clause-answer : goal.returns-in_err-ports-clause-answer
returns-in_err-ports-clause-answer g c law start can =
    let old = g.O.Sink.written c.args.output.now in
    let stop = answers-start (options_of c.args.options) (ports_unsaid c.args.unsaid) seen_listed
    (g.M.Machine.Done law c.args.machine.now old old) (g.M.Machine.Told law c.args.machine.now old old)
    (g.M.Machine.Begins law c.args.machine.now old old)
    (g.R.Read.remaining c.args.input.now.inner) (g.R.Read.remaining c.args.input.now.inner) seen-none start in
    search rules

pub returns-in_err-read_one-clause-calls : goal.returns-in_err-read_one-clause-calls
returns-in_err-read_one-clause-calls g c = unasked (g.R.Read.remaining c.args.input.now.inner) c.args.input.now.calls

pub returns-in_err-read_one-clause-answer : goal.returns-in_err-read_one-clause-answer
returns-in_err-read_one-clause-answer g c law start can =
    let old = g.O.Sink.written c.args.output.now in
    let stop = answers-start (options_of c.args.options) (ports_unsaid c.args.unsaid) seen_listed
    (g.M.Machine.Done law c.args.machine.now old old) (g.M.Machine.Told law c.args.machine.now old old)
    (g.M.Machine.Begins law c.args.machine.now old old)
    (g.R.Read.remaining c.args.input.now.inner) (g.R.Read.remaining c.args.input.now.inner) seen-none start in
    search rules

pub run_over-requires-clause-gave : goal.run_over-requires-clause-gave
run_over-requires-clause-gave g c = record {
  lines = [];
  known_so = rw c.new-frames.ensures (timed-start c.args.options c.in_ok-ports.ports
      c.in_ok-read_one.field-0 c.in_ok-read_one.ensures
      g.R.Read.remaining c.args.input.now c.requires.sound_input c.requires.unended);
  items_are = sym seen-none;
}

pub run_over-requires-clause-set : goal.run_over-requires-clause-set
run_over-requires-clause-set g c =
    rw c.new-frames.ensures
    (one-set c.args.options c.in_ok-ports.ports c.in_ok-read_one.field-0 c.in_ok-read_one.ensures)

pub run_over-requires-clause-told : goal.run_over-requires-clause-told
run_over-requires-clause-told g c =
    let told = c.requires.told in (told.0, told.1, λ item any. told.2 item)

pub returns-clause-calls : goal.returns-clause-calls
returns-clause-calls g c = c.run_over.ensures.calls (rw (c.requires.sound_input, c.requires.unended) refl)

pub returns-clause-answer : goal.returns-clause-answer
returns-clause-answer g c law start can =
    let old = g.O.Sink.written c.args.output.now in
    let new = g.O.Sink.written c.run_over.new.output in
    let machine = c.run_over.new.machine in
    let lines = c.new-frames.result.lines in
    let is : IsNewOne c.args.options c.in_ok-ports.ports lines = rw c.new-frames.ensures c.in_ok-read_one.ensures in
    seen-agree (options_of c.args.options) (ports_of c.in_ok-ports.ports) (ports_unsaid c.args.unsaid)
    c.in_ok-ports.ensures seen_listed (g.M.Machine.Done law machine old new) (g.M.Machine.Told law machine old new)
    (g.M.Machine.Begins law machine old new) (g.R.Read.remaining c.args.input.now.inner)
    (g.R.Read.remaining c.run_over.new.input.inner) c.run_over.result
    (one-by c.args.options c.in_ok-ports.ports lines is seen_listed _ _ _ c.run_over.result
    (g.R.Read.remaining c.args.input.now.inner) (g.R.Read.remaining c.run_over.new.input.inner)
    (c.run_over.ensures.answer law start (λ item any. can item)))
