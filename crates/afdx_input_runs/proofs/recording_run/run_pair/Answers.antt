use Rattle.std.proofs.Common.{rules, ◌≡◌, refl, sym, [], Err}
use Rattle.afdx_input_lines.specs.declared.fault.RunFault.TheVariants as run
use Rattle.afdx_input_sources.specs.Claims.{ports_unsaid}
use Rattle.afdx_input_sources.specs.NumberLines.{arrivals_listed}
use Rattle.afdx_input_runs.specs.ReadPair.{IsNewPair}
use Rattle.afdx_input_runs.proofs.EnteringLemmas.{two-can}
use Rattle.afdx_input_runs.proofs.PairAnswerLemmas.{pair-start, pair-unread, two-by}
use Rattle.afdx_input_runs.proofs.RecordingRunLemmas.{listed-none, unasked}
use Rattle.afdx_input_runs.proofs.recording_run.run_pair.Goals as goal

pub returns-in_err-read_pair-clause-calls_a : goal.returns-in_err-read_pair-clause-calls_a
returns-in_err-read_pair-clause-calls_a g c =
    unasked (g.R.Read.remaining c.args.inputs.now.a.inner) c.args.inputs.now.a.calls

pub returns-in_err-read_pair-clause-calls_b : goal.returns-in_err-read_pair-clause-calls_b
returns-in_err-read_pair-clause-calls_b g c =
    unasked (g.R.Read.remaining c.args.inputs.now.b.inner) c.args.inputs.now.b.calls

-- there was no memory
pub returns-in_err-read_pair-clause-answer : goal.returns-in_err-read_pair-clause-answer
returns-in_err-read_pair-clause-answer g c law start can =
    let old = g.O.Sink.written c.args.output.now in
    let stop = pair-unread g.R.Read.remaining c.args.inputs.now c.args.options (ports_unsaid c.args.unsaid)
    arrivals_listed (g.M.Machine.Done law c.args.machine.now old old)
    (g.M.Machine.Told law c.args.machine.now old old) (g.M.Machine.Begins law c.args.machine.now old old)
    listed-none start in
    let e : c.from_residual.result ≡ Err run.Memory = search rules in
    rw e stop

pub run_over-requires-clause-gave : goal.run_over-requires-clause-gave
run_over-requires-clause-gave g c =
    rw c.new-arrivals.ensures (record {
      lines = [];
      known_so = pair-start g.R.Read.remaining c.args.inputs.now c.in_ok-read_pair.field-0 c.args.options
          (ports_unsaid c.args.unsaid) c.requires.sound_a c.requires.sound_b c.requires.unended_a
          c.requires.unended_b c.in_ok-read_pair.ensures;
      items_are = sym listed-none;
    })

pub run_over-requires-clause-set : goal.run_over-requires-clause-set
run_over-requires-clause-set g c =
    rw c.new-arrivals.ensures (record {
      order_a = c.in_ok-read_pair.ensures.order_a;
      order_b = c.in_ok-read_pair.ensures.order_b;
    })

pub run_over-requires-clause-told : goal.run_over-requires-clause-told
run_over-requires-clause-told g c =
    let told = c.requires.told in
    let ports = ports_unsaid c.args.unsaid in
    let lines = c.new-arrivals.result.lines in
    let is : IsNewPair c.args.options ports lines = rw c.new-arrivals.ensures c.in_ok-read_pair.ensures in
    (told.0, told.1, two-can g.R.Read.remaining (g.M.Machine.Can told.0) c.args.options ports lines is told.2)

pub returns-clause-calls_a : goal.returns-clause-calls_a
returns-clause-calls_a g c = c.run_over.ensures.calls.0 (rw (c.requires.sound_a, c.requires.unended_a) refl)

pub returns-clause-calls_b : goal.returns-clause-calls_b
returns-clause-calls_b g c = c.run_over.ensures.calls.1 (rw (c.requires.sound_b, c.requires.unended_b) refl)

pub returns-clause-answer : goal.returns-clause-answer
returns-clause-answer g c law start can =
    let ports = ports_unsaid c.args.unsaid in
    let lines = c.new-arrivals.result.lines in
    let is : IsNewPair c.args.options ports lines = rw c.new-arrivals.ensures c.in_ok-read_pair.ensures in
    two-by c.args.options ports lines is arrivals_listed _ _ _ c.run_over.result
    g.R.Read.remaining c.args.inputs.now c.run_over.new.input (c.run_over.ensures.answer law start
    (two-can g.R.Read.remaining (g.M.Machine.Can law) c.args.options ports lines is can))
