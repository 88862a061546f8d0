use Rattle.std.proofs.Common.{rules, ◌≡◌, Err}
use Rattle.afdx_input_lines.specs.declared.fault.RunFault.TheVariants as run
use Rattle.afdx_input_sources.specs.Claims.{ports_unsaid}
use Rattle.afdx_input_runs.specs.Over.{both}
use Rattle.afdx_input_runs.proofs.RecordingRunLemmas.{unasked}
use Rattle.afdx_input_runs.proofs.SeenRunLemmas.{roles-start}
use Rattle.afdx_input_runs.proofs.seen_run.run_seen_by_role.Goals as goal

-- there was no memory
pub returns-in_err-read_by_role-clause-calls_came : goal.returns-in_err-read_by_role-clause-calls_came
returns-in_err-read_by_role-clause-calls_came g c =
    unasked (g.R.Read.remaining c.args.inputs.now.came.inner) c.args.inputs.now.came.calls

pub returns-in_err-read_by_role-clause-calls_left : goal.returns-in_err-read_by_role-clause-calls_left
returns-in_err-read_by_role-clause-calls_left g c =
    unasked (g.R.Read.remaining c.args.inputs.now.left.inner) c.args.inputs.now.left.calls

pub returns-in_err-read_by_role-clause-answer : goal.returns-in_err-read_by_role-clause-answer
returns-in_err-read_by_role-clause-answer g c law start can =
    let old = g.O.Sink.written c.args.output.now in
    let stop = roles-start c.args.options (ports_unsaid c.args.unsaid) g.R.Read.remaining c.args.inputs.now
    (both (g.R.Read.remaining c.args.inputs.now.came.inner) (g.R.Read.remaining c.args.inputs.now.left.inner))
    (g.M.Machine.Done law c.args.machine.now old old)
    (g.M.Machine.Told law c.args.machine.now old old) (g.M.Machine.Begins law c.args.machine.now old old) start in
    let e : c.from_residual.result ≡ Err run.Memory = search rules in
    rw e stop

pub tell_by_role-requires-clause-new : goal.tell_by_role-requires-clause-new
tell_by_role-requires-clause-new g c =
    (c.args.options, ports_unsaid c.args.unsaid, rw c.new-frames.ensures c.in_ok-read_by_role.ensures)

pub returns-clause-answer : goal.returns-clause-answer
returns-clause-answer g c law start can =
    c.tell_by_role.ensures.answer c.args.options (ports_unsaid c.args.unsaid)
    (rw c.new-frames.ensures c.in_ok-read_by_role.ensures) law start can
