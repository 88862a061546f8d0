use Rattle.std.proofs.Common.{rules, ◌≡◌, refl, Err}
use Rattle.afdx_input_lines.specs.declared.fault.RunFault.TheVariants as run
use Rattle.afdx_input_sources.specs.Claims.{ports_unsaid}
use Rattle.afdx_input_runs.specs.ListText.{lines_themselves}
use Rattle.afdx_input_runs.specs.RecordingRun.{AreCutOffInPair, taken_of_pair}
use Rattle.afdx_input_runs.proofs.NumbersLemmas.{two-took}
use Rattle.afdx_input_runs.proofs.PairAnswerLemmas.{pair-start, pair-unread, two-by}
use Rattle.afdx_input_runs.proofs.RecordingRunLemmas.{unasked}
use Rattle.afdx_input_runs.proofs.numbers.BySideWatchedRunInputPairOptionsNumberLine.tell_all.Goals as goal

-- there was no memory
pub returns-in_err-lines-clause-calls : goal.returns-in_err-lines-clause-calls
returns-in_err-lines-clause-calls g c = (
  unasked (g.R.Read.remaining c.args.self.now.a.inner) c.args.self.now.a.calls,
  unasked (g.R.Read.remaining c.args.self.now.b.inner) c.args.self.now.b.calls,
)

pub returns-in_err-lines-clause-answer : goal.returns-in_err-lines-clause-answer
returns-in_err-lines-clause-answer g c law start can =
    let old = g.O.Sink.written c.args.output.now in
    let done = g.M.Machine.Done law c.args.machine.now old old in
    let told = g.M.Machine.Told law c.args.machine.now old old in
    let begins = g.M.Machine.Begins law c.args.machine.now old old in
    let options = c.args.options in
    let ports = ports_unsaid c.args.reading.unsaid in
    let start_is = c.args.self.now in
    let stop = two-took done told begins (taken_of_pair options ports)
    (λ a b. AreCutOffInPair options ports g.R.Read.remaining a b start_is)
    (g.R.Read.remaining start_is.a.inner) (g.R.Read.remaining start_is.b.inner) (Err run.Memory)
    (pair-unread g.R.Read.remaining start_is options ports lines_themselves done told begins refl start) in
    let e : c.from_residual.result ≡ Err run.Memory = search rules in
    rw e stop

pub run_over-requires-clause-gave : goal.run_over-requires-clause-gave
run_over-requires-clause-gave g c =
    pair-start g.R.Read.remaining c.args.self.now c.in_ok-lines.lines c.args.options
    (ports_unsaid c.args.reading.unsaid) c.requires.new.a.sound c.requires.new.b.sound c.requires.new.a.unended
    c.requires.new.b.unended c.in_ok-lines.ensures

pub run_over-requires-clause-set : goal.run_over-requires-clause-set
run_over-requires-clause-set g c =
    record { order_a = c.in_ok-lines.ensures.order_a; order_b = c.in_ok-lines.ensures.order_b }

pub run_over-requires-clause-told : goal.run_over-requires-clause-told
run_over-requires-clause-told g c =
    let told = c.requires.told in (told.0, told.1, λ item any. told.2 item tt)

pub returns-clause-calls : goal.returns-clause-calls
returns-clause-calls g c = (
  c.run_over.ensures.calls.0 (rw (c.requires.new.a.sound, c.requires.new.a.unended) refl),
  c.run_over.ensures.calls.1 (rw (c.requires.new.b.sound, c.requires.new.b.unended) refl),
)

pub returns-clause-answer : goal.returns-clause-answer
returns-clause-answer g c law start can =
    let old = g.O.Sink.written c.args.output.now in
    let new = g.O.Sink.written c.run_over.new.output in
    let done = g.M.Machine.Done law c.run_over.new.machine old new in
    let told = g.M.Machine.Told law c.run_over.new.machine old new in
    let begins = g.M.Machine.Begins law c.run_over.new.machine old new in
    let options = c.args.options in
    let ports = ports_unsaid c.args.reading.unsaid in
    let first = c.args.self.now in
    let last = c.run_over.new.input in
    two-took done told begins (taken_of_pair options ports)
    (λ a b. AreCutOffInPair options ports g.R.Read.remaining a b last)
    (g.R.Read.remaining first.a.inner) (g.R.Read.remaining first.b.inner) c.run_over.result
    (two-by options ports c.in_ok-lines.lines c.in_ok-lines.ensures lines_themselves done told begins
    c.run_over.result g.R.Read.remaining first last (c.run_over.ensures.answer law start (λ item any. can item tt)))
