use Rattle.std.proofs.Common.{rules, ◌≡◌, refl, Err}
use Rattle.afdx_input_lines.specs.declared.fault.RunFault.TheVariants as run
use Rattle.afdx_input_sources.specs.Becoming.{options_of}
use Rattle.afdx_input_sources.specs.Claims.{ports_of, ports_unsaid}
use Rattle.afdx_input_runs.specs.ListText.{lines_themselves}
use Rattle.afdx_input_runs.proofs.InputLemmas.{seen-agree}
use Rattle.afdx_input_runs.proofs.NumbersLemmas.{one-took}
use Rattle.afdx_input_runs.proofs.RecordingRunLemmas.{answers-start, one-by, one-set, timed-start, unasked}
use Rattle.afdx_input_runs.proofs.numbers.WatchedRunInputRecordingOptionsNumberLine.tell_all.Goals as goal

-- there was no memory
pub returns-in_err-ports-clause-calls : goal.returns-in_err-ports-clause-calls
returns-in_err-ports-clause-calls g c = unasked (g.R.Read.remaining c.args.self.now.inner) c.args.self.now.calls

pub returns-in_err-ports-clause-answer : goal.returns-in_err-ports-clause-answer
returns-in_err-ports-clause-answer g c law start can =
    let old = g.O.Sink.written c.args.output.now in
    let done = g.M.Machine.Done law c.args.machine.now old old in
    let told = g.M.Machine.Told law c.args.machine.now old old in
    let begins = g.M.Machine.Begins law c.args.machine.now old old in
    let left = g.R.Read.remaining c.args.self.now.inner in
    let options = options_of c.args.options in
    let ports = ports_unsaid c.args.reading.unsaid in
    let stop = one-took done told begins options ports left left (Err run.Memory)
    (answers-start options ports lines_themselves done told begins left left refl start) in
    let e : c.from_residual.result ≡ Err run.Memory = search rules in
    rw e stop

pub returns-in_err-lines-clause-calls : goal.returns-in_err-lines-clause-calls
returns-in_err-lines-clause-calls g c = unasked (g.R.Read.remaining c.args.self.now.inner) c.args.self.now.calls

pub returns-in_err-lines-clause-answer : goal.returns-in_err-lines-clause-answer
returns-in_err-lines-clause-answer g c law start can =
    let old = g.O.Sink.written c.args.output.now in
    let done = g.M.Machine.Done law c.args.machine.now old old in
    let told = g.M.Machine.Told law c.args.machine.now old old in
    let begins = g.M.Machine.Begins law c.args.machine.now old old in
    let left = g.R.Read.remaining c.args.self.now.inner in
    let options = options_of c.args.options in
    let ports = ports_unsaid c.args.reading.unsaid in
    let stop = one-took done told begins options ports left left (Err run.Memory)
    (answers-start options ports lines_themselves done told begins left left refl start) in
    let e : c.from_residual-in_err-lines.result ≡ Err run.Memory = search rules in
    rw e stop

pub run_over-requires-clause-gave : goal.run_over-requires-clause-gave
run_over-requires-clause-gave g c =
    timed-start c.args.options c.in_ok-ports.ports c.in_ok-lines.lines c.in_ok-lines.ensures
    g.R.Read.remaining c.args.self.now c.requires.new.sound c.requires.new.unended

pub run_over-requires-clause-set : goal.run_over-requires-clause-set
run_over-requires-clause-set g c =
    one-set c.args.options c.in_ok-ports.ports c.in_ok-lines.lines c.in_ok-lines.ensures

pub run_over-requires-clause-told : goal.run_over-requires-clause-told
run_over-requires-clause-told g c =
    let told = c.requires.told in (told.0, told.1, λ item any. told.2 item tt)

pub returns-clause-calls : goal.returns-clause-calls
returns-clause-calls g c = c.run_over.ensures.calls (rw (c.requires.new.sound, c.requires.new.unended) refl)

pub returns-clause-answer : goal.returns-clause-answer
returns-clause-answer g c law start can =
    let old = g.O.Sink.written c.args.output.now in
    let new = g.O.Sink.written c.run_over.new.output in
    let done = g.M.Machine.Done law c.run_over.new.machine old new in
    let told = g.M.Machine.Told law c.run_over.new.machine old new in
    let begins = g.M.Machine.Begins law c.run_over.new.machine old new in
    let left = g.R.Read.remaining c.args.self.now.inner in
    let rest = g.R.Read.remaining c.run_over.new.input.inner in
    let options = options_of c.args.options in
    one-took done told begins options (ports_unsaid c.args.reading.unsaid) left rest c.run_over.result
    (seen-agree options (ports_of c.in_ok-ports.ports) (ports_unsaid c.args.reading.unsaid) c.in_ok-ports.ensures
    lines_themselves done told begins left rest c.run_over.result
    (one-by c.args.options c.in_ok-ports.ports c.in_ok-lines.lines c.in_ok-lines.ensures lines_themselves
    done told begins c.run_over.result left rest (c.run_over.ensures.answer law start (λ item any. can item tt))))
