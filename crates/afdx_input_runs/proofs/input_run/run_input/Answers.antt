use Rattle.std.proofs.Common.{List, ℕ, take}
use Rattle.afdx_input_lines.specs.Peeking.{held, left_in, looked_at}
use Rattle.afdx_input_sources.specs.Items.{thing_of}
use Rattle.afdx_input_sources.specs.Becoming.{options_of}
use Rattle.afdx_input_sources.specs.Claims.{ports_unsaid}
use Rattle.afdx_input_runs.specs.InputRun.{ReadingAnswers, is_recorded}
use Rattle.afdx_input_runs.proofs.LookLemmas.{looked-asked, looked-kept, unread-answers, unread-few}
use Rattle.afdx_input_runs.proofs.input_run.run_input.Goals as goal

-- the look failed
pub returns-then-look-clause-calls : goal.returns-then-look-clause-calls
returns-then-look-clause-calls g c =
    unread-few c.args.options.are_given (left_in g.R.Read.remaining c.args.input.now.inner)
    (left_in g.R.Read.remaining c.look.new.self.inner) c.args.input.now.calls c.look.new.self.calls
    c.look.ensures.left c.look.ensures.calls

pub returns-then-look-clause-answer : goal.returns-then-look-clause-answer
returns-then-look-clause-answer g c law start can =
    let reading = c.args.reading in
    let kind = g.F.LineForm.kind reading.form in
    let old = g.O.Sink.written c.args.output.now in
    unread-answers kind (thing_of kind g.F.LineForm.says_of) (options_of c.args.options) (ports_unsaid reading.unsaid)
    (g.M.Machine.Done law c.args.machine.now old old) (g.M.Machine.Told law c.args.machine.now old old)
    (g.M.Machine.Begins law c.args.machine.now old old) start
    (λ bytes. is_recorded c.args.options.are_given (take looked_at bytes))
    (left_in g.R.Read.remaining c.args.input.now.inner)
    (left_in g.R.Read.remaining c.look.new.self.inner) c.look.ensures.left

-- or nothing was lost by it
pub returns-clause-calls : goal.returns-clause-calls
returns-clause-calls g c =
    looked-asked c.args.options.are_given (left_in g.R.Read.remaining c.args.input.now.inner)
    (left_in g.R.Read.remaining c.look.new.self.inner) (left_in g.R.Read.remaining c.run_looked.new.input.inner)
    (held c.look.new.self.inner) c.args.input.now.calls c.look.new.self.calls c.run_looked.new.input.calls
    c.look.ensures.left (c.look.ensures.first c.if-look.false) c.look.ensures.calls c.run_looked.ensures.calls

pub returns-clause-answer : goal.returns-clause-answer
returns-clause-answer g c law start can =
    let old = g.O.Sink.written c.args.output.now in
    let new = g.O.Sink.written c.run_looked.new.output in
    let machine = c.run_looked.new.machine in
    let rest = left_in g.R.Read.remaining c.run_looked.new.input.inner in
    looked-kept (left_in g.R.Read.remaining c.args.input.now.inner)
    (left_in g.R.Read.remaining c.look.new.self.inner) (held c.look.new.self.inner)
    (λ (seen : List ℕ) (bytes : List ℕ). ReadingAnswers c.args.options c.args.reading g.F.LineForm.kind
    g.F.LineForm.says_of seen (g.M.Machine.Done law machine old new) (g.M.Machine.Told law machine old new)
    (g.M.Machine.Begins law machine old new) bytes rest c.run_looked.result)
    c.look.ensures.left (c.look.ensures.first c.if-look.false) (c.run_looked.ensures.answer law start can)
