use Rattle.std.proofs.Common.{rules, ◌≡◌, true, inl, inr, Err}
use Rattle.afdx_input_lines.specs.Peeking.{held, left_in}
use Rattle.afdx_input_sources.specs.Items.{thing_of}
use Rattle.afdx_input_sources.specs.Becoming.{options_of}
use Rattle.afdx_input_sources.specs.Claims.{ports_unsaid}
use Rattle.afdx_input_runs.specs.InputRun.{is_recorded}
use Rattle.afdx_input_runs.proofs.TookLemmas.{as-recorded}
use Rattle.afdx_input_runs.proofs.input_run.run_looked.Goals as goal

-- a recording
pub run_recorded-requires-clause-told : goal.run_recorded-requires-clause-told
run_recorded-requires-clause-told g c =
    let told = c.requires.told in (told.0, told.1, λ item entered. told.2 item (inr entered))

pub returns-in_err-tally-clause-answer : goal.returns-in_err-tally-clause-answer
returns-in_err-tally-clause-answer g c law start can =
    let reading = c.args.reading in
    let kind = g.F.LineForm.kind reading.form in
    let old = g.O.Sink.written c.args.output.now in
    let new = g.O.Sink.written c.run_recorded.new.output in
    let machine = c.run_recorded.new.machine in
    let is : is_recorded c.args.options.are_given (held c.args.input.now.inner) ≡ true = search rules in
    let h = as-recorded kind (thing_of kind g.F.LineForm.says_of) (options_of c.args.options)
    (ports_unsaid reading.unsaid) (g.M.Machine.Done law machine old new) (g.M.Machine.Told law machine old new)
    (g.M.Machine.Begins law machine old new) (is_recorded c.args.options.are_given (held c.args.input.now.inner))
    (left_in g.R.Read.remaining c.args.input.now.inner) (left_in g.R.Read.remaining c.run_recorded.new.input.inner)
    (Err c.in_err-tally.field-0.0) is
    (c.in_err-tally.ensures.answer law start (λ item entered. can item (inr entered))) in
    let e : c.from_residual.result ≡ Err c.in_err-tally.field-0.0 = search rules in
    rw e h

-- or a list
pub run_list-requires-clause-told : goal.run_list-requires-clause-told
run_list-requires-clause-told g c =
    let told = c.requires.told in (told.0, told.1, λ item said. told.2 item (inl said))
