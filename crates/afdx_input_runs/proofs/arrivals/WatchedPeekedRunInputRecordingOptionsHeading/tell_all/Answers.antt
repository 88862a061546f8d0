use Rattle.std.proofs.Common.{take}
use Rattle.afdx_input_lines.specs.Peeking.{left_in, looked_at}
use Rattle.afdx_input_sources.specs.Becoming.{options_of}
use Rattle.afdx_input_sources.specs.Claims.{ports_unsaid}
use Rattle.afdx_input_sources.specs.Items.{thing_of}
use Rattle.afdx_input_runs.specs.InputRun.{is_recorded}
use Rattle.afdx_input_runs.proofs.TookLemmas.{one-took}
use Rattle.afdx_input_runs.proofs.arrivals.WatchedPeekedRunInputRecordingOptionsHeading.tell_all.Goals as goal

pub returns-clause-answer : goal.returns-clause-answer
returns-clause-answer g c rules start can =
    let old = g.O.Sink.written c.args.output.now in
    let new = g.O.Sink.written c.run_input.new.output in
    let machine = c.run_input.new.machine in
    let reading = c.args.reading in
    let kind = g.F.LineForm.kind reading.form in
    one-took kind (thing_of kind g.F.LineForm.says_of) (g.M.Machine.Done rules machine old new)
    (g.M.Machine.Told rules machine old new) (g.M.Machine.Begins rules machine old new)
    (options_of c.args.options) (ports_unsaid reading.unsaid)
    (λ bytes. is_recorded c.args.options.are_given (take looked_at bytes))
    (left_in g.R.Read.remaining c.args.self.now.inner)
    (left_in g.R.Read.remaining c.run_input.new.input.inner) c.run_input.result
    (c.run_input.ensures.answer rules start can)
