use Rattle.std.proofs.Common.{rules, ◌≡◌, inr, Ok, Err}
use Rattle.afdx_input_lines.specs.Watching.{device_of}
use Rattle.afdx_input_sources.specs.Claims.{ports_unsaid}
use Rattle.afdx_input_runs.specs.RecordingRun.{AreCutOffInPair, taken_of_pair}
use Rattle.afdx_input_runs.proofs.TookLemmas.{two-took}
use Rattle.afdx_input_runs.proofs.arrivals.BySideWatchedRunInputPairOptionsHeading.tell_all.Goals as goal

pub run_pair-requires-clause-told : goal.run_pair-requires-clause-told
run_pair-requires-clause-told g c =
    let told = c.requires.told in (told.0, told.1, λ item entered. told.2 item (inr entered))

pub returns-in_err-tally-clause-answer : goal.returns-in_err-tally-clause-answer
returns-in_err-tally-clause-answer g c law start can =
    let old = g.O.Sink.written c.args.output.now in
    let new = g.O.Sink.written c.run_pair.new.output in
    let machine = c.run_pair.new.machine in
    let ports = ports_unsaid c.args.reading.unsaid in
    let h = two-took (g.M.Machine.Done law machine old new) (g.M.Machine.Told law machine old new)
    (g.M.Machine.Begins law machine old new) (taken_of_pair c.args.options ports)
    (λ a b. AreCutOffInPair c.args.options ports g.R.Read.remaining a b c.run_pair.new.inputs)
    (g.R.Read.remaining (device_of c.args.self.now.a)) (g.R.Read.remaining (device_of c.args.self.now.b))
    (Err c.in_err-tally.field-0.0) (c.in_err-tally.ensures.answer law start (λ item entered. can item (inr entered))) in
    let e : c.from_residual.result ≡ Err c.in_err-tally.field-0.0 = search rules in
    rw e h

pub returns-clause-answer : goal.returns-clause-answer
returns-clause-answer g c law start can =
    let old = g.O.Sink.written c.args.output.now in
    let new = g.O.Sink.written c.run_pair.new.output in
    let machine = c.run_pair.new.machine in
    let ports = ports_unsaid c.args.reading.unsaid in
    two-took (g.M.Machine.Done law machine old new) (g.M.Machine.Told law machine old new)
    (g.M.Machine.Begins law machine old new) (taken_of_pair c.args.options ports)
    (λ a b. AreCutOffInPair c.args.options ports g.R.Read.remaining a b c.run_pair.new.inputs)
    (g.R.Read.remaining (device_of c.args.self.now.a)) (g.R.Read.remaining (device_of c.args.self.now.b))
    (Ok c.in_ok-tally.tally) (c.in_ok-tally.ensures.answer law start (λ item entered. can item (inr entered)))
