use Rattle.std.proofs.Common.{rules, Ok, Err}
use Rattle.afdx_input_lines.specs.Watching.{device_of}
use Rattle.afdx_input_sources.specs.Claims.{ports_unsaid}
use Rattle.afdx_input_runs.proofs.SeenTookLemmas.{one-took}
use Rattle.afdx_input_runs.proofs.seen_frames.WatchedRunInputRecordingOptionsSeen.tell_all.Goals as goal

pub run_seen-requires-clause-told : goal.run_seen-requires-clause-told
run_seen-requires-clause-told g c =
    let told = c.requires.told in (told.0, told.1, λ item. told.2 item tt)

pub returns-in_err-tally-clause-answer : goal.returns-in_err-tally-clause-answer
returns-in_err-tally-clause-answer g c law start can =
    let old = g.O.Sink.written c.args.output.now in
    let new = g.O.Sink.written c.run_seen.new.output in
    let machine = c.run_seen.new.machine in
    let h = one-took (g.M.Machine.Done law machine old new) (g.M.Machine.Told law machine old new)
    (g.M.Machine.Begins law machine old new) g.R.Read.remaining c.args.options (ports_unsaid c.args.reading.unsaid)
    c.run_seen.new.input (g.R.Read.remaining (device_of c.args.self.now))
    (Err c.in_err-tally.field-0.0) (c.in_err-tally.ensures.answer law start (λ item. can item tt)) in
    search rules

pub returns-clause-answer : goal.returns-clause-answer
returns-clause-answer g c law start can =
    let old = g.O.Sink.written c.args.output.now in
    let new = g.O.Sink.written c.run_seen.new.output in
    let machine = c.run_seen.new.machine in
    one-took (g.M.Machine.Done law machine old new) (g.M.Machine.Told law machine old new)
    (g.M.Machine.Begins law machine old new) g.R.Read.remaining c.args.options (ports_unsaid c.args.reading.unsaid)
    c.run_seen.new.input (g.R.Read.remaining (device_of c.args.self.now))
    (Ok c.in_ok-tally.tally) (c.in_ok-tally.ensures.answer law start (λ item. can item tt))
