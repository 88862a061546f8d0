use Rattle.std.proofs.Common.{rules, ◌≡◌, Ok, Err}
use Rattle.afdx_input_lines.specs.Watching.{device_of}
use Rattle.afdx_input_sources.specs.Claims.{ports_unsaid}
use Rattle.afdx_input_runs.specs.Over.{both}
use Rattle.afdx_input_runs.proofs.SeenTookLemmas.{two-took}
use Rattle.afdx_input_runs.proofs.seen_frames.ByRoleWatchedRunInputByRoleRecordingOptionsSeen.tell_all.Goals as goal

pub run_seen_by_role-requires-clause-told : goal.run_seen_by_role-requires-clause-told
run_seen_by_role-requires-clause-told g c =
    let told = c.requires.told in (told.0, told.1, λ item. told.2 item tt)

pub returns-in_err-tallies-clause-answer : goal.returns-in_err-tallies-clause-answer
returns-in_err-tallies-clause-answer g c law start can =
    let old = g.O.Sink.written c.args.output.now in
    let new = g.O.Sink.written c.run_seen_by_role.new.output in
    let machine = c.run_seen_by_role.new.machine in
    let h = two-took (g.M.Machine.Done law machine old new) (g.M.Machine.Told law machine old new)
    (g.M.Machine.Begins law machine old new) g.R.Read.remaining c.args.options (ports_unsaid c.args.reading.unsaid)
    c.run_seen_by_role.new.inputs (both (g.R.Read.remaining (device_of c.args.self.now.came))
    (g.R.Read.remaining (device_of c.args.self.now.left)))
    (Err c.in_err-tallies.field-0.0) (c.in_err-tallies.ensures.answer law start (λ item. can item tt)) in
    let e : c.from_residual.result ≡ Err c.in_err-tallies.field-0.0 = search rules in
    rw e h

pub returns-clause-answer : goal.returns-clause-answer
returns-clause-answer g c law start can =
    let old = g.O.Sink.written c.args.output.now in
    let new = g.O.Sink.written c.run_seen_by_role.new.output in
    let machine = c.run_seen_by_role.new.machine in
    two-took (g.M.Machine.Done law machine old new) (g.M.Machine.Told law machine old new)
    (g.M.Machine.Begins law machine old new) g.R.Read.remaining c.args.options (ports_unsaid c.args.reading.unsaid)
    c.run_seen_by_role.new.inputs (both (g.R.Read.remaining (device_of c.args.self.now.came))
    (g.R.Read.remaining (device_of c.args.self.now.left)))
    (Ok c.in_ok-tallies.tallies) (c.in_ok-tallies.ensures.answer law start (λ item. can item tt))
