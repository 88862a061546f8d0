use Rattle.std.proofs.Common.{rules, ◌≡◌, Ok, Err}
use Rattle.afdx_input_lines.specs.Watching.{device_of}
use Rattle.afdx_input_runs.proofs.SeenTookLemmas.{lists-took}
use Rattle.afdx_input_runs.proofs.seen_frames.ByRoleWatchedRunInputAsListsSeen.tell_all.Goals as goal

pub run_two_lists-requires-clause-told : goal.run_two_lists-requires-clause-told
run_two_lists-requires-clause-told g c =
    let told = c.requires.told in (told.0, told.1, λ item. told.2 item tt)

pub returns-in_err-lines-clause-answer : goal.returns-in_err-lines-clause-answer
returns-in_err-lines-clause-answer g c law start can =
    let old = g.O.Sink.written c.args.output.now in
    let new = g.O.Sink.written c.run_two_lists.new.output in
    let machine = c.run_two_lists.new.machine in
    let h = lists-took (g.M.Machine.Done law machine old new) (g.M.Machine.Told law machine old new)
    (g.M.Machine.Begins law machine old new) g.R.Read.remaining c.run_two_lists.new.inputs
    (g.R.Read.remaining (device_of c.args.self.now.came)) (g.R.Read.remaining (device_of c.args.self.now.left))
    (Err c.in_err-lines.field-0.0) (c.in_err-lines.ensures.answer law start (λ item. can item tt)) in
    let e : c.from_residual.result ≡ Err c.in_err-lines.field-0.0 = search rules in
    rw e h

pub returns-clause-answer : goal.returns-clause-answer
returns-clause-answer g c law start can =
    let old = g.O.Sink.written c.args.output.now in
    let new = g.O.Sink.written c.run_two_lists.new.output in
    let machine = c.run_two_lists.new.machine in
    lists-took (g.M.Machine.Done law machine old new) (g.M.Machine.Told law machine old new)
    (g.M.Machine.Begins law machine old new) g.R.Read.remaining c.run_two_lists.new.inputs
    (g.R.Read.remaining (device_of c.args.self.now.came)) (g.R.Read.remaining (device_of c.args.self.now.left))
    (Ok c.in_ok-lines.lines) (c.in_ok-lines.ensures.answer law start (λ item. can item tt))
