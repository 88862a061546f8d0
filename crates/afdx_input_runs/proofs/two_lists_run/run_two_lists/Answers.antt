use Rattle.std.proofs.Common.{rules, ◌≡◌, Err}
use Rattle.afdx_input_lines.specs.declared.fault.RunFault.TheVariants as run
use Rattle.afdx_input_sources.specs.ListSource.{IsUnread}
use Rattle.afdx_input_runs.proofs.BothAskedLemmas.{err-asked, ok-asked, ok-ended, start-joined}
use Rattle.afdx_input_runs.proofs.TwoListsRunLemmas.{err-answers, memory-answer, ok-answers}
use Rattle.afdx_input_runs.proofs.two_lists_run.run_two_lists.Goals as goal

-- there was no memory
pub returns-in_err-came-clause-answer : goal.returns-in_err-came-clause-answer
returns-in_err-came-clause-answer g c law start can =
    let old = g.O.Sink.written c.args.output.now in
    let stop = memory-answer g.R.Read.remaining c.args.inputs.now (g.M.Machine.Done law c.args.machine.now old old)
    (g.M.Machine.Told law c.args.machine.now old old) (g.M.Machine.Begins law c.args.machine.now old old) start in
    let e : c.from_residual.result ≡ Err run.Memory = search rules in
    rw e stop

pub returns-in_err-left-clause-answer : goal.returns-in_err-left-clause-answer
returns-in_err-left-clause-answer g c law start can =
    let old = g.O.Sink.written c.args.output.now in
    let stop = memory-answer g.R.Read.remaining c.args.inputs.now (g.M.Machine.Done law c.args.machine.now old old)
    (g.M.Machine.Told law c.args.machine.now old old) (g.M.Machine.Begins law c.args.machine.now old old) start in
    let e : c.from_residual-in_err-left.result ≡ Err run.Memory = search rules in
    rw e stop

pub drive-requires-clause-gave : goal.drive-requires-clause-gave
drive-requires-clause-gave g c =
    let lists = c.new-lists.result in
    let came : IsUnread lists.both.first.source.reader lists.both.first.source.head.time =
    rw c.new-lists.ensures.came c.in_ok-came.ensures.unread in
    let left : IsUnread lists.both.second.source.reader lists.both.second.source.head.time =
    rw c.new-lists.ensures.left c.in_ok-left.ensures.unread in
    start-joined g.R.Read.remaining c.args.inputs.now lists c.new-lists.ensures.head_came c.new-lists.ensures.head_left
    came left c.requires.sound_came c.requires.sound_left c.requires.unended_came c.requires.unended_left

pub returns-in_err-drive-clause-read : goal.returns-in_err-drive-clause-read
returns-in_err-drive-clause-read g c =
    let told = c.requires.told in
    let old = g.O.Sink.written c.args.output.now in
    let new = g.O.Sink.written c.drive.new.output in
    let asked = err-asked g.R.Read.remaining c.args.inputs.now c.drive.new.input c.drive.new.source
    (g.M.Machine.Done told.0 c.drive.new.machine old new) (g.M.Machine.Told told.0 c.drive.new.machine old new)
    (g.M.Machine.Begins told.0 c.drive.new.machine old new) c.in_err-drive.field-0.0
    (c.in_err-drive.ensures.answer told.0 told.1 (λ item any. told.2 item)) in
    let e : c.from_residual-in_err-drive.result ≡ Err c.in_err-drive.field-0.0 = search rules in
    rw e asked.failed_is

pub returns-in_err-drive-clause-calls_came : goal.returns-in_err-drive-clause-calls_came
returns-in_err-drive-clause-calls_came g c =
    let told = c.requires.told in
    let old = g.O.Sink.written c.args.output.now in
    let new = g.O.Sink.written c.drive.new.output in
    let asked = err-asked g.R.Read.remaining c.args.inputs.now c.drive.new.input c.drive.new.source
    (g.M.Machine.Done told.0 c.drive.new.machine old new) (g.M.Machine.Told told.0 c.drive.new.machine old new)
    (g.M.Machine.Begins told.0 c.drive.new.machine old new) c.in_err-drive.field-0.0
    (c.in_err-drive.ensures.answer told.0 told.1 (λ item any. told.2 item)) in
    asked.calls_came

pub returns-in_err-drive-clause-calls_left : goal.returns-in_err-drive-clause-calls_left
returns-in_err-drive-clause-calls_left g c =
    let told = c.requires.told in
    let old = g.O.Sink.written c.args.output.now in
    let new = g.O.Sink.written c.drive.new.output in
    let asked = err-asked g.R.Read.remaining c.args.inputs.now c.drive.new.input c.drive.new.source
    (g.M.Machine.Done told.0 c.drive.new.machine old new) (g.M.Machine.Told told.0 c.drive.new.machine old new)
    (g.M.Machine.Begins told.0 c.drive.new.machine old new) c.in_err-drive.field-0.0
    (c.in_err-drive.ensures.answer told.0 told.1 (λ item any. told.2 item)) in
    asked.calls_left

pub returns-in_err-drive-clause-answer : goal.returns-in_err-drive-clause-answer
returns-in_err-drive-clause-answer g c law start can =
    let old = g.O.Sink.written c.args.output.now in
    let new = g.O.Sink.written c.drive.new.output in
    let e : c.from_residual-in_err-drive.result ≡ Err c.in_err-drive.field-0.0 = search rules in
    rw e (err-answers g.R.Read.remaining c.args.inputs.now c.drive.new.input c.drive.new.source
    (g.M.Machine.Done law c.drive.new.machine old new) (g.M.Machine.Told law c.drive.new.machine old new)
    (g.M.Machine.Begins law c.drive.new.machine old new) c.in_err-drive.field-0.0
    (c.in_err-drive.ensures.answer law start (λ item any. can item)))

pub returns-clause-answer : goal.returns-clause-answer
returns-clause-answer g c law start can =
    let old = g.O.Sink.written c.args.output.now in
    let new = g.O.Sink.written c.drive.new.output in
    ok-answers g.R.Read.remaining c.args.inputs.now c.drive.new.input c.drive.new.source
    (g.M.Machine.Done law c.drive.new.machine old new) (g.M.Machine.Told law c.drive.new.machine old new)
    (g.M.Machine.Begins law c.drive.new.machine old new) (record { came = c.lines.result; left = c.lines-2.result })
    c.lines.ensures c.lines-2.ensures (c.in_ok-drive.ensures.answer law start (λ item any. can item))

pub returns-clause-read : goal.returns-clause-read
returns-clause-read g c =
    let told = c.requires.told in
    let old = g.O.Sink.written c.args.output.now in
    let new = g.O.Sink.written c.drive.new.output in
    let asked = ok-asked g.R.Read.remaining c.args.inputs.now c.drive.new.input c.drive.new.source
    (g.M.Machine.Done told.0 c.drive.new.machine old new) (g.M.Machine.Told told.0 c.drive.new.machine old new)
    (g.M.Machine.Begins told.0 c.drive.new.machine old new)
    (c.in_ok-drive.ensures.answer told.0 told.1 (λ item any. told.2 item)) in
    asked.failed_is

pub returns-clause-ended : goal.returns-clause-ended
returns-clause-ended g c =
    let told = c.requires.told in
    let old = g.O.Sink.written c.args.output.now in
    let new = g.O.Sink.written c.drive.new.output in
    let asked = ok-ended g.R.Read.remaining c.args.inputs.now c.drive.new.input c.drive.new.source
    (g.M.Machine.Done told.0 c.drive.new.machine old new) (g.M.Machine.Told told.0 c.drive.new.machine old new)
    (g.M.Machine.Begins told.0 c.drive.new.machine old new)
    (c.in_ok-drive.ensures.answer told.0 told.1 (λ item any. told.2 item)) in
    asked

pub returns-clause-calls_came : goal.returns-clause-calls_came
returns-clause-calls_came g c =
    let told = c.requires.told in
    let old = g.O.Sink.written c.args.output.now in
    let new = g.O.Sink.written c.drive.new.output in
    let asked = ok-asked g.R.Read.remaining c.args.inputs.now c.drive.new.input c.drive.new.source
    (g.M.Machine.Done told.0 c.drive.new.machine old new) (g.M.Machine.Told told.0 c.drive.new.machine old new)
    (g.M.Machine.Begins told.0 c.drive.new.machine old new)
    (c.in_ok-drive.ensures.answer told.0 told.1 (λ item any. told.2 item)) in
    asked.calls_came

pub returns-clause-calls_left : goal.returns-clause-calls_left
returns-clause-calls_left g c =
    let told = c.requires.told in
    let old = g.O.Sink.written c.args.output.now in
    let new = g.O.Sink.written c.drive.new.output in
    let asked = ok-asked g.R.Read.remaining c.args.inputs.now c.drive.new.input c.drive.new.source
    (g.M.Machine.Done told.0 c.drive.new.machine old new) (g.M.Machine.Told told.0 c.drive.new.machine old new)
    (g.M.Machine.Begins told.0 c.drive.new.machine old new)
    (c.in_ok-drive.ensures.answer told.0 told.1 (λ item any. told.2 item)) in
    asked.calls_left
