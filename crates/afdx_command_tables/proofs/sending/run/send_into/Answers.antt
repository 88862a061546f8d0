use Rattle.std.proofs.Common.{rules, refl}
use Rattle.afdx_input_lines.specs.SubmissionLines.{submission_of}
use Rattle.afdx_input_sources.specs.Items.{thing_of}
use Rattle.afdx_input_sources.specs.Listed.{submissions}
use Rattle.afdx_command_tables.specs.sending.Told.{TellsItems, BeginsItems, TellsAll}
use Rattle.afdx_command_tables.specs.sending.Sent.{source_of, WritesSoFar, WritesSome, WritesEvents}
use Rattle.afdx_input_sources.proofs.ListRunLemmas.{answers-err, answers-ok}
use Rattle.afdx_input_sources.proofs.RunLemmas.{stops-at-start}
use Rattle.afdx_command_tables.proofs.SendLemmas.{are-some, are-so-far, row-at, start-some, told-done}
use Rattle.afdx_command_tables.proofs.sending.run.send_into.Goals as goal

pub returns-in_err-sending-clause-answer : goal.returns-in_err-sending-clause-answer
returns-in_err-sending-clause-answer g c row is =
    let s = source_of c.args.switch.now c.args.tables.now c.args.system.0 row in
    let o = g.O.Sink.written c.args.output.now in
    let stop = stops-at-start submissions (WritesSoFar s o o) (WritesSome s o o)
    (g.R.Read.remaining c.args.input.now.inner) (start-some s o) in
    search rules

pub run_list-requires-clause-told : goal.run_list-requires-clause-told
run_list-requires-clause-told g c =
    let at = row-at c.args.tables.now.systems c.args.system.0 c.in_ok-sending.ensures.within in (
      source_of c.args.switch.now c.args.tables.now c.args.system.0 at.0,
      c.in_ok-sending.ensures.told at.0 at.1 (g.O.Sink.written c.args.output.now),
      λ item gives. tt,
    )

pub returns-in_err-lines-clause-answer : goal.returns-in_err-lines-clause-answer
returns-in_err-lines-clause-answer g c row is =
    let s = source_of c.args.switch.now c.args.tables.now c.args.system.0 row in
    let old = g.O.Sink.written c.args.output.now in
    let new = g.O.Sink.written c.run_list.new.output in
    let sending = c.run_list.new.machine in
    let stop = answers-err submissions (thing_of submissions submission_of) (TellsAll s sending old new)
    (TellsItems s sending old new) (BeginsItems s old new) (WritesSoFar s old new) (WritesSome s old new)
    (g.R.Read.remaining c.args.input.now.inner) (g.R.Read.remaining c.run_list.new.input.inner)
    c.in_err-lines.field-0.0
    (λ past h. (are-so-far s _ _ _ _ _ _ h.told, are-some s _ _ _ _ _ _ h.told)) (λ past h. h)
    (c.in_err-lines.ensures.answer s (c.in_ok-sending.ensures.told row is old) (λ item gives. tt)) in
    search rules

pub returns-clause-answer : goal.returns-clause-answer
returns-clause-answer g c row is =
    let s = source_of c.args.switch.now c.args.tables.now c.args.system.0 row in
    let old = g.O.Sink.written c.args.output.now in
    let new = g.O.Sink.written c.run_list.new.output in
    let sending = c.run_list.new.machine in
    told-done s (WritesEvents s sending.counts old new) sending.counts _ _ _ old new
    (answers-ok submissions (thing_of submissions submission_of) (TellsAll s sending old new)
    (TellsItems s sending old new) (BeginsItems s old new) (WritesEvents s sending.counts old new)
    (g.R.Read.remaining c.args.input.now.inner) (g.R.Read.remaining c.run_list.new.input.inner)
    c.in_ok-lines.lines (λ past h. h) (c.in_ok-lines.ensures.answer s (c.in_ok-sending.ensures.told row is old)
    (λ item gives. tt)))
    (λ past h. h) refl
