use Rattle.std.proofs.Common.{refl, sym, ◌∙◌, ap, []}
use Rattle.afdx_input_lines.specs.Calls.{is_failed_write}
use Rattle.afdx_input_sources.specs.MergedSource.{inputs_by_role}
use Rattle.afdx_input_runs.specs.SeenRun.{options_of_came, options_of_left}
use Rattle.afdx_input_runs.proofs.PairAnswerLemmas.{two-start}
use Rattle.afdx_input_runs.proofs.SeeingLemmas.{seen-none}
use Rattle.afdx_input_runs.proofs.SeenRunLemmas.{by-role-read, by-role-write, roles-err, roles-ok}
use Rattle.afdx_input_runs.proofs.seen_run.tell_by_role.Goals as goal

pub run_over-requires-clause-gave : goal.run_over-requires-clause-gave
run_over-requires-clause-gave g c =
    let new = c.requires.new in record {
      lines = [];
      known_so = two-start g.R.Read.remaining (inputs_by_role c.args.inputs.now) c.args.frames.now.lines
          (options_of_came new.0) (options_of_left new.0) new.0.came.origin new.1
          c.requires.sound_came c.requires.sound_left c.requires.unended_came
          c.requires.unended_left new.2;
      items_are = sym seen-none;
    }

pub run_over-requires-clause-set : goal.run_over-requires-clause-set
run_over-requires-clause-set g c =
    let new = c.requires.new in record { order_a = new.2.order_a; order_b = new.2.order_b }

pub run_over-requires-clause-told : goal.run_over-requires-clause-told
run_over-requires-clause-told g c =
    let told = c.requires.told in (told.0, told.1, λ item any. told.2 item)

pub returns-in-Err-clause-read : goal.returns-in-Err-clause-read
returns-in-Err-clause-read g c =
    rw c.by_role.ensures (c.in-Err.ensures.read ∙ sym (by-role-read c.in-Err.fault))

pub returns-in-Err-clause-write : goal.returns-in-Err-clause-write
returns-in-Err-clause-write g c =
    rw c.by_role.ensures
    (c.run_over.ensures.write ∙ ap is_failed_write c.in-Err.is ∙ sym (by-role-write c.in-Err.fault))

pub returns-in-Err-clause-calls_came : goal.returns-in-Err-clause-calls_came
returns-in-Err-clause-calls_came g c =
    c.run_over.ensures.calls.0 (rw (c.requires.sound_came, c.requires.unended_came) refl)

pub returns-in-Err-clause-calls_left : goal.returns-in-Err-clause-calls_left
returns-in-Err-clause-calls_left g c =
    c.run_over.ensures.calls.1 (rw (c.requires.sound_left, c.requires.unended_left) refl)

pub returns-in-Err-clause-answer : goal.returns-in-Err-clause-answer
returns-in-Err-clause-answer g c options ports new law start can =
    let old = g.O.Sink.written c.args.output.now in
    let after = g.O.Sink.written c.run_over.new.output in
    let machine = c.run_over.new.machine in
    roles-err options ports c.args.frames.now.lines new g.R.Read.remaining c.args.inputs.now c.run_over.new.input
    (g.M.Machine.Done law machine old after) (g.M.Machine.Told law machine old after)
    (g.M.Machine.Begins law machine old after) c.in-Err.fault c.by_role.result c.by_role.ensures
    (c.in-Err.ensures.answer law start (λ item any. can item))

pub returns-clause-calls_came : goal.returns-clause-calls_came
returns-clause-calls_came g c =
    c.run_over.ensures.calls.0 (rw (c.requires.sound_came, c.requires.unended_came) refl)

pub returns-clause-calls_left : goal.returns-clause-calls_left
returns-clause-calls_left g c =
    c.run_over.ensures.calls.1 (rw (c.requires.sound_left, c.requires.unended_left) refl)

pub returns-clause-answer : goal.returns-clause-answer
returns-clause-answer g c options ports new law start can =
    let old = g.O.Sink.written c.args.output.now in
    let after = g.O.Sink.written c.run_over.new.output in
    let machine = c.run_over.new.machine in
    let end = c.in-Ok.ensures.whole in
    roles-ok options ports c.args.frames.now.lines new c.run_over.new.source.lines c.run_over.ensures.settings
    g.R.Read.remaining c.args.inputs.now c.run_over.new.input
    (g.M.Machine.Done law machine old after) (g.M.Machine.Told law machine old after)
    (g.M.Machine.Begins law machine old after) end.1.lines end.1.known_so c.in-Ok.field-0
    c.tally.result c.tally-2.result c.tally.ensures c.tally-2.ensures
    (c.in-Ok.ensures.answer law start (λ item any. can item))
