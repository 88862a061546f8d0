use Rattle.std.proofs.Common.{rules, IfSome, Ok}
use Rattle.afdx_replay.specs.replaying.Replayed.{Answers}
use Rattle.afdx_command_tables.specs.Counts.{with_lines}
use Rattle.afdx_replay.proofs.DefinedLemmas.{if-defined}
use Rattle.afdx_replay.proofs.ReplayLemmas.{stops-start}
use Rattle.afdx_replay.proofs.ReplaysLemmas.{listed-err, listed-ok}
use Rattle.afdx_replay.proofs.TextLemmas.{once-back}
use Rattle.afdx_replay.proofs.replaying.run.run_unadmitted.Goals as goal

pub returns-in_err-replay-clause-answer : goal.returns-in_err-replay-clause-answer
returns-in_err-replay-clause-answer g c =
    let stop = stops-start c.args.tables.now (g.R.Read.remaining c.args.input.now.inner)
    (g.W.Write.contents c.args.output.now.inner) in
    search rules

pub run_list-requires-clause-told : goal.run_list-requires-clause-told
run_list-requires-clause-told g c = (
  (c.args.tables.now, c.in_ok-replay.replay.early),
  c.in_ok-replay.ensures (g.W.Write.contents c.new-output.result.device.now.inner),
  λ item gives. tt,
)

pub returns-in_err-lines-clause-answer : goal.returns-in_err-lines-clause-answer
returns-in_err-lines-clause-answer g c =
    let t = c.args.tables.now in
    let old = g.W.Write.contents c.args.output.now.inner in
    let device = c.run_list.new.output.device.now in
    let rest = g.R.Read.remaining c.run_list.new.input.inner in
    let stop = listed-err _ t c.in_ok-replay.replay.early c.run_list.new.machine old (g.W.Write.contents device.inner)
    (g.R.Read.remaining c.args.input.now.inner) rest c.in_err-lines.field-0.0
    (rw c.new-output.ensures.device at (c.in_err-lines.ensures.answer (t, c.in_ok-replay.replay.early)
    (c.in_ok-replay.ensures _) (λ item gives. tt))) in
    once-back device (λ w. IfSome (g.R.Read.remaining c.args.input.now.inner) (λ bytes. Answers t bytes rest old
    (g.W.Write.contents w.inner) c.from_residual-in_err-lines.result)) {back = c.output-3-1.given.0} (search rules)
    (search rules)

pub returns-clause-answer : goal.returns-clause-answer
returns-clause-answer g c =
    let t = c.args.tables.now in
    let old = g.W.Write.contents c.args.output.now.inner in
    let device = c.run_list.new.output.device.now in
    let rest = g.R.Read.remaining c.run_list.new.input.inner in
    let replay = c.run_list.new.machine in
    once-back device (λ w. IfSome (g.R.Read.remaining c.args.input.now.inner) (λ bytes. Answers t bytes rest old
    (g.W.Write.contents w.inner) (Ok (with_lines replay.counts c.in_ok-lines.lines)))) {back = c.output-3-1.given.0}
    (listed-ok _ t c.in_ok-replay.replay.early replay old (g.W.Write.contents device.inner)
    (g.R.Read.remaining c.args.input.now.inner) rest c.in_ok-lines.lines
    (rw c.new-output.ensures.device at (c.in_ok-lines.ensures.answer (t, c.in_ok-replay.replay.early)
    (c.in_ok-replay.ensures _) (λ item gives. tt))))
    (search rules)

pub returns-in_err-replay-clause-defined : goal.returns-in_err-replay-clause-defined
returns-in_err-replay-clause-defined g c = λ lawful.
    if-defined _ _ _ _ _ _ lawful (returns-in_err-replay-clause-answer g c)

pub returns-in_err-lines-clause-defined : goal.returns-in_err-lines-clause-defined
returns-in_err-lines-clause-defined g c = λ lawful.
    if-defined _ _ _ _ _ _ lawful (returns-in_err-lines-clause-answer g c)

pub returns-clause-defined : goal.returns-clause-defined
returns-clause-defined g c = λ lawful.
    if-defined c.args.tables.now (g.R.Read.remaining c.args.input.now.inner)
    (g.R.Read.remaining c.run_list.new.input.inner) (g.W.Write.contents c.args.output.now.inner) _
    (Ok (with_lines c.run_list.new.machine.counts c.in_ok-lines.lines)) lawful (returns-clause-answer g c)
