use Rattle.std.proofs.Common.{rules, refl, IfSome, Ok}
use Rattle.afdx_police.specs.RuleOf.{rule_of}
use Rattle.afdx_input_lines.specs.FrameLines.{listed_frame}
use Rattle.afdx_command_tables.specs.declared.summary.Summary.{Summary}
use Rattle.afdx_input_sources.specs.Items.{thing_of}
use Rattle.afdx_input_sources.specs.Listed.{frames}
use Rattle.afdx_replay.specs.policing.Policed.{Answers, WritesText, WritesBeginning}
use Rattle.afdx_replay.specs.policing.Told.{HasTold, TellsItems, BeginsItems}
use Rattle.afdx_input_sources.proofs.ListRunLemmas.{answers-err, answers-ok}
use Rattle.afdx_text.proofs.OutputLemmas.{whole_front as front-whole}
use Rattle.afdx_replay.proofs.TextLemmas.{once-back}
use Rattle.afdx_replay.proofs.ToldLemmas.{told-done}
use Rattle.afdx_replay.proofs.policing.run.run_police.Goals as goal

pub run_list-requires-clause-told : goal.run_list-requires-clause-told
run_list-requires-clause-told g c = (rule_of c.args.rule.now, c.new-police.ensures _, λ item gives. tt)

pub returns-in_err-lines-clause-answer : goal.returns-in_err-lines-clause-answer
returns-in_err-lines-clause-answer g c =
    let rule = rule_of c.args.rule.now in
    let old = g.W.Write.contents c.args.output.now.inner in
    let device = c.run_list.new.output.device.now in
    let new = g.W.Write.contents device.inner in
    let rest = g.R.Read.remaining c.run_list.new.input.inner in
    let tells = TellsItems rule c.run_list.new.machine old new in
    let stop = answers-err frames (thing_of frames listed_frame) tells tells (BeginsItems rule old new)
    (WritesText rule old new) (WritesBeginning rule old new) (g.R.Read.remaining c.args.input.now.inner)
    rest c.in_err-lines.field-0.0
    (λ past h. (h.told.written, front-whole old new _ h.told.written)) (λ past h. h)
    (rw c.new-output.ensures.device at (c.in_err-lines.ensures.answer rule (c.new-police.ensures _)
    (λ item gives. tt))) in
    once-back device (λ w. IfSome (g.R.Read.remaining c.args.input.now.inner) (λ bytes. Answers rule bytes rest old
    (g.W.Write.contents w.inner) c.from_residual.result)) {back = c.output-2-1.given.0} (search rules) (search rules)

pub returns-clause-answer : goal.returns-clause-answer
returns-clause-answer g c =
    let rule = rule_of c.args.rule.now in
    let old = g.W.Write.contents c.args.output.now.inner in
    let device = c.run_list.new.output.device.now in
    let new = g.W.Write.contents device.inner in
    let rest = g.R.Read.remaining c.run_list.new.input.inner in
    let police = c.run_list.new.machine in
    let tells = TellsItems rule police old new in
    let summary : Summary = record {
      lines = c.in_ok-lines.lines;
      accepted = police.accepted;
      dropped = police.dropped;
      lost = 0;
      departed = 0;
      too_old = 0;
      delivered = 0;
    } in
    once-back device (λ w. IfSome (g.R.Read.remaining c.args.input.now.inner) (λ bytes. Answers rule bytes rest old
    (g.W.Write.contents w.inner) (Ok summary))) {back = c.output-2-1.given.0}
    (told-done rule police.accounts police.accepted police.dropped _ _ old new _
    (answers-ok frames (thing_of frames listed_frame) tells tells (BeginsItems rule old new)
    (HasTold rule police.accounts police.accepted police.dropped old new)
    (g.R.Read.remaining c.args.input.now.inner) rest c.in_ok-lines.lines
    (λ past h. h.told)
    (rw c.new-output.ensures.device at (c.in_ok-lines.ensures.answer rule (c.new-police.ensures _)
    (λ item gives. tt)))) refl)
    (search rules)
