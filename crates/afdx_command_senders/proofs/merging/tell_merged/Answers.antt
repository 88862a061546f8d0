use Rattle.std.proofs.Common.{refl, map, subst, ◌∙◌}
use Rattle.afdx_senders.specs.Lines.{line_of}
use Rattle.afdx_text.proofs.OutputLemmas.{on-err}
use Rattle.afdx_command_conform.specs.Telling.{findings_in}
use Rattle.afdx_command_conform.proofs.AddedLemmas.{on-ok}
use Rattle.afdx_command_conform.proofs.BegunLemmas.{err-on}
use Rattle.afdx_command_senders.specs.Merging.{AreCountedTo, IsToldTo, lines_up, merged}
use Rattle.afdx_command_senders.specs.SenderRun.{told_in}
use Rattle.afdx_command_senders.specs.SenderTexts.{told_lines}
use Rattle.afdx_command_senders.proofs.TellLemmas.{at-due, at-line, begun-rest, counted-at-first, counted-line, counted-rest, next-due, next-line, nothing-told, ok-on, told-at-first, told-rest}
use Rattle.afdx_command_senders.proofs.merging.tell_merged.Goals as goal

pub loop-line-init : goal.loop-line-init
loop-line-init g c = record {
  sound = c.requires.sound;
  settings = refl;
  others = record { tables = refl; asked = refl; senders = refl; latest = refl; left_out = refl };
  told = told-at-first (g.O.Sink.written c.args.output.now) (map line_of c.args.lines.now) c.args.due.now
      (nothing-told (g.O.Sink.written c.args.output.now));
  counted = counted-at-first c.args.senders.now.findings c.args.lines.now;
}

-- ---- a line of the switch

pub returns-in_err-put-in-Some-next_before-clause-begun : goal.returns-in_err-put-in-Some-next_before-clause-begun
returns-in_err-put-in-Some-next_before-clause-begun g c =
    let next = c.in-Some-next_before.ensures.next in
    on-err c.from_residual.result _
    (at-due _ _ (g.O.Sink.written c.put.new.self) c.loop-line.lines.now c.in-Some.line.now c.in-Some.more.now
    c.loop-line.due.now _ c.in-Some.ensures.next c.loop-line.invariant.told c.in-Some-next_before.next.now
    c.in-Some-next_before.rest.now next.0 next.1 c.in_err-put-in-Some-next_before.ensures.front)

pub loop-line-preserved-in-Some-next_before : goal.loop-line-preserved-in-Some-next_before
loop-line-preserved-in-Some-next_before g c =
    let next = c.in-Some-next_before.ensures.next in
    record {
      sound = c.in_ok-put-in-Some-next_before.ensures.sink.failed;
      settings = c.put.ensures.sink.settings ∙ c.loop-line.invariant.settings;
      others = c.loop-line.invariant.others;
      told = next-due _ _ (g.O.Sink.written c.put.new.self) c.loop-line.lines.now c.in-Some.line.now c.in-Some.more.now
          c.loop-line.due.now _ c.in-Some.ensures.next c.loop-line.invariant.told c.in-Some-next_before.next.now
          c.in-Some-next_before.rest.now next.0 next.1 c.in_ok-put-in-Some-next_before.ensures.whole;
      counted = c.loop-line.invariant.counted;
    }

-- ---- what is found of a frame

pub returns-in_err-tell_line-in-None-clause-begun : goal.returns-in_err-tell_line-in-None-clause-begun
returns-in_err-tell_line-in-None-clause-begun g c =
    on-err c.from_residual-in_err-tell_line-in-None.result _
    (at-line _ _ (g.O.Sink.written c.tell_line.new.output) c.loop-line.lines.now c.in-Some.line.now c.in-Some.more.now
    c.loop-line.due.now _ c.in-Some.ensures.next c.loop-line.invariant.told c.in-None.ensures.none
    c.in_err-tell_line-in-None.ensures.begun)

pub loop-line-preserved : goal.loop-line-preserved
loop-line-preserved g c = record {
  sound = c.in_ok-tell_line-in-None.ensures.sink.failed;
  settings = c.tell_line.ensures.sink.settings ∙ c.loop-line.invariant.settings;
  others = record {
    tables = c.tell_line.ensures.others.tables ∙ c.loop-line.invariant.others.tables;
    asked = c.tell_line.ensures.others.asked ∙ c.loop-line.invariant.others.asked;
    senders = c.tell_line.ensures.others.senders ∙ c.loop-line.invariant.others.senders;
    latest = c.tell_line.ensures.others.latest ∙ c.loop-line.invariant.others.latest;
    left_out = c.tell_line.ensures.others.left_out ∙ c.loop-line.invariant.others.left_out;
  };
  told = next-line _ _ (g.O.Sink.written c.tell_line.new.output) c.loop-line.lines.now c.in-Some.line.now
      c.in-Some.more.now c.loop-line.due.now _ c.in-Some.ensures.next c.loop-line.invariant.told c.in-None.ensures.none
      c.in_ok-tell_line-in-None.ensures.told;
  counted = counted-line c.args.senders.now.findings c.loop-line.senders.findings _ c.in-Some.line.now
      c.in-Some.more.now _
      (subst (λ l. AreCountedTo c.args.senders.now.findings c.loop-line.senders.findings l
      (findings_in (told_lines (told_in c.args.lines.now)))) c.in-Some.ensures.next c.loop-line.invariant.counted)
      c.in_ok-tell_line-in-None.ensures.counted;
}

-- ---- the rest

pub returns-clause-told : goal.returns-clause-told
returns-clause-told g c =
    let h = subst (λ l. IsToldTo (g.O.Sink.written c.args.output.now) (g.O.Sink.written c.loop-line.output)
    (map line_of l) c.loop-line.due.now (lines_up (merged (map line_of c.args.lines.now) c.args.due.now)))
    c.in_default.ensures.none c.loop-line.invariant.told in
    on-ok (told-rest _ _ (g.O.Sink.written c.put_due.new.output) c.loop-line.due.now _ h)
    c.put_due.result c.put_due.ensures.told

pub returns-clause-begun : goal.returns-clause-begun
returns-clause-begun g c =
    let h = subst (λ l. IsToldTo (g.O.Sink.written c.args.output.now) (g.O.Sink.written c.loop-line.output)
    (map line_of l) c.loop-line.due.now (lines_up (merged (map line_of c.args.lines.now) c.args.due.now)))
    c.in_default.ensures.none c.loop-line.invariant.told in
    err-on (begun-rest _ _ (g.O.Sink.written c.put_due.new.output) c.loop-line.due.now _ h)
    c.put_due.result c.put_due.ensures.begun

pub returns-clause-counted : goal.returns-clause-counted
returns-clause-counted g c = λ n is.
    ok-on c.put_due.result
    (counted-rest c.args.senders.now.findings c.loop-line.senders.findings _
    (subst (λ l. AreCountedTo c.args.senders.now.findings c.loop-line.senders.findings l
    (findings_in (told_lines (told_in c.args.lines.now)))) c.in_default.ensures.none c.loop-line.invariant.counted)
    n is)
