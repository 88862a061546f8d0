use Rattle.std.proofs.Common.{◌∷◌, ◌∙◌, ap, sym, subst}
use Rattle.std.specs.Io.KnownBytes.{Appends}
use Rattle.std.proofs.KnownBytes.{Appends-nil}
use Rattle.afdx_input_lines.specs.Calls.{AppendsFront}
use Rattle.afdx_receive.specs.Words.{drop_word}
use Rattle.afdx_end_systems.specs.Handovers.{handed_over}
use Rattle.afdx_end_systems.specs.Receptions.{message_line, drop_line}
use Rattle.afdx_end_systems.proofs.ReceptionLemmas.{told-as, told-nothing}
use Rattle.afdx_text.proofs.OutputLemmas.{on-err}
use Rattle.afdx_replay.proofs.replaying.lines.hear.Goals as goal

pub returns-in_ok-put-in-Some-Message-clause-delivered : goal.returns-in_ok-put-in-Some-Message-clause-delivered
returns-in_ok-put-in-Some-Message-clause-delivered g c t before stands =
    sym (told-as t before (handed_over c.args.handover) _
    (rw c.in-Some-Message.field-0-is
    at (c.in-Some-Message.ensures.answer t before stands))).1

pub returns-in_ok-put-in-Some-Message-clause-line : goal.returns-in_ok-put-in-Some-Message-clause-line
returns-in_ok-put-in-Some-Message-clause-line g c t before stands =
    let d = handed_over c.args.handover in
    let told = told-as t before d _ (rw c.in-Some-Message.field-0-is
    at (c.in-Some-Message.ensures.answer t before stands)) in
    let e = ap (λ name. message_line d.time name c.in-Some-Message.vl.0 c.in-Some-Message.bytes.now)
    (c.name_at.ensures t (d ∷ before) (c.receive.ensures.stands t before stands)) ∙ sym told.0 in
    subst (λ x. Appends (g.O.Sink.written c.args.output.now) (g.O.Sink.written c.put.new.self) x) e
    c.in_ok-put-in-Some-Message.ensures.whole

pub returns-in_err-put-in-Some-Message-clause-front : goal.returns-in_err-put-in-Some-Message-clause-front
returns-in_err-put-in-Some-Message-clause-front g c t before stands =
    let d = handed_over c.args.handover in
    let told = told-as t before d _ (rw c.in-Some-Message.field-0-is
    at (c.in-Some-Message.ensures.answer t before stands)) in
    let e = ap (λ name. message_line d.time name c.in-Some-Message.vl.0 c.in-Some-Message.bytes.now)
    (c.name_at.ensures t (d ∷ before) (c.receive.ensures.stands t before stands)) ∙ sym told.0 in
    on-err c.from_residual.result _
    (subst (λ x. AppendsFront (g.O.Sink.written c.args.output.now) (g.O.Sink.written c.put.new.self) x) e
    c.in_err-put-in-Some-Message.ensures.front)

pub returns-in_ok-put-in-Some-Dropped-clause-delivered : goal.returns-in_ok-put-in-Some-Dropped-clause-delivered
returns-in_ok-put-in-Some-Dropped-clause-delivered g c t before stands =
    sym (told-as t before (handed_over c.args.handover) _
    (rw c.in-Some-Dropped.field-0-is
    at (c.in-Some-Dropped.ensures.answer t before stands))).1

pub returns-in_ok-put-in-Some-Dropped-clause-line : goal.returns-in_ok-put-in-Some-Dropped-clause-line
returns-in_ok-put-in-Some-Dropped-clause-line g c t before stands =
    let d = handed_over c.args.handover in
    let told = told-as t before d _ (rw c.in-Some-Dropped.field-0-is
    at (c.in-Some-Dropped.ensures.answer t before stands)) in
    let e = ap (λ name. drop_line d.time name d.line (drop_word c.in-Some-Dropped.why))
    (c.name_at-in-Some-Dropped.ensures t (d ∷ before) (c.receive.ensures.stands t before stands)) ∙ sym told.0 in
    subst (λ x. Appends (g.O.Sink.written c.args.output.now) (g.O.Sink.written c.put-in-Some-Dropped.new.self) x) e
    c.in_ok-put-in-Some-Dropped.ensures.whole

pub returns-in_err-put-in-Some-Dropped-clause-front : goal.returns-in_err-put-in-Some-Dropped-clause-front
returns-in_err-put-in-Some-Dropped-clause-front g c t before stands =
    let d = handed_over c.args.handover in
    let told = told-as t before d _ (rw c.in-Some-Dropped.field-0-is
    at (c.in-Some-Dropped.ensures.answer t before stands)) in
    let e = ap (λ name. drop_line d.time name d.line (drop_word c.in-Some-Dropped.why))
    (c.name_at-in-Some-Dropped.ensures t (d ∷ before) (c.receive.ensures.stands t before stands)) ∙ sym told.0 in
    on-err c.from_residual-in_err-put-in-Some-Dropped.result _
    (subst (λ x. AppendsFront (g.O.Sink.written c.args.output.now)
    (g.O.Sink.written c.put-in-Some-Dropped.new.self) x) e
    c.in_err-put-in-Some-Dropped.ensures.front)

pub returns-in-None-clause-delivered : goal.returns-in-None-clause-delivered
returns-in-None-clause-delivered g c t before stands =
    sym (told-nothing t before (handed_over c.args.handover) (c.in-None.ensures.answer t before stands)).1

pub returns-in-None-clause-line : goal.returns-in-None-clause-line
returns-in-None-clause-line g c t before stands =
    let a = g.O.Sink.written c.args.output.now in
    subst (λ x. Appends a a x)
    (sym (told-nothing t before (handed_over c.args.handover) (c.in-None.ensures.answer t before stands)).0)
    (Appends-nil a)
