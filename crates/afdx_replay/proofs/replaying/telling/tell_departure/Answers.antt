use Rattle.std.proofs.Common.{◌≡◌, ◌∙◌, ◌∷◌, sym, ap, refl, subst, true, false}
use Rattle.std.specs.Io.KnownBytes.{Appends}
use Rattle.afdx_frame.specs.Parts.{bytes_of}
use Rattle.afdx_input_lines.specs.Calls.{AppendsFront}
use Rattle.afdx_end_systems.specs.Receptions.{is_delivered}
use Rattle.afdx_end_systems.specs.StandsFor as systems
use Rattle.afdx_end_systems.proofs.LinkFrameLemmas.{is-link-frame}
use Rattle.afdx_replay.specs.replaying.Text.{departure_line, frames_left, handed_over, heard, has_message, place_text}
use Rattle.afdx_replay.proofs.ReplayLemmas.{line-is, old-is, handed-is, heard-whole, heard-front, tells-old, tells-left}
use Rattle.afdx_replay.proofs.ReplayLemmas.{left-lines}
use Rattle.afdx_text.proofs.OutputLemmas.{front-longer, on-err}
use Rattle.afdx_replay.proofs.replaying.telling.tell_departure.Goals as goal

pub invariant_of-handover : goal.invariant_of-handover
invariant_of-handover g c = record { framed = is-link-frame c.frame.result c.frame.ensures.framed }

pub returns-in_err-put_departure-clause-begun : goal.returns-in_err-put_departure-clause-begun
returns-in_err-put_departure-clause-begun g c t before d stands is =
    let a = g.O.Sink.written c.args.output.now in
    let b = g.O.Sink.written c.put_departure.new.output in
    on-err c.from_residual.result _ (front-longer a b
    (departure_line d.turn.too_old d.turn.entry.item.tag d.turn.end
    (place_text d.side c.args.switch.now) d.port)
    (heard d.turn.too_old t (frames_left before) (handed_over d))
    (subst (λ x. AppendsFront a b x) (line-is c.args.switch.now c.args.departure.now d is)
    c.in_err-put_departure.ensures.front))

pub returns-then-too_old-clause-told : goal.returns-then-too_old-clause-told
returns-then-too_old-clause-told g c t before d stands is =
    let old : d.turn.too_old ≡ true = sym (old-is c.args.departure.now d is) ∙ sym c.too_old.ensures
    ∙ c.if-too_old.true in
    let a = g.O.Sink.written c.args.output.now in
    let b = g.O.Sink.written c.put_departure.new.output in
    tells-old c.args.switch.now t before d _ _ _ a b old stands refl
    (subst (λ x. Appends a b x) (line-is c.args.switch.now c.args.departure.now d is
    ∙ ap (λ b. departure_line b d.turn.entry.item.tag d.turn.end
    (place_text d.side c.args.switch.now) d.port) old)
    c.in_ok-put_departure.ensures.line)

pub returns-in_err-hear-clause-begun : goal.returns-in_err-hear-clause-begun
returns-in_err-hear-clause-begun g c t before d stands is =
    let left : d.turn.too_old ≡ false = sym (old-is c.args.departure.now d is)
    ∙ sym c.too_old.ensures ∙ c.if-too_old.false in
    let handed = handed-is c.args.departure.now d is c.side.result c.port.result c.time.result c.tag.result
    (bytes_of c.frame.result) c.side.ensures c.port.ensures c.time.ensures c.tag.ensures c.frame.ensures.bytes in
    let a = g.O.Sink.written c.args.output.now in
    let m = g.O.Sink.written c.put_departure.new.output in
    let b = g.O.Sink.written c.hear.new.output in
    on-err c.from_residual-in_err-hear.result _
    (subst (λ x. AppendsFront a b x) (left-lines c.args.switch.now t before d left)
    (heard-front t (frames_left before) _ (handed_over d) a m b
    (departure_line false d.turn.entry.item.tag d.turn.end
    (place_text d.side c.args.switch.now) d.port) handed
    (subst (λ x. Appends a m x) (line-is c.args.switch.now c.args.departure.now d is
    ∙ ap (λ b. departure_line b d.turn.entry.item.tag d.turn.end
    (place_text d.side c.args.switch.now) d.port) left)
    c.in_ok-put_departure.ensures.line)
    (c.in_err-hear.ensures.front t (frames_left before) stands)))

pub returns-in-Message-clause-told : goal.returns-in-Message-clause-told
returns-in-Message-clause-told g c t before d stands is =
    let left : d.turn.too_old ≡ false = sym (old-is c.args.departure.now d is)
    ∙ sym c.too_old.ensures ∙ c.if-too_old.false in
    let handed = handed-is c.args.departure.now d is c.side.result c.port.result c.time.result c.tag.result
    (bytes_of c.frame.result) c.side.ensures c.port.ensures c.time.ensures c.tag.ensures c.frame.ensures.bytes in
    let a = g.O.Sink.written c.args.output.now in
    let m = g.O.Sink.written c.put_departure.new.output in
    let b = g.O.Sink.written c.hear.new.output in
    tells-left c.args.switch.now t before d _ _ _ a b true left
    (subst (λ h. systems.StandsFor t c.hear.new.systems (h ∷ frames_left before)) handed
    (c.hear.ensures.stands t (frames_left before) stands))
    (sym (ap has_message c.in-Message.is)
    ∙ c.in_ok-hear.ensures.delivered t (frames_left before) stands
    ∙ ap (λ h. is_delivered t (frames_left before) h) handed) refl
    (heard-whole t (frames_left before) _ (handed_over d) a m b
    (departure_line false d.turn.entry.item.tag d.turn.end
    (place_text d.side c.args.switch.now) d.port) handed
    (subst (λ x. Appends a m x) (line-is c.args.switch.now c.args.departure.now d is
    ∙ ap (λ b. departure_line b d.turn.entry.item.tag d.turn.end
    (place_text d.side c.args.switch.now) d.port) left)
    c.in_ok-put_departure.ensures.line)
    (c.in_ok-hear.ensures.line t (frames_left before) stands))

pub returns-in-Nothing-clause-told : goal.returns-in-Nothing-clause-told
returns-in-Nothing-clause-told g c t before d stands is =
    let left : d.turn.too_old ≡ false = sym (old-is c.args.departure.now d is)
    ∙ sym c.too_old.ensures ∙ c.if-too_old.false in
    let handed = handed-is c.args.departure.now d is c.side.result c.port.result c.time.result c.tag.result
    (bytes_of c.frame.result) c.side.ensures c.port.ensures c.time.ensures c.tag.ensures c.frame.ensures.bytes in
    let a = g.O.Sink.written c.args.output.now in
    let m = g.O.Sink.written c.put_departure.new.output in
    let b = g.O.Sink.written c.hear.new.output in
    tells-left c.args.switch.now t before d _ _ _ a b false left
    (subst (λ h. systems.StandsFor t c.hear.new.systems (h ∷ frames_left before)) handed
    (c.hear.ensures.stands t (frames_left before) stands))
    (sym (ap has_message c.in-Nothing.is)
    ∙ c.in_ok-hear.ensures.delivered t (frames_left before) stands
    ∙ ap (λ h. is_delivered t (frames_left before) h) handed) refl
    (heard-whole t (frames_left before) _ (handed_over d) a m b
    (departure_line false d.turn.entry.item.tag d.turn.end
    (place_text d.side c.args.switch.now) d.port) handed
    (subst (λ x. Appends a m x) (line-is c.args.switch.now c.args.departure.now d is
    ∙ ap (λ b. departure_line b d.turn.entry.item.tag d.turn.end
    (place_text d.side c.args.switch.now) d.port) left)
    c.in_ok-put_departure.ensures.line)
    (c.in_ok-hear.ensures.line t (frames_left before) stands))
