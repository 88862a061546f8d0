use Rattle.std.proofs.Common.{false, Some, ◌≡◌, ◌∙◌, refl, ◌+◌, ◌*◌, ap, sym, inl, inr, arith}
use Rattle.std.specs.Prelude.{slice_get}
use Rattle.afdx_port.specs.declared.left.Left.{Left}
use Rattle.afdx_switch.specs.HeldFrames.{HeldFrame}
use Rattle.afdx_cascade.specs.SwitchEvents.{end_at}
use Rattle.afdx_cascade.specs.Turning.{end_of, entry_in}
use Rattle.afdx_cascade.proofs.turning.turn_at.Goals as goal
use Rattle.afdx_cascade.proofs.TurningLemmas.{turns-ended, turns-carried}

pub far_end-requires : goal.far_end-requires
far_end-requires c = let a = c.requires.within in let b = c.requires.few in omega (arith, a, b)

pub returns-then-too_old : goal.returns-then-too_old
returns-then-too_old c = record {
  clock = c.take_at-departure.ensures.clock;
  length = c.take_at-departure.ensures.length;
  others = c.take_at-departure.ensures.others;
  gives = λ p at ring so_far plan ends st transit.
      let g = c.take_at-departure.ensures.gives p at ring so_far plan st in
      turns-ended p c.take_at-departure.new.networks c.args.transit.now.items at ring so_far
      c.args.first.switch.0 c.args.until
      c.take_at-departure.result g transit
      (inl (sym (ap (λ (l : Left HeldFrame). l.too_old) g.hands.left) ∙ sym c.too_old.ensures
      ∙ c.if-too_old.true));
}

pub returns-then-time-gt-LATEST_ARRIVAL : goal.returns-then-time-gt-LATEST_ARRIVAL
returns-then-time-gt-LATEST_ARRIVAL c = record {
  clock = c.take_at-departure.ensures.clock;
  length = c.take_at-departure.ensures.length;
  others = c.take_at-departure.ensures.others;
  gives = λ p at ring so_far plan ends st transit.
      let g = c.take_at-departure.ensures.gives p at ring so_far plan st in
      turns-ended p c.take_at-departure.new.networks c.args.transit.now.items at ring so_far
      c.args.first.switch.0 c.args.until
      c.take_at-departure.result g transit
      (let t = c.time-time.ensures ∙ ap (λ (l : Left HeldFrame). l.end) g.hands.left in
      let late = c.if-time-gt-LATEST_ARRIVAL.true in inr (inr (omega (arith, t, late))));
}

pub returns-in-None : goal.returns-in-None
returns-in-None c = record {
  clock = c.take_at-departure.ensures.clock;
  length = c.take_at-departure.ensures.length;
  others = c.take_at-departure.ensures.others;
  gives = λ p at ring so_far plan ends st transit.
      let g = c.take_at-departure.ensures.gives p at ring so_far plan st in
      let port : c.port-port.result ≡ g.departure.port = c.port-port.ensures ∙ g.hands.port in
      let k = c.args.first.switch.0 in
      turns-ended p c.take_at-departure.new.networks c.args.transit.now.items at ring so_far
      c.args.first.switch.0 c.args.until
      c.take_at-departure.result g transit
      (inr (inl (ends k g.departure.port g.next.port_last
      ∙ ap (λ n. end_of (entry_in (slice_get c.args.ends.now (k * 25 + n)))) (sym port)
      ∙ ap end_of (sym c.far_end.ensures ∙ c.in-None.is))));
}

pub returns-in-Some : goal.returns-in-Some
returns-in-Some c = record {
  clock = c.take_at-departure.ensures.clock;
  length = c.take_at-departure.ensures.length;
  others = c.take_at-departure.ensures.others;
  gives = λ p at ring so_far plan ends st transit.
      let g = c.take_at-departure.ensures.gives p at ring so_far plan st in
      let port : c.port-port.result ≡ g.departure.port = c.port-port.ensures ∙ g.hands.port in
      let k = c.args.first.switch.0 in
      let left : g.departure.turn.too_old ≡ false = sym (ap (λ (l : Left HeldFrame). l.too_old) g.hands.left)
      ∙ sym c.too_old.ensures ∙ c.if-too_old.false in
      let cable : p.far_end k g.departure.port ≡ Some (end_at c.in-Some.to.switch.0 c.in-Some.to.port) =
      ends k g.departure.port g.next.port_last
      ∙ ap (λ n. end_of (entry_in (slice_get c.args.ends.now (k * 25 + n)))) (sym port)
      ∙ ap end_of (sym c.far_end.ensures ∙ c.in-Some.is) in
      turns-carried p c.take_at-departure.new.networks c.args.transit.now.items at ring so_far
      c.args.first.switch.0 c.args.until
      c.take_at-departure.result g transit
      (record {
        switch = c.args.first.switch;
        side = c.side-side.result;
        port = c.port-port.result;
      })
      c.time-time.result
      c.tag-tag.result
      (record {
        departure = c.take_at-departure.result;
        switch = c.in-Some.to.switch;
        port = c.in-Some.to.port;
        from = c.args.first.switch;
      })
      c.push_back_reserved.new.self.items
      refl
      (record {
        left = left;
        cable = (end_at c.in-Some.to.switch.0 c.in-Some.to.port, cable);
        side = c.side-side.ensures ∙ g.hands.side;
        port = port;
        time_is = c.time-time.ensures ∙ ap (λ (l : Left HeldFrame). l.end) g.hands.left;
        tag_is = c.tag-tag.ensures ∙ ap (λ (l : Left HeldFrame). l.item.tag) g.hands.left;
      })
      refl
      left
      (let t = c.time-time.ensures ∙ ap (λ (l : Left HeldFrame). l.end) g.hands.left in
      let soon = c.if-time-gt-LATEST_ARRIVAL.false in omega (arith, t, soon))
      cable
      c.push_back_reserved.ensures.items;
}
