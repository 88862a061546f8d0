use Rattle.std.proofs.Common.{sym, ◌∙◌, subst, arith, refl, Some, []}
use Rattle.std.proofs.lemmas.Option.{slice_get_within}
use Rattle.afdx_frame.proofs.ListLemmas.{slice_get-within}
use Rattle.afdx_port.specs.Held as held
use Rattle.afdx_port.specs.Serving.{IsServing}
use Rattle.afdx_switch.specs.HeldFrames.{facts}
use Rattle.afdx_switch.specs.Lines.{IsLine}
use Rattle.afdx_switch.specs.Sound.{IsLineSound, IsPortSound}
use Rattle.afdx_switch.proofs.StandsLemmas.{all-from}
use Rattle.afdx_switch.proofs.NewLemmas.{row-here, row-is, place-of, port-stands, sum-none, rows-counted}
use Rattle.afdx_switch.proofs.build.build.Goals as goal

pub returns-clause-sound : goal.returns-clause-sound
returns-clause-sound c = record {
  lines = all-from (IsLineSound 0) c.in_ok-lines.lines.items (λ i line at.
      let l = slice_get-within c.args.tables.now.links i
      (omega (
        arith,
        slice_get_within c.in_ok-lines.lines.items i line at,
        c.in_ok-lines.lines.ok.0,
        c.in_ok-lines.ensures.count,
      )) in
      (c.in_ok-lines.ensures.each i l.0 line l.1 at).sound);
  place_count = c.in_ok-places.ensures.count;
  places = λ vl place at.
      (let l = row-here c.args.tables.now c.in_ok-lines.ensures.lawful vl place
      (sym (c.in_ok-places.ensures.each vl (Some place) at)) in
      omega (arith, slice_get_within c.args.tables.now.links place l.0 l.1, c.in_ok-lines.ensures.count));
  port_count = c.in_ok-ports.ensures.count;
  ports = all-from (IsPortSound 0) c.in_ok-ports.ports.items (λ i p at.
      let new = c.in_ok-ports.ensures.each i p at in
      record { in_time = omega (arith, new.clock); calls = _; stands = new.stands });
  serving = subst (λ ps. IsServing facts ps c.of-serving.result) c.deref.ensures.value c.of-serving.ensures;
  served = c.first-first.ensures c.in_ok-ports.ports.items
      (subst (λ ps. IsServing facts ps c.of-serving.result) c.deref.ensures.value c.of-serving.ensures);
}

pub returns-clause-stands : goal.returns-clause-stands
returns-clause-stands c side = record {
  time = refl;
  line_count = c.in_ok-lines.ensures.count ∙ sym (rows-counted c.args.tables.now);
  lines = λ i r line at_r at_line.
      (let l = row-is c.args.tables.now c.in_ok-lines.ensures.lawful i r at_r in
      subst (λ q. IsLine side [] q line) l.2 ((c.in_ok-lines.ensures.each i l.0 line l.1 at_line).is side));
  places = λ vl place at. place-of c.args.tables.now c.in_ok-lines.ensures.lawful vl place
      (c.in_ok-places.ensures.each vl place at);
  port_count = omega (arith, c.in_ok-ports.ports.ok.0, c.in_ok-ports.ensures.count);
  ports = λ i p at. port-stands c.args.tables.now side i p (c.in_ok-ports.ensures.each i p at);
}

pub returns-clause-quiet : goal.returns-clause-quiet
returns-clause-quiet c t = all-from (λ p. held.IsQuiet facts p t) c.in_ok-ports.ports.items
    (λ i p at. (c.in_ok-ports.ensures.each i p at).quiet t)

pub returns-clause-held : goal.returns-clause-held
returns-clause-held c = sum-none (λ p. held.frames_held p) c.in_ok-ports.ports.items
    (λ i p at. (c.in_ok-ports.ensures.each i p at).empty)
