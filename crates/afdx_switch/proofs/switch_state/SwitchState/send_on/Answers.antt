use Rattle.std.proofs.Common.{◌≡◌, ◌∙◌, sym, ap, subst, arith, length, ℕ, ◌+◌, List}
use Rattle.std.specs.Prelude.{slice_get}
use Rattle.std.proofs.lemmas.Option.{slice_get_read}
use Rattle.afdx_port.specs.Serving.{IsServing}
use Rattle.afdx_switch.specs.HeldFrames.{facts}
use Rattle.afdx_switch.specs.Lines.{ArePlaces, is_among}
use Rattle.afdx_switch.specs.Ports.{holds}
use Rattle.afdx_switch.specs.Shares.{AreKept, AreOffered, IsOffered, share_of}
use Rattle.afdx_switch.specs.Sound.{IsLineSound}
use Rattle.afdx_switch.specs.declared.line.Line.{Line}
use Rattle.afdx_switch.proofs.ListLemmas.{all-at, items-are}
use Rattle.afdx_switch.proofs.StandsLemmas.{ports-sound, ports-quiet, ports-held}
use Rattle.afdx_switch.proofs.switch_state.SwitchState.send_on.Goals as goal

pub forward-lost-requires-clause-places : goal.forward-lost-requires-clause-places
forward-lost-requires-clause-places c =
    let w = c.args.self.now in
    let at = slice_get_read w.lines.items _ c.args.place c.index-line.result.now w.lines.ok.0
    c.requires.within c.index-line.ensures in
    subst ArePlaces (sym c.as_slice-places.ensures.value)
    (all-at (IsLineSound w.clock) w.lines.items c.args.place c.index-line.result.now c.requires.sound.lines at).goes

pub renew-requires-clause-places : goal.renew-requires-clause-places
renew-requires-clause-places c =
    let w = c.args.self.now in
    let at = slice_get_read w.lines.items _ c.args.place c.index-line.result.now w.lines.ok.0
    c.requires.within c.index-line.ensures in
    subst ArePlaces (sym c.as_slice-places.ensures.value)
    (all-at (IsLineSound w.clock) w.lines.items c.args.place c.index-line.result.now c.requires.sound.lines at).goes

pub forward-lost-requires-clause-share_count : goal.forward-lost-requires-clause-share_count
forward-lost-requires-clause-share_count c =
    let w = c.args.self.now in
    let at = slice_get_read w.lines.items _ c.args.place c.index-line.result.now w.lines.ok.0
    c.requires.within c.index-line.ensures in
    c.requires.share_count c.index-line.result.now at ∙ ap length (sym c.as_slice-places.ensures.value)

pub returns-clause-offered : goal.returns-clause-offered
returns-clause-offered c line carried there shared =
    let w = c.args.self.now in
    let mine = c.index-line.result.now in
    let at = slice_get_read w.lines.items _ c.args.place mine w.lines.ok.0 c.requires.within c.index-line.ensures in
    let same : mine ≡ line = cc in
    let same_ports = items-are w.ports.len c.forward-lost.new.ports w.ports.items
    (omega (arith, c.forward-lost.ensures.count, c.requires.sound.port_count)) in
    let offered : AreOffered w.clock mine carried w.ports.items c.forward-lost.new.ports c.forward-lost.result =
    λ i o p at_o at_p. subst (λ (ps : List ℕ). IsOffered w.clock mine.priority
    (share_of carried (is_among i ps)) o p (holds c.forward-lost.result (i + 1)))
    c.as_slice-places.ensures.value
    (c.forward-lost.ensures.offered carried i o p shared
    (ap (λ ps. slice_get ps i) c.deref_mut.ensures.value ∙ at_o) at_p) in
    rw same_ports (subst (λ (l : Line). AreOffered w.clock l carried w.ports.items c.forward-lost.new.ports
    c.forward-lost.result) same offered)

-- the ports through the offers, whatever the shares are of
pub returns-clause-sound : goal.returns-clause-sound
returns-clause-sound c =
    let w = c.args.self.now in
    let mine = c.index-line.result.now in
    let carried = c.requires.alike.0 in
    let old_count : length w.ports.items ≡ 24 = omega (arith, w.ports.ok.0, c.requires.sound.port_count) in
    let same_ports = items-are w.ports.len c.forward-lost.new.ports w.ports.items
    (omega (arith, c.forward-lost.ensures.count, c.requires.sound.port_count)) in
    let offered : AreOffered w.clock mine carried w.ports.items c.forward-lost.new.ports c.forward-lost.result =
    λ i o p at_o at_p. subst (λ (ps : List ℕ). IsOffered w.clock mine.priority
    (share_of carried (is_among i ps)) o p (holds c.forward-lost.result (i + 1)))
    c.as_slice-places.ensures.value
    (c.forward-lost.ensures.offered carried i o p c.requires.alike.1
    (ap (λ ps. slice_get ps i) c.deref_mut.ensures.value ∙ at_o) at_p) in
    let kept : AreKept c.as_slice-places.result.now w.ports.items c.deref.result.now =
    λ i not_among. ap (λ ps. slice_get ps i) (c.deref.ensures.value ∙ same_ports)
    ∙ c.forward-lost.ensures.others i not_among
    ∙ ap (λ ps. slice_get ps i) c.deref_mut.ensures.value in
    let serving = subst (λ ps. IsServing facts ps c.renew.new.serving) c.deref.ensures.value
    (c.renew.ensures w.ports.items c.requires.sound.serving kept) in
    record {
      lines = c.requires.sound.lines;
      place_count = c.requires.sound.place_count;
      places = c.requires.sound.places;
      port_count = c.requires.sound.port_count;
      ports = rw same_ports (ports-sound w.clock w.clock mine.priority w.ports.items c.forward-lost.new.ports
          (λ i. share_of carried (is_among i mine.goes.items)) c.forward-lost.result old_count
          c.forward-lost.ensures.count offered c.requires.sound.ports);
      serving = serving;
      served = c.first-self.ensures _ serving;
    }

pub returns-clause-quiet : goal.returns-clause-quiet
returns-clause-quiet c =
    let w = c.args.self.now in
    let mine = c.index-line.result.now in
    let carried = c.requires.alike.0 in
    let old_count : length w.ports.items ≡ 24 = omega (arith, w.ports.ok.0, c.requires.sound.port_count) in
    let same_ports = items-are w.ports.len c.forward-lost.new.ports w.ports.items
    (omega (arith, c.forward-lost.ensures.count, c.requires.sound.port_count)) in
    let offered : AreOffered w.clock mine carried w.ports.items c.forward-lost.new.ports c.forward-lost.result =
    λ i o p at_o at_p. subst (λ (ps : List ℕ). IsOffered w.clock mine.priority
    (share_of carried (is_among i ps)) o p (holds c.forward-lost.result (i + 1)))
    c.as_slice-places.ensures.value
    (c.forward-lost.ensures.offered carried i o p c.requires.alike.1
    (ap (λ ps. slice_get ps i) c.deref_mut.ensures.value ∙ at_o) at_p) in
    rw same_ports (ports-quiet w.clock w.clock mine.priority w.ports.items c.forward-lost.new.ports
    (λ i. share_of carried (is_among i mine.goes.items)) c.forward-lost.result old_count
    c.forward-lost.ensures.count offered)

pub returns-clause-held : goal.returns-clause-held
returns-clause-held c =
    let w = c.args.self.now in
    let mine = c.index-line.result.now in
    let carried = c.requires.alike.0 in
    let old_count : length w.ports.items ≡ 24 = omega (arith, w.ports.ok.0, c.requires.sound.port_count) in
    let same_ports = items-are w.ports.len c.forward-lost.new.ports w.ports.items
    (omega (arith, c.forward-lost.ensures.count, c.requires.sound.port_count)) in
    let offered : AreOffered w.clock mine carried w.ports.items c.forward-lost.new.ports c.forward-lost.result =
    λ i o p at_o at_p. subst (λ (ps : List ℕ). IsOffered w.clock mine.priority
    (share_of carried (is_among i ps)) o p (holds c.forward-lost.result (i + 1)))
    c.as_slice-places.ensures.value
    (c.forward-lost.ensures.offered carried i o p c.requires.alike.1
    (ap (λ ps. slice_get ps i) c.deref_mut.ensures.value ∙ at_o) at_p) in
    rw same_ports (ports-held w.clock w.clock mine.priority w.ports.items c.forward-lost.new.ports
    (λ i. share_of carried (is_among i mine.goes.items)) c.forward-lost.result old_count
    c.forward-lost.ensures.count offered)
