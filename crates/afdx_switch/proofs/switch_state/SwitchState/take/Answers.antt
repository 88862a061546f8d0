use Rattle.std.proofs.Common.{refl}
use Rattle.std.proofs.lemmas.Option.{slice_get_read}
use Rattle.afdx_port.specs.Held as held
use Rattle.afdx_port.proofs.FirstLemmas.{all-quiet}
use Rattle.afdx_switch.specs.HeldFrames.{facts}
use Rattle.afdx_switch.proofs.CallLemmas.{none-given}
use Rattle.afdx_switch.proofs.ListLemmas.{all-at}
use Rattle.afdx_switch.proofs.TakeLemmas.{quiet-next, all-done, stands-later, lines-later, ports-later}
use Rattle.afdx_switch.proofs.switch_state.SwitchState.take.Goals as goal

-- the first port gives nothing by then: nor does any other
pub returns-then-is_quiet-clause-takes : goal.returns-then-is_quiet-clause-takes
returns-then-is_quiet-clause-takes c =
    let w = c.args.self.now in
    let p = c.index.result.now in
    let served = c.requires.sound.served in
    let at = slice_get_read w.ports.items _ w.first p refl served.first.below c.index.ensures in
    let quiet = all-quiet facts w.ports.items w.first served p at c.args.until
    (c.is_quiet.ensures.0 c.if-is_quiet.true) in
    none-given w _ c.args.until _ refl
    (λ t side h st. stands-later t side w h st c.args.until)
    (λ t side h port s st low high next. quiet-next t side w h st c.args.until quiet port s low high next)
    (λ t side h port st late low high. all-done t side w h st c.args.until quiet served.limit late port low high)
    quiet quiet refl refl

pub returns-then-is_quiet-clause-sound : goal.returns-then-is_quiet-clause-sound
returns-then-is_quiet-clause-sound c =
    let w = c.args.self.now in
    let sound = c.requires.sound in
    record {
      lines = lines-later w.lines.items w.clock c.args.until c.requires.clock sound.lines;
      place_count = sound.place_count;
      places = sound.places;
      port_count = sound.port_count;
      ports = ports-later w.ports.items w.clock c.args.until c.requires.clock sound.ports;
      serving = sound.serving;
      served = sound.served;
    }

pub take_due-requires-clause-given : goal.take_due-requires-clause-given
take_due-requires-clause-given c = λ quiet.
    let w = c.args.self.now in
    let p = c.index.result.now in
    let served = c.requires.sound.served in
    let at = slice_get_read w.ports.items _ w.first p refl served.first.below c.index.ensures in
    let is_so = c.is_quiet.ensures.1 (all-at (λ q. held.IsQuiet facts q c.args.until) w.ports.items w.first
    p quiet at) in
    let not_so = c.if-is_quiet.false in
    absurd (cc (is_so, not_so))
