use Rattle.std.proofs.Common.{◌+◌, arith, refl}
use Rattle.std.proofs.lemmas.Option.{slice_get_read}
use Rattle.afdx_port.specs.History as queue
use Rattle.afdx_port.proofs.FirstLemmas.{all-quiet}
use Rattle.afdx_port.proofs.NextClassLemmas.{not-quiet}
use Rattle.afdx_switch.specs.HeldFrames.{facts}
use Rattle.afdx_switch.specs.Switching.{calls_at}
use Rattle.afdx_switch.proofs.CallLemmas.{given}
use Rattle.afdx_switch.proofs.TakeLemmas.{next-of, stands-after, taken-sound, lines-later, gone, held-set}
use Rattle.afdx_switch.proofs.switch_state.SwitchState.take_due.Goals as goal

-- a port gives a turn by then, so the first one does
pub take_due-left-requires-clause-given : goal.take_due-left-requires-clause-given
take_due-left-requires-clause-given c =
    let w = c.args.self.now in
    let p = c.index_mut-port.result.now in
    let served = c.requires.sound.served in
    let at = slice_get_read w.ports.items _ w.first p refl served.first.below c.index_mut-port.ensures.value in
    not-quiet facts p c.args.until (λ quiet. c.requires.given
    (all-quiet facts w.ports.items w.first served p at c.args.until quiet))

pub returns-clause-sound : goal.returns-clause-sound
returns-clause-sound c =
    let w = c.args.self.now in
    let at = slice_get_read w.ports.items _ w.first c.index_mut-port.result.now refl
    c.requires.sound.served.first.below c.index_mut-port.ensures.value in
    record {
      lines = lines-later w.lines.items w.clock c.args.until c.requires.clock c.requires.sound.lines;
      place_count = c.requires.sound.place_count;
      places = c.requires.sound.places;
      port_count = c.requires.sound.port_count;
      ports = taken-sound w.ports.items w.clock c.args.until w.first c.index_mut-port.result.now
          c.take_due-left.new.self
          c.requires.sound.ports c.requires.clock c.requires.sound.served.first.below at c.take_due-left.ensures.clock
          (λ calls stands. (let gives = c.take_due-left.ensures.given calls stands in
          (queue.with_take calls gives.turn c.args.until, gives.stands)));
      serving = c.renew.ensures w.ports.items c.requires.sound.serving;
      served = c.first-self.ensures _ (c.renew.ensures w.ports.items c.requires.sound.serving);
    }

pub returns-clause-takes : goal.returns-clause-takes
returns-clause-takes c =
    let w = c.args.self.now in
    let p = c.index_mut-port.result.now in
    let new = c.take_due-left.new.self in
    let served = c.requires.sound.served in
    let at = slice_get_read w.ports.items _ w.first p refl served.first.below c.index_mut-port.ensures.value in
    given w _ c.args.until _ refl
    (λ t side h st. (
    let gives = c.take_due-left.ensures.given (calls_at t side (w.first + 1) h p.clock) (st.ports w.first p at) in
    record {
      gone = gone t side w h st served p at c.args.until new c.take_due-left.result gives;
      next = next-of t side w h st served p at gives.turn gives.next;
      in_time = gives.in_time;
      hands = record { port = refl; left = gives.is };
      stands = stands-after t side w h st served p at c.args.until new c.take_due-left.result gives
          _ refl refl refl refl;
    }))
    (omega (arith, held-set w.ports.items w.first p new at, c.take_due-left.ensures.held)) refl
