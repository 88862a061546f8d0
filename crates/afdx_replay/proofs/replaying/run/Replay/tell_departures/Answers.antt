use Rattle.std.proofs.Common.{◌∷◌, ◌∙◌, ℕ, List, subst, sym}
use Rattle.afdx_police.specs.Arrival.{Arrival}
use Rattle.afdx_network.specs.Events.{Left}
use Rattle.afdx_network.specs.Network as network
use Rattle.afdx_replay.specs.replaying.Replayed.{WritesSome, ToldAll, HasRoom}
use Rattle.afdx_replay.proofs.ReplayLemmas.{told-left, begun-left, told-all, room-low}
use Rattle.afdx_text.proofs.OutputLemmas.{on-err}
use Rattle.afdx_replay.proofs.replaying.run.Replay.tell_departures.Goals as goal

pub tell_departure-requires : goal.tell_departure-requires
tell_departure-requires g c =
    let n = c.requires.room in
    record {
      low = room-low c.loop-departed.self.counts (network.frames_held c.loop-departed.self.network) n.0 n.1
          (c.loop-departed.invariant.room n.0 n.2);
      sound = c.loop-departed.invariant.sound;
    }

pub loop-departed-preserved : goal.loop-departed-preserved
loop-departed-preserved g c =
    record {
      clock = c.take.ensures.clock;
      sound = c.in_ok-tell_departure.ensures.sink.failed;
      settings = c.tell_departure.ensures.sink.settings ∙ c.loop-departed.invariant.settings;
      early = c.loop-departed.invariant.early;
      room = λ n h.
          c.in_ok-tell_departure.ensures.room n (network.frames_held c.take.new.self)
          (subst (λ (k : ℕ). HasRoom c.loop-departed.self.counts k n)
          (sym c.in-Some.ensures.held) (c.loop-departed.invariant.room n h));
      told = λ t events start h.
          let k = c.loop-departed.invariant.told t events start h in
          let n = c.in-Some.ensures.given t k.0 k.2.switches_are in (
            Left n.departure ∷ k.0,
            k.1,
            told-left t _ _ _ _ _ _ start _ _ k.0 n.departure k.2 n.stands
                (c.in_ok-tell_departure.ensures.told t k.0 n.departure k.2.systems_are n.hands),
          );
    }

pub returns-in_err-tell_departure-clause-some : goal.returns-in_err-tell_departure-clause-some
returns-in_err-tell_departure-clause-some g c t events start h =
    let k = c.loop-departed.invariant.told t events start h in
    let n = c.in-Some.ensures.given t k.0 k.2.switches_are in
    on-err c.from_residual.result _
    (subst (λ (p : List Arrival). WritesSome t start
    (g.O.Sink.written c.tell_departure.new.output) p) k.1
    (begun-left t _ c.take.new.self _ _ start _ _ k.0 n.departure k.2 n.stands
    (c.in_err-tell_departure.ensures.begun t k.0 n.departure k.2.systems_are n.hands)))

pub returns-clause-room : goal.returns-clause-room
returns-clause-room g c n h =
    subst (λ (k : ℕ). HasRoom c.loop-departed.self.counts k n) (sym c.in_default.ensures.held)
    (c.loop-departed.invariant.room n h)

pub returns-clause-all_done : goal.returns-clause-all_done
returns-clause-all_done g c t events start h late =
    let k = c.loop-departed.invariant.told t events start h in
    subst (λ (p : List Arrival). ToldAll t c.loop-departed.self.counts start
    (g.O.Sink.written c.loop-departed.output) p) k.1
    (told-all t _ _ _ start _ k.0 k.2 (c.in_default.ensures.all_done t k.0 k.2.switches_are late))
