use Rattle.std.proofs.Common.{[], arith, refl, None}
use Rattle.afdx_replay.proofs.ReplayLemmas.{are-told-start, room-start}
use Rattle.afdx_replay.specs.replaying.Early.{AreEarlyLines}
use Rattle.afdx_replay.proofs.EarlyLemmas.{hears-start}
use Rattle.afdx_replay.proofs.replaying.run.Replay.new.Goals as goal

pub returns : goal.returns
returns g c output = record {
  told = are-told-start c.args.tables.now _ _ output c.in_ok-network.ensures.stands
      c.in_ok-systems.ensures.stands;
  heard = hears-start g.D.Write.contents (AreEarlyLines c.args.tables.now []) None refl;
  early = omega arith;
  clock = c.in_ok-network.ensures.clock;
  few = omega arith;
  room = room-start _ _ c.in_ok-network.ensures.held refl;
}
