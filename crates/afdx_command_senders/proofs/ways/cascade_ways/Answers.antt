use Rattle.std.proofs.Common.{ap, ◌∙◌, map}
use Rattle.afdx_lawful.specs.Ways.{way_of}
use Rattle.afdx_command_senders.proofs.WayLemmas.{no-ways, ways-next}
use Rattle.afdx_command_senders.proofs.ways.cascade_ways.Goals as goal

pub loop-k-init : goal.loop-k-init
loop-k-init c = ap (map way_of) c.new-ways.ensures.items ∙ no-ways c.args.switches.now c.args.vl.0

pub loop-k-preserved : goal.loop-k-preserved
loop-k-preserved c =
    ways-next c.args.switches.now c.args.vl.0 c.loop-k.k (map way_of c.loop-k.ways.items) _ c.loop-k.invariant
    c.in_ok-put_ways_at.ensures
