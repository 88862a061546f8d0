use Rattle.std.proofs.Common.{◌≡◌, map}
use Rattle.afdx_lawful.specs.Ways.{way_of}
use Rattle.afdx_command_senders.specs.LinkWays.{ways_over}
use Rattle.afdx_command_senders.proofs.ways.cascade_ways.Given as goal

abbrev pub invariant-loop-k : goal.invariant-loop-k
invariant-loop-k l = map way_of l.ways.items ≡ ways_over l.switches l.vl.0 l.k
