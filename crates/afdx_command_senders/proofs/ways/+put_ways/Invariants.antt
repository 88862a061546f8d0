use Rattle.std.proofs.Common.{length}
use Rattle.afdx_command_senders.proofs.ways.+put_ways.Given as goal

abbrev pub decreases-put_ways : goal.decreases-put_ways
decreases-put_ways l = length l.places.now
