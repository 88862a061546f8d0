use Rattle.std.proofs.Common.{length}
use Rattle.afdx_config.proofs.read_links.+has_repeat.Given as goal

abbrev pub decreases-has_repeat : goal.decreases-has_repeat
decreases-has_repeat l = length l.ids.now
