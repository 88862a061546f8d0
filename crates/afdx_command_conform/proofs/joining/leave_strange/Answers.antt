use Rattle.std.proofs.Common.{refl}
use Rattle.std.proofs.lemmas.Bool.{lt-ltb}
use Rattle.afdx_command_conform.specs.Keeping.{is_known}
use Rattle.afdx_command_conform.proofs.joining.leave_strange.Goals as goal

pub returns : goal.returns
unfolding is_known
returns c t c' until time given lines lawful le falling kept =
    let known = lt-ltb c.args.port 256 c.ranges.port.fits in
    let made = c.in_ok-strangers_at.ensures t c' until time given lines lawful refl known kept in
    c.add_stranger.ensures t c' until time given lines lawful refl known le falling made.1 made.0
