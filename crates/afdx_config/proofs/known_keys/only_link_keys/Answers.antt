use Rattle.std.proofs.Common.{sym}
use Rattle.afdx_config.specs.Keys.{link_keys, only_link_keys}
use Rattle.afdx_config.proofs.known_keys.only_link_keys.Goals as goal

pub returns : goal.returns
unfolding link_keys only_link_keys
returns c = rw (sym c.place.ensures) c.only.ensures
