use Rattle.std.proofs.Common.{arith}
use Rattle.afdx_config.specs.Keys.{top_keys}
use Rattle.afdx_config.proofs.AmongOthersLemmas.{ends_alone}
use Rattle.afdx_config.proofs.read.tables_of.Goals as goal

pub new-requires : goal.new-requires
unfolding top_keys
new-requires c = record {
  profile = rw c.top_at.ensures.spot at c.in_ok-profile.ensures.known;
  buffer = rw c.top_at-2.ensures.spot at c.in_ok-buffer.ensures.within;
  own = omega (arith, c.len-own.ensures.len);
  systems = ends_alone c.in_ok-profile.profile c.len-own.result c.in_ok-systems-2.systems c.len-own.ensures.len
      c.in_ok-systems-2.ensures.lawful;
  links = c.in_ok-links-2.ensures.lawful;
  sent = c.in_ok-links-2.ensures.sent;
  ports = c.in_ok-coms.ensures.lawful;
  heard = c.in_ok-coms.ensures.own;
}
