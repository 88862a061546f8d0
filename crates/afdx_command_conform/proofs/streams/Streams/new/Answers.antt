use Rattle.std.proofs.Common.{refl, ◌+◌, ◌*◌, ap}
use Rattle.afdx_command_conform.proofs.GivenLemmas.{given-none}
use Rattle.afdx_command_conform.proofs.streams.Streams.new.Goals as goal

pub returns-clause-stands : goal.returns-clause-stands
returns-clause-stands c c' until by sight = record {
  lawful = c.link_count.ensures.lawful;
  tables = refl;
  by = by;
  sight = sight;
  kept = given-none c.args.tables.now c' until c.in_ok-kept.kept
      (c.in_ok-kept.ensures c.args.tables.now c' until 0 (ap (λ n. 512 + 64 * n) c.link_count.ensures.count));
}
