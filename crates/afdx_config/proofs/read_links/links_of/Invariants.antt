use Rattle.std.proofs.Common.{◌≡◌, drop, length, []}
use Rattle.afdx_config.specs.Lawful.{AreLinksUpTo, HaveSystemJitter, jitter_from_any}
use Rattle.afdx_config.specs.Trees.{trees}
use Rattle.afdx_config.specs.Reading.{each, link_at}
use Rattle.afdx_config.proofs.read_links.links_of.Given as goal

abbrev pub invariant-loop-table : goal.invariant-loop-table
invariant-loop-table l = record {
  so_far : each (link_at l.kept l.own l.ends) l.links (trees (drop l.table-index l.tables))
      ≡ each (link_at l.kept l.own l.ends) [] (trees l.tables);
  count : length l.links ≡ l.table-index;
  lawful : AreLinksUpTo jitter_from_any (length l.ends) l.links;
  sent : HaveSystemJitter l.own l.links;
}
