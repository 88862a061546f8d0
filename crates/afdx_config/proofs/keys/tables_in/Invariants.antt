use Rattle.std.proofs.Common.{◌≡◌, drop}
use Rattle.toml.specs.Data.{as_table}
use Rattle.toml.specs.View.{items_view}
use Rattle.afdx_config.specs.Trees.{trees}
use Rattle.afdx_config.specs.Keys.{all_as}
use Rattle.afdx_config.proofs.GatheredLemmas.{with_front}
use Rattle.afdx_config.proofs.keys.tables_in.Given as goal

abbrev pub invariant-loop-item : goal.invariant-loop-item
invariant-loop-item l = with_front (trees l.rows.items)
    (all_as as_table (items_view (drop l.item-index l.items))) ≡ all_as as_table (items_view l.items)
