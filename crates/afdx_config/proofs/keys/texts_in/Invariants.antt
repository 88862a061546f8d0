use Rattle.std.proofs.Common.{◌≡◌, drop}
use Rattle.toml.specs.Data.{as_str}
use Rattle.toml.specs.View.{items_view}
use Rattle.afdx_config.specs.Trees.{lent_texts}
use Rattle.afdx_config.specs.Keys.{all_as}
use Rattle.afdx_config.proofs.GatheredLemmas.{with_front}
use Rattle.afdx_config.proofs.keys.texts_in.Given as goal

abbrev pub invariant-loop-item : goal.invariant-loop-item
invariant-loop-item l = with_front (lent_texts l.words.items)
    (all_as as_str (items_view (drop l.item-index l.items))) ≡ all_as as_str (items_view l.items)
