use Rattle.std.proofs.Common.{◌≡◌, ◌<◌, drop, length}
use Rattle.std.specs.List.{AllByRecursion}
use Rattle.afdx_config.specs.Rows.{system_places}
use Rattle.afdx_config.specs.Trees.{lent_texts}
use Rattle.afdx_config.specs.Reading.{all_of, system_named}
use Rattle.afdx_config.proofs.GatheredLemmas.{with_front}
use Rattle.afdx_config.proofs.read_links.all_named.Given as goal

abbrev pub invariant-loop-name : goal.invariant-loop-name
invariant-loop-name l = (with_front (system_places l.ids.items)
    (all_of (system_named l.systems) (lent_texts (drop l.name-index l.names)))
    ≡ all_of (system_named l.systems) (lent_texts l.names)) × (length l.ids.items ≡ l.name-index)
    × AllByRecursion (λ i. i < length l.systems) (system_places l.ids.items)
