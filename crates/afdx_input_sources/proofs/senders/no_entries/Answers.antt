use Rattle.std.proofs.Common.{refl, None}
use Rattle.afdx_input_sources.proofs.TableLemmas.{known-replicate, only-none}
use Rattle.afdx_input_sources.proofs.senders.no_entries.Goals as goal

pub returns-clause-none : goal.returns-clause-none
returns-clause-none c number =
    known-replicate 65536 number None _ refl
    (c.in_ok-entries.ensures.items_if_clones_equal (only-none _ (λ x e. e)))
