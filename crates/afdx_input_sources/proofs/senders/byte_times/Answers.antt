use Rattle.std.proofs.Common.{refl, None}
use Rattle.afdx_input_sources.proofs.TableLemmas.{known-replicate, only-none}
use Rattle.afdx_input_sources.proofs.senders.byte_times.Goals as goal

pub put_byte_times-requires-clause-none : goal.put_byte_times-requires-clause-none
put_byte_times-requires-clause-none c port =
    known-replicate 256 port None _ refl (c.in_ok-times.ensures.items_if_clones_equal (only-none _ (λ x e. e)))
