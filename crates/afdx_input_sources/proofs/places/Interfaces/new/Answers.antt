use Rattle.std.proofs.Common.{refl, None}
use Rattle.afdx_input_sources.specs.Places.{place_of}
use Rattle.afdx_input_sources.proofs.TableLemmas.{known-replicate, only-none}
use Rattle.afdx_input_sources.proofs.places.Interfaces.new.Goals as goal

pub returns : goal.returns
unfolding place_of
returns c k =
    known-replicate 4096 k None _ refl (c.in_ok-vec.ensures.items_if_clones_equal (only-none _ (λ x e. e)))
