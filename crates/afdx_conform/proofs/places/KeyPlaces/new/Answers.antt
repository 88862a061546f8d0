use Rattle.afdx_conform.proofs.PlacesLemmas.{kept-empty}
use Rattle.afdx_conform.proofs.places.KeyPlaces.new.Goals as goal

pub returns : goal.returns
returns c key = kept-empty (record { alloc = c.args.alloc; by_key = c.new.result }) c.new.ensures.empty key
