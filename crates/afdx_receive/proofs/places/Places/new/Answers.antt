use Rattle.afdx_receive.proofs.PlacesLemmas.{none_yet}
use Rattle.afdx_receive.proofs.places.Places.new.Goals as goal

pub returns-clause-none : goal.returns-clause-none
returns-clause-none c = λ vl. none_yet
    (record { pages = c.new.result.items; slots = c.new-2.result.items }) vl c.new.ensures.items
