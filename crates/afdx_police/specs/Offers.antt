-- A link's own arrivals as offers to its policer, the newest first.
use Rattle.std.specs.Prelude.{is_none, Some, List, length, filter, map}
use Rattle.afdx_police.specs.Arrival.{Arrival}
use Rattle.afdx_police.specs.Policer.{Offer}
use Rattle.afdx_police.specs.Rule.{Rule}
use Rattle.afdx_police.specs.Shape.{fault_of}

abbrev pub offer_of : Arrival → Offer
offer_of x = record { time = x.time; length = length x.bytes }

-- those that have no fault in their shape
abbrev pub offers_of : Rule → List Arrival → List Offer
offers_of rule own = map offer_of (filter (λ x. is_none (fault_of (Some rule) x.port x.bytes)) own)
