-- Which arrivals of a link are accepted, and why the others are dropped. Lists have the newest
-- first.
use Rattle.std.specs.Prelude.{if◌then◌else◌, is_none, Option, Some, None, List, [], ◌∷◌}
use Rattle.std.specs.Prelude.{Bool, true, false, length}
use Rattle.std.specs.Option.{option_or}
use Rattle.afdx_frame.specs.Regulation.{wire_of}
use Rattle.afdx_police.specs.declared.shape.Reason.{Reason}
use Rattle.afdx_police.specs.declared.shape.Reason.TheVariants.{OverRate}
use Rattle.afdx_police.specs.Arrival.{Arrival, own}
use Rattle.afdx_police.specs.Charge.{charge_by}
use Rattle.afdx_police.specs.Rule.{Rule, regulation_of}
use Rattle.afdx_police.specs.Shape.{fault_of}
use Rattle.afdx_police.specs.Window.{Charged, fits}

-- an arrival as the window rule sees it
abbrev pub charged_by : Rule → Arrival → Charged
charged_by rule x = record {
  time = x.time;
  charge = charge_by rule.policing (wire_of rule.lmax) (wire_of (length x.bytes));
}

-- why an arrival is dropped where these of its link were accepted: for its shape, or else for its
-- link's rate
abbrev pub drop_reason : Rule → List Charged → Arrival → Option Reason
drop_reason rule accepted x =
    option_or (fault_of (Some rule) x.port x.bytes)
    (if fits (regulation_of rule) accepted (charged_by rule x) then None else Some OverRate)

-- whether an arrival is dropped for its link's rate
abbrev pub is_over_rate : Option Reason → Bool
is_over_rate (Some OverRate) = true
is_over_rate reason = false

-- those that are accepted of a link's own arrivals
unfoldable pub accepted_own : Rule → List Arrival → List Charged
accepted_own rule [] = []
accepted_own rule (x ∷ past) =
    let accepted = accepted_own rule past in
    if is_none (drop_reason rule accepted x) then charged_by rule x ∷ accepted else accepted

-- why an arrival is dropped that comes after these of its link
unfoldable pub reason_after : Rule → List Arrival → Arrival → Option Reason
reason_after rule past x = drop_reason rule (accepted_own rule past) x

-- those of a link's own arrivals that are accepted
unfoldable pub accepted_arrivals : Rule → List Arrival → List Arrival
accepted_arrivals rule [] = []
accepted_arrivals rule (x ∷ past) =
    if is_none (reason_after rule past x) then x ∷ accepted_arrivals rule past
    else accepted_arrivals rule past

-- why an arrival is dropped that comes after all of these, of any link and side
abbrev pub verdict_in : Rule → List Arrival → Arrival → Option Reason
verdict_in rule all x = reason_after rule (own rule.vl x.side all) x
