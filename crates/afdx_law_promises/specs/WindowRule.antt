-- The window rule on a link's own arrivals: each window is tried, and no account is kept. Lists
-- have the newest first.
use Rattle.std.specs.Prelude.{◌≡◌, Option, Some, None, List, [], ◌∷◌, map}
use Rattle.afdx_police.specs.Arrival.{Arrival}
use Rattle.afdx_police.specs.Rule.{Rule, regulation_of}
use Rattle.afdx_police.specs.Shape.{fault_of}
use Rattle.afdx_police.specs.Verdicts.{charged_by}
use Rattle.afdx_police.specs.Window.{Fits}
use Rattle.afdx_police.specs.declared.shape.Reason.{Reason}
use Rattle.afdx_police.specs.declared.shape.Reason.TheVariants.{OverRate}
use Rattle.afdx_law_promises.specs.Lines.{Judged, accepted_in}

-- the arrival itself, alone
abbrev pub fault_in : Rule → Arrival → Option Reason
fault_in rule x = fault_of (Some rule) x.port x.bytes

-- with these arrivals of its link accepted before it, an arrival keeps every window
abbrev pub KeepsWindows : Rule → List Arrival → Arrival → Type 0
KeepsWindows rule accepted x =
    Fits (regulation_of rule) (map (charged_by rule) accepted) (charged_by rule x)

-- the window rule's answer: the first fault of its shape, if it has one; or else it is accepted
-- exactly if it keeps every window
pub record IsByWindowRule (rule : Rule) (accepted : List Arrival) (v : Judged) : Type 0 where
  pub shape : (fault : Reason) → fault_in rule v.arrival ≡ Some fault → v.reason ≡ Some fault
  pub fits : fault_in rule v.arrival ≡ None →
      KeepsWindows rule accepted v.arrival →
      v.reason ≡ None
  pub over_rate : fault_in rule v.arrival ≡ None →
      (KeepsWindows rule accepted v.arrival → ⊥) →
      v.reason ≡ Some OverRate

-- each of these verdicts is the window rule's, after those before it
abbrev pub AreByWindowRule : Rule → List Judged → Type 0
AreByWindowRule rule [] = Unit {0}
AreByWindowRule rule (v ∷ before) =
    IsByWindowRule rule (accepted_in before) v × AreByWindowRule rule before
