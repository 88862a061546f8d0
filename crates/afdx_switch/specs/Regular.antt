-- A link's stream at its sender's port that keeps the link's gap. A list of arrivals has the newest
-- first.
use Rattle.std.specs.Prelude.{ℕ, ◌==◌, List, filter, map}
use Rattle.std.specs.List.{AllByRecursion}
use Rattle.afdx_police.specs.Arrival.{Arrival}
use Rattle.afdx_police.specs.Rule.{Rule, regulation_of}
use Rattle.afdx_police.specs.Shape.{IsSound}
use Rattle.afdx_police.specs.Stream.{IsRegular}
use Rattle.afdx_police.specs.Verdicts.{charged_by}
use Rattle.afdx_switch.specs.declared.verdict.Verdict.{Verdict}
use Rattle.afdx_switch.specs.declared.verdict.Verdict.TheVariants.{Dropped, Accepted}

-- of a link's own arrivals, those that come at its port
abbrev pub at_port : Rule → List Arrival → List Arrival
at_port rule own = filter (λ x. rule.port == x.port) own

-- nothing is wrong in each
abbrev pub AreSound : Rule → List Arrival → Type 0
AreSound rule arrivals = AllByRecursion (λ x. IsSound rule x.port x.bytes) arrivals

-- those at its port are sound, and each was released a gap or more after the one before, and came
-- at most the jitter later
pub record IsRegularAt (rule : Rule) (own : List Arrival) : Type 0 where
  pub sound : AreSound rule (at_port rule own)
  pub next : ℕ
  pub regular : IsRegular (regulation_of rule) (map (charged_by rule) (at_port rule own)) next

-- the frame isn't dropped
abbrev pub IsAccepted : Verdict → Type 0
IsAccepted (Dropped reason) = ⊥
IsAccepted (Accepted lost) = Unit {0}
