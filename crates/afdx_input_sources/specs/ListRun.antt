-- What a run over a list answers, whatever kind of list it is and whatever machine tells it.
use Rattle.std.specs.Prelude.{ℕ, ◌≡◌, ◌⊎◌, List, length, map, Option, Result, Ok, Err}
use Rattle.afdx_input_lines.specs.Lines.{lines_of}
use Rattle.afdx_input_lines.specs.declared.fault.RunFault.{RunFault}
use Rattle.afdx_input_sources.specs.Engine.{Item}
use Rattle.afdx_input_sources.specs.Lists.{Kind, items_of, HaveNoFault}
use Rattle.afdx_input_sources.specs.Stops.{StopsIn}

-- these are what some items say of which this is told
abbrev pub Of : {H X : Type 0} → (Item H → X) → (List (Item H) → Type 0) → List X → Type 0
Of {H} said told xs = (past : List (Item H)) × (xs ≡ map said past) × told past

-- all lines were read, none has a fault, and this is told of all that they say
pub record IsDone {Y X : Type 0} (k : Kind Y X) (told : List X → Type 0) (n : ℕ)
    (lines : List (List ℕ)) : Type 0 where
  pub all : n ≡ length lines
  pub sound : HaveNoFault k lines (length lines)
  pub are_told : told (items_of k lines (length lines))

-- what a run answers that is given a list of these bytes, after which the input has `rest`: how
-- many lines it has, or where it stops
abbrev pub ListAnswers : {H Y X : Type 0} → Kind Y X → (Item H → X) →
    (done told begins : List (Item H) → Type 0) → List ℕ → Option (List ℕ) →
    Result ℕ RunFault → Type 0
ListAnswers k said done told begins bytes rest (Ok n) = IsDone k (Of said done) n (lines_of bytes)
ListAnswers k said done told begins bytes rest (Err fault) =
    StopsIn k (Of said told) (Of said (λ past. told past ⊎ begins past)) bytes rest fault
