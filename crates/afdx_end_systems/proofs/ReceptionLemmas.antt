-- The line of what a system answers, and whether that is a message.
use Rattle.std.proofs.Common.{◌≡◌, ℕ, false, List, [], Option, Some, None, ap, refl, sym}
use Rattle.std.specs.Option.{option_map_or}
use Rattle.afdx_config.specs.Rows.{Rows}
use Rattle.afdx_config.specs.Reading.{listener_at}
use Rattle.afdx_receive.specs.Answers.{Answer}
use Rattle.afdx_end_systems.specs.Handovers.{HandedOver, came_to}
use Rattle.afdx_end_systems.specs.Receptions.{answer_line, is_message, name_of}
use Rattle.afdx_end_systems.specs.Receptions.{answered_at, answered, line_at, is_delivered_at}
use Rattle.afdx_end_systems.specs.Receptions.{name_at, reception_line, is_delivered}

same_answer : {x y : Answer} → Some x ≡ Some y → x ≡ y
same_answer e = cc

-- what is told of this answer
abbrev pub IsToldAs : Rows → List HandedOver → HandedOver → Answer → Type 0
IsToldAs rows before d answer =
    (reception_line rows before d ≡ answer_line d.time d.line (name_at rows d.port) answer)
    × (is_delivered rows before d ≡ is_message answer)

pub told-as : (rows : Rows) (before : List HandedOver) (d : HandedOver) (answer : Answer)
    → Some answer ≡ answered rows before d → IsToldAs rows before d answer
unfolding answered reception_line is_delivered name_at
told-as rows before d answer e = by (listener_at rows d.port) e
  where
    by : (place : Option ℕ) → Some answer ≡ answered_at rows (came_to d.port before) d place
        → (line_at rows (came_to d.port before) d place
        ≡ answer_line d.time d.line (option_map_or (name_of rows) place []) answer)
        × (is_delivered_at rows (came_to d.port before) d place ≡ is_message answer)
    by None e = absurd cc
    by (Some system) e =
        let same = same_answer e in (
          ap (answer_line d.time d.line (name_of rows system)) (sym same),
          ap is_message (sym same),
        )

-- where no system is, nothing is told
pub told-nothing : (rows : Rows) (before : List HandedOver) (d : HandedOver)
    → None ≡ answered rows before d → (reception_line rows before d ≡ []) × (is_delivered rows before d ≡ false)
unfolding answered reception_line is_delivered
told-nothing rows before d e = by (listener_at rows d.port) e
  where
    by : (place : Option ℕ) → None ≡ answered_at rows (came_to d.port before) d place
        → (line_at rows (came_to d.port before) d place ≡ [])
        × (is_delivered_at rows (came_to d.port before) d place ≡ false)
    by None e = (refl, refl)
    by (Some system) e = absurd cc
