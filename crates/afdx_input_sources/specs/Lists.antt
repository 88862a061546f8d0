-- What the lines of a list say one after another, and its first fault, whatever kind of list it is.
-- A list of what was said has the newest first.
use Rattle.std.specs.Prelude.{ℕ, zero, suc, ◌+◌, ◌<◌, ◌≡◌, List, [], ◌∷◌, length, Option, Some, None, Result, Ok, Err, nat_le, nat_lt, slice_index_or, if◌then◌else◌}
use Rattle.afdx_input_lines.specs.declared.fault.RunFault.{RunFault}
use Rattle.afdx_input_lines.specs.declared.fault.RunFault.TheVariants as run
use Rattle.afdx_input_lines.specs.declared.fault.LineFault.{LineFault}
use Rattle.afdx_input_lines.specs.Faults.{fault_of_line}
use Rattle.afdx_input_lines.specs.Lines.{most_lines, longest_line}

-- a kind of list: what a line says that comes after one of the latest time, what that is as
-- something of line n, and its time
pub record Kind (Y X : Type 0) : Type 0 where
  pub says : ℕ → List ℕ → Result (Option Y) LineFault
  pub item : ℕ → Y → X
  pub time : X → ℕ

abbrev pub fault_said : {Y : Type 0} → ℕ → Result (Option Y) LineFault → Option RunFault
fault_said n (Ok said) = None
fault_said n (Err fault) = Some (fault_of_line n fault)

module _ {Y X : Type 0} (k : Kind Y X) where
  -- the time of the newest, or 0
  abbrev pub latest_in : List X → ℕ
  latest_in [] = 0
  latest_in (x ∷ past) = k.time x

  -- these, and what line n says, if it says anything
  abbrev pub with_item : ℕ → Result (Option Y) LineFault → List X → List X
  with_item n (Ok (Some y)) past = k.item n y ∷ past
  with_item n (Ok None) past = past
  with_item n (Err fault) past = past

  -- what a line says that comes after these
  abbrev pub item_after : List X → List ℕ → Result (Option Y) LineFault
  item_after past line = k.says (latest_in past) line

  -- what the first n lines say
  unfoldable pub items_of : List (List ℕ) → ℕ → List X
  items_of lines zero = []
  items_of lines (suc n) =
      with_item (suc n) (item_after (items_of lines n) (slice_index_or lines n []))
      (items_of lines n)

  -- what line n says, counted from 0, after the lines before it
  abbrev pub item_said : List (List ℕ) → ℕ → Result (Option Y) LineFault
  item_said lines n = item_after (items_of lines n) (slice_index_or lines n [])

  -- the fault at line n, counted from 0, after the lines before it: the first false check
  abbrev pub fault_in : List (List ℕ) → ℕ → Option RunFault
  fault_in lines n =
      if nat_le most_lines n then Some run.TooManyLines
      else if nat_lt longest_line (length (slice_index_or lines n []))
      then Some (run.LineTooLong (n + 1))
      else fault_said (n + 1) (item_said lines n)

  -- none of the first n lines has a fault
  abbrev pub HaveNoFault : List (List ℕ) → ℕ → Type 0
  HaveNoFault lines n = (i : ℕ) → i < n → fault_in lines i ≡ None

  -- the first fault of these lines stands at line n, counted from 0
  abbrev pub HaveFirstFault : List (List ℕ) → ℕ → RunFault → Type 0
  HaveFirstFault lines n fault =
      (n < length lines) × HaveNoFault lines n × (fault_in lines n ≡ Some fault)
