-- In which order the arrivals of a recording are taken: by their moments, and those of one moment
-- as they stand. A list has the newest first, and one in order the latest.
use Rattle.std.specs.Prelude.{ℕ, ◌+◌, Bool, ◌&&◌, nat_lt, [], ◌∷◌, ◌++◌, length, take, drop, Option, Some, None, if◌then◌else◌}
use Rattle.afdx_input_lines.specs.declared.recording_fault.RecordingFault.TheVariants.{TimeBack}
use Rattle.afdx_input_files.specs.Recordings.{Recording, Ending, Faulted}
use Rattle.afdx_input_sources.specs.Engine.{Item}
use Rattle.afdx_input_sources.specs.declared.number.Number.{Number}
use Rattle.afdx_input_sources.specs.declared.counts.Tally.{Tally}
use Rattle.afdx_input_sources.specs.declared.places.TapPoint.{TapPoint}
use Rattle.afdx_input_sources.specs.Becoming.{Options}
use Rattle.afdx_input_sources.specs.Claims.{Ports}
use Rattle.afdx_input_sources.specs.Places.{first_unused_behind, unused_behind}
use Rattle.afdx_input_sources.specs.Sequences.{Numbers, Outcome, as_read, counts_of, is_arrival, moment_or}

-- the moment of an arrival
abbrev pub moment_of : Item Number → ℕ
moment_of x = moment_or x.head 0

-- the moment of `y` is later than that of `x`
abbrev pub is_later : (y x : Item Number) → Bool
is_later y x = nat_lt (moment_of x) (moment_of y)

-- ---- the order

-- an arrival among those that stand in order, all of which were read before it
unfoldable pub put_among : Item Number → Numbers → Numbers
put_among x [] = x ∷ []
put_among x (y ∷ past) = if is_later y x then y ∷ put_among x past else x ∷ y ∷ past

-- the arrivals among these numbers, in order
unfoldable pub in_order : Numbers → Numbers
in_order [] = []
in_order (x ∷ past) = if is_arrival x.head then put_among x (in_order past) else in_order past

-- the arrivals among these numbers, as they stand
unfoldable pub arrivals_only : Numbers → Numbers
arrivals_only [] = []
arrivals_only (x ∷ past) =
    if is_arrival x.head then x ∷ arrivals_only past else arrivals_only past

-- ---- how far it may go back

-- how many of the arrivals among these have a later moment
unfoldable pub later_among : Item Number → Numbers → ℕ
later_among x [] = 0
later_among x (y ∷ past) =
    (if is_arrival y.head && is_later y x then 1 else 0) + later_among x past

-- an arrival goes back too far: more than `most` of those before it have a later moment
abbrev pub goes_back : (most : ℕ) → Item Number → Numbers → Bool
goes_back most x past = is_arrival x.head && nat_lt most (later_among x past)

-- numbers up to the first arrival that goes back too far, and its number
pub record Forward : Type 0 where
  pub numbers : Numbers
  pub back : Option ℕ

abbrev pub forward_next : (most : ℕ) → Item Number → Numbers → Option ℕ → Forward
forward_next most x past (Some n) = record { numbers = past; back = Some n }
forward_next most x past None =
    if goes_back most x past then record { numbers = past; back = Some x.number }
    else record { numbers = x ∷ past; back = None }

unfoldable pub forward : (most : ℕ) → Numbers → Forward
forward most [] = record { numbers = []; back = None }
forward most (x ∷ past) =
    let before = forward most past in forward_next most x before.numbers before.back

-- ---- when they are taken

-- what one number more hands on, where these are all arrivals so far: itself if it is skipped, else
-- the arrival behind which `most` others come
abbrev pub hands_on : (most : ℕ) → Item Number → Numbers → Numbers
hands_on most x ordered = if is_arrival x.head then take 1 (drop most ordered) else x ∷ []

-- what these numbers hand on, once they are read
unfoldable pub handed_on : (most : ℕ) → Numbers → Numbers
handed_on most [] = []
handed_on most (x ∷ past) = hands_on most x (in_order (x ∷ past)) ++ handed_on most past

-- and with what is still held where they end
abbrev pub all_handed : (most : ℕ) → Numbers → Numbers
all_handed most past = take most (in_order past) ++ handed_on most past

-- ---- the sequence of a recording

-- all numbers as they are taken; those that are taken before anything is known of the end; how it
-- ends; and what was read
pub record Sequence : Type 0 where
  pub numbers : Numbers
  pub known : Numbers
  pub ending : Ending
  pub tally : Tally

abbrev pub tally_of : (ℕ → Option TapPoint) → Outcome → Tally
tally_of place outcome = record {
  numbers = length outcome.numbers;
  counts = counts_of outcome.numbers;
  lost = outcome.totals.lost;
  unused = unused_behind outcome.totals.interfaces place;
  absent = first_unused_behind outcome.totals.interfaces place;
}

abbrev pub ending_or : Option ℕ → Ending → Ending
ending_or (Some n) ending = Faulted (TimeBack n)
ending_or None ending = ending

-- what is read, put in order
abbrev pub ordered : (most : ℕ) → (ℕ → Option TapPoint) → Outcome → Sequence
ordered most place outcome =
    let all = forward most outcome.numbers in
    record {
      numbers = all_handed most all.numbers;
      known = handed_on most all.numbers;
      ending = ending_or all.back outcome.ending;
      tally = tally_of place outcome;
    }

abbrev pub sequence : Options → Ports → Recording → Sequence
sequence options ports recording =
    ordered options.reorder options.place (as_read options ports recording)
