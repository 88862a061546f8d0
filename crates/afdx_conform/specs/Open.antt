-- How many accepted arrivals wait in what explains a stream: their frames may have left behind the
-- end. Lists of arrivals and frames have the oldest first.
use Rattle.std.specs.Prelude.{◌≡◌, ℕ, ◌≤◌, false, List, [], length, reverse}
use Rattle.afdx_police.specs.Arrival.{Arrival}
use Rattle.afdx_conform.specs.Events.{GoUp, arrival_times, judged_whole}
use Rattle.afdx_conform.specs.Explanations.{Explains}
use Rattle.afdx_conform.specs.Headline.{sound_of}
use Rattle.afdx_conform.specs.Histories.{least_waiting}
use Rattle.afdx_conform.specs.Streams.{Gone, Terms}

-- something explains these, with so many that wait, and nothing does with fewer; lists have the
-- newest first
pub record AreLeastOpen (z : Terms) (sound : List Arrival) (frames : List Gone) (count : ℕ)
    : Type 0 where
  pub some : Explains z sound frames
  pub are_so_many : length some.waiting ≡ count
  pub none_has_fewer : (other : Explains z sound frames) → count ≤ length other.waiting

-- where nothing is found, and it isn't unsure, that is what is counted as open
abbrev pub OpenIsLeast : Type 0
OpenIsLeast =
    (z : Terms) (xs : List Arrival) (ys : List Gone) →
    GoUp (arrival_times xs) →
    (judged_whole z xs ys).is_unsure ≡ false →
    (judged_whole z xs ys).findings ≡ [] →
    AreLeastOpen z (sound_of z.rule (reverse xs)) (reverse ys)
    (least_waiting (judged_whole z xs ys).states)
