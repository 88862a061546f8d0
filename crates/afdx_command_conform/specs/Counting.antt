-- What is counted of the streams of some frames, the newest first, if the recordings end then.
use Rattle.std.specs.Prelude.{ℕ, ◌≡◌, ◌+◌, ◌&&◌, ◌||◌, Bool, false, true, not, nat_eq, List, [], ◌∷◌, None, reverse, min, if◌then◌else◌}
use Rattle.afdx_law_bounds.specs.Tables.{port_of}
use Rattle.afdx_config.specs.Rows.{LinkRow, Rows}
use Rattle.afdx_frame.specs.declared.link.Side.{Side}
use Rattle.afdx_frame.specs.declared.link.Side.TheVariants.{A, B}
use Rattle.afdx_conform.specs.Findings.{Found, Judged}
use Rattle.afdx_conform.specs.Histories.{counts_of, judged_of}
use Rattle.afdx_conform.specs.Streams.{Gone, Terms}
use Rattle.afdx_conform.specs.declared.counts.Counts.{Counts}
use Rattle.afdx_input_runs.specs.Joining.{Frame}
use Rattle.afdx_police.specs.Arrival.{Arrival}
use Rattle.afdx_command_conform.specs.Choices.{Choices, left_out_of, until_or}
use Rattle.afdx_command_conform.specs.Frames.{arrivals_of, frames_of, terms_at}
use Rattle.afdx_command_conform.specs.Keeping.{IsStreamOf, given_of, slot_at}
use Rattle.afdx_command_conform.specs.Lines.{Due, lines_of}
use Rattle.afdx_command_conform.specs.Slots.{StreamEnds}
use Rattle.afdx_command_conform.specs.Tapped.{is_judged, unseen_of}
use Rattle.afdx_command_conform.specs.Telling.{findings_in, most_counted}
use Rattle.afdx_command_conform.specs.Waiting.{slot_due}
use Rattle.afdx_command_conform.specs.declared.kept.KeptByKey.{KeptByKey}
use Rattle.afdx_command_conform.specs.declared.key.Key.{Key}
use Rattle.afdx_command_conform.specs.declared.totals.Totals.{Totals}

-- how many frames are explained; how many left, or may have left, where the recordings had ended;
-- of how many arrivals both answers were right; how many streams are idle; and whether some stream
-- could be explained in too many ways
pub record Counted : Type 0 where
  pub explained : ℕ
  pub waiting : ℕ
  pub uncertain : ℕ
  pub idle : ℕ
  pub is_unsure : Bool

abbrev pub none_counted : Counted
none_counted = record { explained = 0; waiting = 0; uncertain = 0; idle = 0; is_unsure = false }

abbrev pub one_counted : Counts → (idle : ℕ) → (is_unsure : Bool) → Counted
one_counted n idle is_unsure = record {
  explained = n.explained;
  waiting = n.waiting;
  uncertain = n.uncertain;
  idle = idle;
  is_unsure = is_unsure;
}

abbrev pub has_some : List Found → Bool
has_some [] = false
has_some (found ∷ more) = true

-- a line is told of a stream that is judged so
abbrev pub is_told : Judged → Bool
is_told j = j.is_unsure || has_some j.findings

-- 1 if a stream is idle: none of its frames is explained, and no line is told of it
abbrev pub idle_if : (explained : ℕ) → (is_told : Bool) → ℕ
idle_if explained is_told = if nat_eq explained 0 && not is_told then 1 else 0

-- of one stream of these arrivals and frames, the oldest first
abbrev pub stream_counted : Terms → List Arrival → List Gone → Counted
stream_counted z xs ys = one_counted (counts_of z xs ys)
    (idle_if (counts_of z xs ys).explained (is_told (judged_of z xs ys)))
    (judged_of z xs ys).is_unsure

-- of several
abbrev pub both_counted : Counted → Counted → Counted
both_counted a b = record {
  explained = a.explained + b.explained;
  waiting = a.waiting + b.waiting;
  uncertain = a.uncertain + b.uncertain;
  idle = a.idle + b.idle;
  is_unsure = a.is_unsure || b.is_unsure;
}

module _ (t : Rows) (c : Choices) (until : ℕ) (frames : List Frame) where
  -- of a link's stream at a port, if it is judged
  unfoldable pub counted_at : Side → LinkRow → (port : ℕ) → Counted
  counted_at side l port = if is_judged t c.sight side l port
      then stream_counted (terms_at t c until l port)
      (reverse (arrivals_of t c l.vl side frames)) (reverse (frames_of t c l.vl side port frames))
      else none_counted

  -- of its streams on a side to these systems; of all of these links' on it; of all on both sides
  unfoldable pub counted_to : Side → LinkRow → (to : List ℕ) → Counted
  counted_to side l [] = none_counted
  counted_to side l (system ∷ to) =
      both_counted (counted_at side l (port_of t system)) (counted_to side l to)

  unfoldable pub counted_among : Side → List LinkRow → Counted
  counted_among side [] = none_counted
  counted_among side (l ∷ links) =
      both_counted (counted_to side l l.to) (counted_among side links)

  abbrev pub counted_of : Counted
  counted_of = both_counted (counted_among A t.links) (counted_among B t.links)

  -- the events of each stream are over
  abbrev pub AreEnded : KeptByKey → Type 0
  AreEnded kept = (k : Key) (l : LinkRow) → IsStreamOf t k l
      → (slot_due (slot_at kept.slots.items k) ≡ None)
      × (lines : List Due) × StreamEnds (terms_at t c until l k.port) k (given_of t c frames k).came
      (given_of t c frames k).left lines (slot_at kept.slots.items k)

-- the counts of a run are so, each but for those above the greatest number
pub record HasCounted (n : Counted) (totals : Totals) : Type 0 where
  pub explained : totals.explained ≡ min n.explained most_counted
  pub waiting : totals.waiting ≡ min n.waiting most_counted
  pub uncertain : totals.uncertain ≡ min n.uncertain most_counted
  pub idle : totals.idle ≡ min n.idle most_counted
  pub is_unsure : totals.is_unsure ≡ n.is_unsure

-- what a run counts, of these findings, lines that are left out, streams that aren't judged, and of
-- those that are; and whether idle ones matter
abbrev pub totals_with : (findings left_out unseen : ℕ) → (is_exercised : Bool) → Counted → Totals
totals_with findings left_out unseen is_exercised n = record {
  findings = min findings most_counted;
  explained = min n.explained most_counted;
  waiting = min n.waiting most_counted;
  uncertain = min n.uncertain most_counted;
  left_out = min left_out most_counted;
  unseen = unseen;
  idle = min n.idle most_counted;
  is_unsure = n.is_unsure;
  is_exercised = is_exercised;
}

-- of all these frames, of which these are all lines, and of so many findings more
abbrev pub totals_and : ℕ → Rows × Choices → List Frame → List Due → Totals
totals_and more k frames lines = totals_with (findings_in (lines_of lines) + more)
    (left_out_of k.0 k.1 frames) (unseen_of k.0 k.1.sight) k.1.exercised
    (counted_of k.0 k.1 (until_or k.1.until frames) frames)

-- of these alone
abbrev pub totals_of : Rows × Choices → List Frame → List Due → Totals
totals_of k frames lines = totals_with (findings_in (lines_of lines)) (left_out_of k.0 k.1 frames)
    (unseen_of k.0 k.1.sight) k.1.exercised
    (counted_of k.0 k.1 (until_or k.1.until frames) frames)
