-- What is kept of a key stands for its frames and for the lines that are told of it. Lists of
-- arrivals and frames have the oldest first, those of lines the newest.
use Rattle.std.specs.Prelude.{◌≡◌, ℕ, ◌≤◌, ◌⊎◌, ⊤, Bool, true, false, List, [], ◌∷◌, ◌++◌, map, reverse, Option, Some, None}
use Rattle.std.specs.List.{AllByRecursion}
use Rattle.afdx_police.specs.Arrival.{Arrival}
use Rattle.afdx_conform.specs.Findings.{Judged}
use Rattle.afdx_conform.specs.Standing.{IsEnding, StandsFor}
use Rattle.afdx_conform.specs.Streams.{Gone, Terms}
use Rattle.afdx_conform.specs.declared.finding.Finding.TheVariants.{Strange}
use Rattle.afdx_text.specs.declared.conform_line.ConformLine.{ConformLine}
use Rattle.afdx_text.specs.declared.conform_line.ConformLine.TheVariants as line
use Rattle.afdx_command_conform.specs.Lines.{Due, due_at, found_line, judged_dues}
use Rattle.afdx_command_conform.specs.Waiting.{slot_due}
use Rattle.afdx_command_conform.specs.declared.key.Key.{Key}
use Rattle.afdx_command_conform.specs.declared.slot.Slot.{Slot}
use Rattle.afdx_command_conform.specs.declared.slot.Slot.TheVariants.{Nothing, Strangers, Stream}
use Rattle.afdx_command_conform.specs.declared.strangers.Stranger.{Stranger}

-- lines of one moment, behind these
abbrev pub told_at : Key → ℕ → List ConformLine → List Due → List Due
told_at k moment lines before = map (due_at k moment) (reverse lines) ++ before

-- behind these lines one that the stream is unsure behind this arrival, if it is
abbrev pub unsure_behind : Key → Option ℕ → List ConformLine → List ConformLine
unsure_behind k None lines = lines
unsure_behind k (Some n) lines = lines ++ line.Unsure n k.side k.port ∷ []

abbrev pub waiting_due : Key → Stranger → Due
waiting_due k s = due_at k s.time (found_line k (Strange s.number s.why))

-- none of these lines is due before one behind it
unfoldable pub AreFalling : List Due → Type 0
AreFalling [] = ⊤
AreFalling (d ∷ []) = ⊤
AreFalling (d ∷ e ∷ before) = (e.moment ≤ d.moment) × AreFalling (e ∷ before)

-- of frames of no stream, whose lines are these, some are told, the others wait
unfoldable pub StrangersStand : Key → (all lines : List Due) → Slot → Type 0
StrangersStand k all lines Nothing = (all ≡ []) × (lines ≡ [])
StrangersStand k all lines (Strangers s) =
    all ≡ map (waiting_due k) (reverse s.value.waiting.items) ++ lines
StrangersStand k all lines (Stream s told) = ⊥

-- a line is told
abbrev pub has_line : List Due → Bool
has_line [] = false
has_line (d ∷ before) = true

-- a stream of these arrivals and frames, before the end is known
unfoldable pub StreamStands : Terms → Key → List Arrival → List Gone → (lines : List Due) →
    (time : ℕ) → Slot → Type 0
StreamStands z k xs ys lines time Nothing = (xs ≡ []) × (ys ≡ []) × (lines ≡ [])
StreamStands z k xs ys lines time (Strangers s) = ⊥
StreamStands z k xs ys lines time (Stream s told) =
    (j : Judged) × StandsFor z xs ys j time s.value × (lines ≡ judged_dues z k j)
    × (told ≡ has_line lines)

-- and then
unfoldable pub StreamEnds : Terms → Key → List Arrival → List Gone → (lines : List Due) →
    Slot → Type 0
StreamEnds z k xs ys lines Nothing = (xs ≡ []) × (ys ≡ []) × (lines ≡ [])
StreamEnds z k xs ys lines (Strangers s) = ⊥
StreamEnds z k xs ys lines (Stream s told) =
    (j : Judged) × IsEnding z xs ys j s.value × (lines ≡ judged_dues z k j)
    × (told ≡ has_line lines)

-- a stream is kept
abbrev pub IsStream : Slot → Type 0
IsStream (Stream s told) = Unit {0}
IsStream slot = ⊥

-- frames of no stream are
abbrev pub IsStrange : Slot → Type 0
IsStrange (Strangers s) = Unit {0}
IsStrange slot = ⊥

-- what is newly due: if nothing is, the moment is the same or there is none
abbrev pub IsNewlyDue : (before due after : Option ℕ) → Type 0
IsNewlyDue before None after = (after ≡ before) ⊎ (after ≡ None)
IsNewlyDue before (Some moment) after = after ≡ Some moment

-- the recordings end: what is kept is that, and then
pub record Ends (until : ℕ) (before after : Slot) : Type 0 where
  pub streams : (z : Terms) (k : Key) (xs : List Arrival) (ys : List Gone) (lines : List Due)
      (time : ℕ) → z.until ≡ until → time ≤ until → StreamStands z k xs ys lines time before
      → StreamEnds z k xs ys lines after
  pub strangers : (k : Key) (all lines : List Due) → StrangersStand k all lines before
      → StrangersStand k all lines after
  pub due : (z : Terms) (k : Key) (xs : List Arrival) (ys : List Gone) (lines : List Due)
      (time : ℕ) → z.until ≡ until → time ≤ until → AllByRecursion (λ x. x.time ≤ until) xs
      → StreamStands z k xs ys lines time before
      → (slot_due after ≡ slot_due before) ⊎ (slot_due after ≡ None)
  pub due_strange : (k : Key) (all lines : List Due) → StrangersStand k all lines before
      → slot_due after ≡ slot_due before
