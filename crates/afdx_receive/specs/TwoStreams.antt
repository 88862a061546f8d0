-- One link's frames that come by two networks, each in order: which of them are first copies.
use Rattle.std.specs.Prelude.{◌≡◌, ℕ, ◌+◌, ◌≤◌, Bool, true, false, nat_le, Some, List, [], ◌∷◌}
use Rattle.std.specs.Prelude.{length, filter, reverse, map, take, slice_get, if◌then◌else◌, IfSome}
use Rattle.std.specs.Prelude.{max}
use Rattle.afdx_frame.specs.declared.link.Side.{Side}
use Rattle.afdx_frame.specs.declared.link.Side.TheVariants.{A, B}
use Rattle.afdx_frame.specs.Sides.{is_side}
use Rattle.afdx_receive.specs.Integrity.{Incoming}
use Rattle.afdx_receive.specs.Redundancy.{newest, winners}
use Rattle.afdx_receive.specs.Standing.{standing}
use Rattle.afdx_receive.specs.declared.memory.Standing.TheVariants.{Winner, Redundant}
use Rattle.afdx_config.specs.Numbers.{after_steps}

abbrev pub other_side : Side → Side
other_side A = B
other_side B = A

-- how many frames came by a side: the place, from 0, of the next one there in the stream
abbrev pub count_of : Side → List Incoming → ℕ
count_of side came = length (filter (λ frame. is_side frame.side side) came)

-- a frame is a first copy if the other side hasn't come further than its own
abbrev pub is_first_copy : List Incoming → Incoming → Bool
is_first_copy before frame =
    nat_le (count_of (other_side frame.side) before) (count_of frame.side before)

abbrev pub first_copies : List Incoming → List Incoming
first_copies [] = []
first_copies (frame ∷ before) =
    if is_first_copy before frame then frame ∷ first_copies before else first_copies before

-- a frame is the next one of its side's stream: it has the number of its place; if it is a late
-- copy, it comes at most the skew after the last first copy, and at most 127 places behind it
pub record IsNextOfStream (skew : ℕ) (before : List Incoming) (frame : Incoming) : Type 0 where
  pub number : frame.number ≡ after_steps (count_of frame.side before) 0
  pub soon : is_first_copy before frame ≡ false →
      IfSome (newest (first_copies before)) (λ first. frame.time ≤ first.time + skew)
  pub near : count_of (other_side frame.side) before ≤ count_of frame.side before + 128

-- the frames are two streams in order, merged
abbrev pub AreTwoStreams : ℕ → List Incoming → Type 0
AreTwoStreams skew [] = Unit {0}
AreTwoStreams skew (frame ∷ before) = IsNextOfStream skew before frame × AreTwoStreams skew before

-- each frame carries what was sent at its place
abbrev pub CarrySent : (Incoming → List ℕ) → List (List ℕ) → List Incoming → Type 0
CarrySent carried sent [] = Unit {0}
CarrySent carried sent (frame ∷ before) =
    (slice_get sent (count_of frame.side before) ≡ Some (carried frame))
    × CarrySent carried sent before

-- of two streams in order the first copies win, and no others
abbrev pub FirstCopiesWin : Type 0
FirstCopiesWin =
    (skew : ℕ) (came : List Incoming) →
    AreTwoStreams skew came →
    winners skew came ≡ first_copies came

-- of two streams in order the next frame wins if it is a first copy, at the place after those that
-- won, and else it is redundant
abbrev pub StandsByPlace : Type 0
StandsByPlace =
    (skew : ℕ) (before : List Incoming) (frame : Incoming) →
    AreTwoStreams skew (frame ∷ before) →
    (standing skew before frame ≡ (if is_first_copy before frame then Winner else Redundant))
    × (is_first_copy before frame ≡ true →
    count_of frame.side before ≡ length (winners skew before))

-- the first copies are as many as came by the side that came further
abbrev pub FirstCopiesAreCounted : Type 0
FirstCopiesAreCounted =
    (came : List Incoming) → length (first_copies came) ≡ max (count_of A came) (count_of B came)

-- what the winners carry, in order, is what was sent, each once, as far as one of the sides has
-- come
abbrev pub SentIsWonOnce : Type 0
SentIsWonOnce =
    (skew : ℕ) (carried : Incoming → List ℕ) (sent : List (List ℕ)) (came : List Incoming) →
    AreTwoStreams skew came →
    CarrySent carried sent came →
    reverse (map carried (winners skew came)) ≡ take (max (count_of A came) (count_of B came)) sent
