-- Which frame of one network is the copy of which of the other, and which have none.
use Rattle.std.specs.Prelude.{ℕ, ◌+◌, Bool, false, ◌&&◌, ◌||◌, not, nat_eq, nat_le, nat_lt, if◌then◌else◌}
use Rattle.std.specs.Prelude.{Option, Some, None, List, [], ◌∷◌, ◌++◌, find}
use Rattle.std.specs.List.{list_any}
use Rattle.afdx_frame.specs.Sides.{is_side}
use Rattle.afdx_frame.specs.declared.link.Side.{Side}
use Rattle.afdx_frame.specs.declared.link.Side.TheVariants.{A, B}
use Rattle.afdx_receive.specs.Steps.{is_within_steps}
use Rattle.afdx_lawful.specs.Alone.{found_alone, is_empty, number_in}
use Rattle.afdx_lawful.specs.Sources.{Came, Source, apart, hold, on_side, slip}

abbrev pub other : Side → Side
other A = B
other B = A

-- a frame that waits for its copy, and whether nothing was found of it when it came
pub record Waiting : Type 0 where
  pub frame : Came
  pub is_quiet : Bool

-- the list without its first element that passes the test
unfoldable pub without_first : {X : Type 0} → (X → Bool) → List X → List X
without_first test [] = []
without_first test (x ∷ xs) = if test x then xs else x ∷ without_first test xs

-- A number stands behind another if at most so many steps lead there. Of a right sender's frames
-- one that was sent before stands so only if it is 210 places back: too long ago to be near,
-- however far apart copies may be sent.
abbrev pub most_steps : ℕ
most_steps = 45

module _ (s : Source) where
  -- the frame may be the copy of one that waits: it has the same number, and came within the hold
  unfoldable pub may_pair : Came → Waiting → Bool
  may_pair x y =
      nat_eq (number_in y.frame) (number_in x) && nat_le x.time (y.frame.time + hold s)

  -- its partner among the frames of the other side that wait, of which the oldest stands first
  abbrev pub partner : Came → List Waiting → Option Waiting
  partner x others = find (may_pair x) others

  abbrev pub waits_now : List Came → Came → Waiting
  waits_now past x =
      record { frame = x; is_quiet = is_empty (found_alone s (on_side x.side past) x) }

  -- one more frame after these whole frames, with those that wait on its own side and on the other
  abbrev pub joined : List Came → Came → List Waiting → List Waiting → List Waiting
  joined past x own others =
      if list_any (may_pair x) others then own else own ++ waits_now past x ∷ []

  -- the frames of a side that wait after all of these whole frames of both sides, the oldest first
  unfoldable pub waiting : Side → List Came → List Waiting
  waiting side [] = []
  waiting side (x ∷ past) =
      if is_side side x.side then joined past x (waiting side past) (waiting (other side) past)
      else without_first (may_pair x) (waiting side past)

  -- the second came within the hold of the first
  abbrev pub is_near : Came → Came → Bool
  is_near x y = nat_le x.time (y.time + hold s) && nat_le y.time (x.time + hold s)

  -- its side went on: one of these is near whose number is so few steps behind its own
  abbrev pub went_on : Came → List Came → Bool
  went_on x others =
      list_any (λ y. is_near x y && is_within_steps most_steps (number_in x) (number_in y)) others

  -- its side had begun: it stands so behind one of them
  abbrev pub had_begun : Came → List Came → Bool
  had_begun x others =
      list_any (λ y. is_near x y && is_within_steps most_steps (number_in y) (number_in x)) others

  abbrev pub is_before : Option ℕ → Came → Bool
  is_before None x = false
  is_before (Some start) x = nat_lt x.time (start + apart s x + slip s)

  -- a frame without partner may have one behind the end, or before the start: of these whole frames
  -- of the other side none tells otherwise
  unfoldable pub is_cut : List Came → Came → Bool
  is_cut others x =
      nat_lt s.until (x.time + apart s x + slip s) && not (went_on x others)
      || is_before s.by.start x && not (had_begun x others)
