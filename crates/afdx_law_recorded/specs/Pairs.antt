-- One link on both networks, as it was recorded at its system's ports: which frames are copies of
-- each other. Lists have the newest first.
use Rattle.std.specs.Prelude.{◌≡◌, ℕ, ◌+◌, ◌≤◌, true, None, List, [], ◌∷◌, ◌++◌, length}
use Rattle.afdx_frame.specs.declared.link.Side.{Side}
use Rattle.afdx_frame.specs.declared.link.Side.TheVariants.{A, B}
use Rattle.afdx_config.specs.Numbers.{after_steps}
use Rattle.afdx_lawful.specs.Accepted.{AreNamed, ComeUpTo}
use Rattle.afdx_lawful.specs.Alone.{number_in}
use Rattle.afdx_lawful.specs.Flaws.{common}
use Rattle.afdx_lawful.specs.Judged.{cut_off, found_coming, found_single}
use Rattle.afdx_lawful.specs.Partners.{other}
use Rattle.afdx_lawful.specs.Sources.{Came, Source, apart, apart_by, on_side, slip}

-- The frames of a source on both networks name the link and came by time up to the end, and nothing
-- is found of them: neither when they come, nor of one that waited for its copy. Its system was
-- reset before.
pub record IsQuietSource (s : Source) (xs : List Came) : Type 0 where
  pub paired : s.is_paired ≡ true
  pub start : s.by.start ≡ None
  pub named : AreNamed s xs
  pub by_time : ComeUpTo s.until xs
  pub coming : found_coming s xs ≡ []
  pub single : (side : Side) → found_single s side xs ≡ []

-- and no copy is cut off by the end
abbrev pub NoneIsCut : Source → List Came → Type 0
NoneIsCut s xs = (side : Side) → cut_off s side xs ≡ []

-- Copies are asked to be sent no further apart than a frame waits for its copy, which is the
-- greatest skew that tables have: 100 ms.
abbrev pub AreAwaited : Source → Type 0
AreAwaited s = (bytes : ℕ) → apart_by s s.given bytes ≤ 100000000

-- two frames are the same but for the byte of the network and the check sequence, and were sent at
-- most so far apart as they may be, as far as stamps can tell
pub record ArePair (s : Source) (x y : Came) : Type 0 where
  pub same : common x.bytes ≡ common y.bytes
  pub x_soon : x.time ≤ y.time + apart s x + slip s
  pub y_soon : y.time ≤ x.time + apart s y + slip s

-- so are the frames of each place of two lists, which are as long
abbrev pub ArePairsByPlace : Source → List Came → List Came → Type 0
ArePairsByPlace s [] [] = Unit {0}
ArePairsByPlace s [] (y ∷ ys) = ⊥
ArePairsByPlace s (x ∷ xs) [] = ⊥
ArePairsByPlace s (x ∷ xs) (y ∷ ys) = ArePair s x y × ArePairsByPlace s xs ys

-- One side has come as far as the other, or further: its newest frames are ahead, and all before
-- them are the copies of the other side's frames, each of the one at its own place.
pub record AreInPairs (s : Source) (xs : List Came) : Type 0 where
  pub further : Side
  pub ahead : List Came
  pub paired : List Came
  pub splits : on_side further xs ≡ ahead ++ paired
  pub pairs : ArePairsByPlace s paired (on_side (other further) xs)

-- each has the number of its place: so many steps lead to it from 0 as frames stand before it
abbrev pub AreNumberedByPlace : List Came → Type 0
AreNumberedByPlace [] = Unit {0}
AreNumberedByPlace (x ∷ past) =
    (number_in x ≡ after_steps (length past) 0) × AreNumberedByPlace past

-- Where nothing is found, copies have one place on both sides; where none is cut off each has one.
abbrev pub QuietIsInPairs : Type 0
QuietIsInPairs =
    (s : Source) (xs : List Came) → AreAwaited s → IsQuietSource s xs → AreInPairs s xs

abbrev pub UncutIsInPairs : Type 0
UncutIsInPairs =
    (s : Source) (xs : List Came) →
    AreAwaited s →
    IsQuietSource s xs →
    NoneIsCut s xs →
    ArePairsByPlace s (on_side A xs) (on_side B xs)

-- and on each side each frame has the number of its place
abbrev pub QuietIsNumbered : Type 0
QuietIsNumbered =
    (s : Source) (xs : List Came) (side : Side) →
    IsQuietSource s xs →
    AreNumberedByPlace (on_side side xs)
