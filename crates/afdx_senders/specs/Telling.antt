-- What is told of the frames that came to the senders of a switch. Lists have the newest first.
use Rattle.std.specs.Prelude.{◌≡◌, ℕ, ◌<◌, ◌≤◌, ◌+◌, ◌*◌, true, Option, Some, None, List, [], ◌∷◌, ◌++◌, filter}
use Rattle.std.specs.List.{All}
use Rattle.std.specs.List.Sorted.{IsPermutation}
use Rattle.afdx_police.specs.Arrival.{Arrival}
use Rattle.afdx_senders.specs.AllLines.{all_lines, all_singles, is_early, lines_coming}
use Rattle.afdx_senders.specs.Lines.{Line}
use Rattle.afdx_senders.specs.Order.{side_rank}
use Rattle.afdx_senders.specs.Setups.{Setup, ending}

-- lines go by moment, side, port and the line of the frame
abbrev pub rank : Line → ℕ
rank x = x.moment * 0x2000000000000000000
    + ((side_rank x.side * 256 + x.port) * 0x10000000000000000 + x.line)

-- it comes no sooner than any of these
abbrev pub IsBehind : Line → List Line → Type 0
IsBehind x past = All (λ y. rank y ≤ rank x) past

-- each comes no sooner than those before it
abbrev pub AreInOrder : List Line → Type 0
AreInOrder [] = Unit {0}
AreInOrder (x ∷ past) = IsBehind x past × AreInOrder past

-- of all lines of these frames just those are told whose moments lie before that time; without a
-- time all of them
pub record AreToldBefore (z : Setup) (before : Option ℕ) (xs : List Arrival) (told : List Line)
    : Type 0 where
  pub are : IsPermutation told (filter (is_early before) (all_lines z xs))
  pub in_order : AreInOrder told

-- of all lines of these frames the first are told: no other comes sooner
pub record AreToldFirst (z : Setup) (xs : List Arrival) (told : List Line) : Type 0 where
  pub rest : List Line
  pub are : IsPermutation (rest ++ told) (all_lines z xs)
  pub in_order : AreInOrder told
  pub behind : All (λ x. IsBehind x told) rest

-- these frames come at that time or later; without a time none comes any more
abbrev pub ComeFrom : Option ℕ → List Arrival → Type 0
ComeFrom None more = more ≡ []
ComeFrom (Some time) more = All (λ x. time ≤ x.time) more

-- whatever else comes from that time on, these are the first
abbrev pub HaveBegun : Setup → Option ℕ → List Arrival → List Line → Type 0
HaveBegun z before xs told =
    (more : List Arrival) → ComeFrom before more → AreToldFirst z (more ++ xs) told

-- this may be the end of the recordings: that which is said, or any from this time on
abbrev pub IsEndSince : (said : Option ℕ) → (time end : ℕ) → Type 0
IsEndSince None time end = time ≤ end
IsEndSince (Some until) time end = end ≡ until

-- whatever else comes from that time on, and whenever the recordings end, these are just the lines
-- of earlier moments
abbrev pub AreToldEarly : Setup → (said : Option ℕ) → (time : ℕ) → List Arrival → List Line →
    Type 0
AreToldEarly z said time xs told = (until : ℕ) (more : List Arrival) → IsEndSince said time until →
    ComeFrom (Some time) more → AreToldBefore (ending until z) (Some time) (more ++ xs) told

-- ---- while frames come

-- what is known of these frames before that time: what was found when they came, and of those that
-- waited in vain until then
unfoldable pub known_lines : Setup → Option ℕ → List Arrival → List Line
known_lines z before xs = lines_coming z xs ++ filter (is_early before) (all_singles z xs)

-- the numbers are those that a frame can have
pub record HasNumbers (x : Line) : Type 0 where
  pub port : x.port < 0x100
  pub line : x.line < 0x10000000000000000

-- its moment lies before that time
pub record IsEarly (before : Option ℕ) (x : Line) : Type 0 where
  pub sooner : is_early before x ≡ true
  pub numbers : HasNumbers x

-- what is told and what is held is all that is known; what is told lies before that time, in order,
-- and what is held behind it
pub record AreTold (z : Setup) (before : Option ℕ) (xs : List Arrival) (told held : List Line)
    : Type 0 where
  pub are : IsPermutation (told ++ held) (known_lines z before xs)
  pub in_order : AreInOrder told
  pub behind : All (λ x. IsBehind x told) held
  pub early : All (IsEarly before) told
