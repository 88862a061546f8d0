-- A source: a link, and the system that sends it, on both networks; what came there, and by how
-- much clocks, stamps and copies may differ.
use Rattle.std.specs.Prelude.{ℕ, ◌+◌, ◌*◌, ◌-◌, ◌/◌, Bool, min, Option, Some, None, List, [], ◌∷◌, length}
use Rattle.std.specs.Prelude.{filter}
use Rattle.afdx_frame.specs.Regulation.{bag, jitter}
use Rattle.afdx_frame.specs.Sides.{is_side}
use Rattle.afdx_frame.specs.declared.link.Side.{Side}
use Rattle.afdx_police.specs.Rule.{Rule, regulation_of}
use Rattle.afdx_conform.specs.Leeway.{Leeway}
use Rattle.afdx_conform.specs.Levels.{parts}

-- a frame that names the source's link, where its system stands: the number of its line, its time
-- in ns, its network, and all bytes. Lists of them have the newest first.
pub record Came : Type 0 where
  pub line : ℕ
  pub time : ℕ
  pub side : Side
  pub bytes : List ℕ

-- in this order
abbrev pub came_with : ℕ → ℕ → Side → List ℕ → Came
came_with line time side bytes = record { line = line; time = time; side = side; bytes = bytes }

abbrev pub on_side : Side → List Came → List Came
on_side side xs = filter (λ x. is_side side x.side) xs

-- how a system gets the link, in ns: its skew, the longest that a frame takes, and how long a byte
-- lasts on all lines of the way, one after the other
pub record Way : Type 0 where
  pub skew : ℕ
  pub latency : ℕ
  pub byte_ns : ℕ

-- by how much the copy of a frame of so many bytes may be sent later and still come within the skew
abbrev pub left_by : Way → ℕ → ℕ
left_by way bytes = way.skew - (way.latency - (bytes + 8) * way.byte_ns)

-- by all ways of a link
unfoldable pub least_left : List Way → ℕ → ℕ
least_left [] bytes = 0
least_left (way ∷ []) bytes = left_by way bytes
least_left (way ∷ next ∷ more) bytes = min (left_by way bytes) (least_left (next ∷ more) bytes)

-- what a source is judged by: its link's rule, its system, the ways of its link, by how many ns
-- copies may be sent apart if that is given, whether both networks are seen, what may be off, and
-- the moment at which the recordings end
pub record Source : Type 0 where
  pub rule : Rule
  pub system : ℕ
  pub ways : List Way
  pub given : Option ℕ
  pub is_paired : Bool
  pub by : Leeway
  pub until : ℕ

module _ (s : Source) where
  -- a clock's rate is at most this, and at least that, in millionths
  abbrev pub fast : ℕ
  fast = parts + s.by.drift

  abbrev pub slow : ℕ
  slow = parts - s.by.drift

  -- by so much are two stamps off together
  abbrev pub slip : ℕ
  slip = s.by.slack + s.by.slack

  -- the greatest skew, by a recorder's clock and stamps: so long does a frame wait for its copy
  abbrev pub hold : ℕ
  hold = parts * 100000000 / slow + 2 * slip

  -- by how much later the copy of a frame of so many bytes may be sent
  abbrev pub apart_by : Option ℕ → ℕ → ℕ
  apart_by None bytes = least_left s.ways bytes
  apart_by (Some ns) bytes = ns

  -- the same by a recorder's clock, for this frame
  abbrev pub apart : Came → ℕ
  apart x = parts * apart_by s.given (length x.bytes) / slow

  -- each frame raises the level of its side by this, it falls by `fast` a ns, and a frame has room
  -- where it is at most `room`
  abbrev pub cost : ℕ
  cost = parts * bag (regulation_of s.rule)

  abbrev pub room : ℕ
  room = parts * jitter (regulation_of s.rule) + fast * slip
