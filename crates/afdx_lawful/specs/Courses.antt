-- What is told of a source while its frames come: which of them waited in vain for their copies.
use Rattle.std.specs.Prelude.{◌≡◌, ℕ, ◌+◌, ◌<◌, ◌≤◌, max, Bool, nat_le, if◌then◌else◌, Option, Some, None}
use Rattle.std.specs.Prelude.{List, [], ◌∷◌, ◌++◌, length, map, drop}
use Rattle.std.specs.List.{AllByRecursion}
use Rattle.afdx_frame.specs.declared.link.Side.{Side}
use Rattle.afdx_frame.specs.declared.link.Side.TheVariants.{A, B}
use Rattle.afdx_lawful.specs.Accepted.{ComeUpTo}
use Rattle.afdx_lawful.specs.Judged.{is_cut_of, waiting_of}
use Rattle.afdx_lawful.specs.Partners.{Waiting}
use Rattle.afdx_lawful.specs.Sources.{Came, Source, hold}

-- a frame that waited in vain, and whether a partner of it may be cut off
pub record Unpaired : Type 0 where
  pub waited : Waiting
  pub is_cut : Bool

-- the frames that came, the newest first; of each side those that waited in vain and no longer
-- wait, in the order in which they were told; and before which moment, in ns, none comes any more
pub record Course : Type 0 where
  pub came : List Came
  pub over_a : List Unpaired
  pub over_b : List Unpaired
  pub reached : ℕ

abbrev pub over : Course → Side → List Unpaired
over c A = c.over_a
over c B = c.over_b

abbrev pub at_first : Course
at_first = record { came = []; over_a = []; over_b = []; reached = 0 }

-- one more frame came
abbrev pub came_too : Course → Came → Course
came_too c x = record {
  came = x ∷ c.came;
  over_a = c.over_a;
  over_b = c.over_b;
  reached = x.time;
}

abbrev pub waited_of : List Unpaired → List Waiting
waited_of us = map (λ u. u.waited) us

abbrev pub waited_on : Course → Side → List Waiting
waited_on c side = waited_of (over c side)

-- the one of two that came sooner, the first of both at one time
abbrev pub sooner : Option Waiting → Option Waiting → Option Waiting
sooner None b = b
sooner (Some a) None = Some a
sooner (Some a) (Some b) = if nat_le a.frame.time b.frame.time then Some a else Some b

abbrev pub oldest : List Waiting → Option Waiting
oldest [] = None
oldest (y ∷ ys) = Some y

module _ (s : Source) where
  -- a frame that waits is told at this moment
  abbrev pub told_at : Waiting → ℕ
  told_at y = y.frame.time + hold s

  -- the frames of a side that still wait, the oldest first
  unfoldable pub still_waiting : Course → Side → List Waiting
  still_waiting c side = drop (length (over c side)) (waiting_of s side c.came)

  -- the next one that is told: of both sides the oldest, that of A at one time
  abbrev pub next_told : Course → Option Waiting
  next_told c = sooner (oldest (still_waiting c A)) (oldest (still_waiting c B))

  -- it isn't told before this time
  abbrev pub NotBefore : ℕ → Option Waiting → Type 0
  NotBefore time None = Unit {0}
  NotBefore time (Some y) = time ≤ told_at y

  abbrev pub judge_waiting : Course → Waiting → Unpaired
  judge_waiting c y = record { waited = y; is_cut = is_cut_of s c.came y }

  abbrev pub told_on : Course → Waiting → Side → Course
  told_on c y A = record c {
    over_a = c.over_a ++ judge_waiting c y ∷ [];
    reached = max c.reached (told_at y + 1);
  }
  told_on c y B = record c {
    over_b = c.over_b ++ judge_waiting c y ∷ [];
    reached = max c.reached (told_at y + 1);
  }

  -- it is told: that moment is over
  abbrev pub told_too : Course → Waiting → Course
  told_too c y = told_on c y y.frame.side

  -- it can't be the copy of a frame of this time, or a later one
  abbrev pub ArePast : ℕ → List Waiting → Type 0
  ArePast time ys = AllByRecursion (λ y. told_at y < time) ys

  -- these can be, of one of this time
  abbrev pub AreOpen : ℕ → List Waiting → Type 0
  AreOpen time ys = AllByRecursion (λ y. time ≤ told_at y) ys

  -- no frame came behind the moments at which these are told
  abbrev pub AreHeld : List Came → List Waiting → Type 0
  AreHeld xs ys = AllByRecursion (λ y. ComeUpTo (told_at y) xs) ys

  -- what was told of these is so
  abbrev pub AreJudged : List Came → List Unpaired → Type 0
  AreJudged xs us = AllByRecursion (λ u. u.is_cut ≡ is_cut_of s xs u.waited) us

  -- Frames come by time, and what was told is past, and right.
  pub record IsCourse (c : Course) : Type 0 where
    pub by_time : ComeUpTo c.reached c.came
    pub past : (side : Side) → ArePast c.reached (waited_on c side)
    pub judged : (side : Side) → AreJudged c.came (over c side)

  -- none is left that waits
  abbrev pub AllTold : Course → Type 0
  AllTold c = (side : Side) → waiting_of s side c.came ≡ waited_on c side

  -- the recordings end then; or that isn't known, but not before the frame is told
  abbrev pub IsKnownBy : Option ℕ → Waiting → Type 0
  IsKnownBy None y = told_at y ≤ s.until
  IsKnownBy (Some until) y = s.until ≡ until
