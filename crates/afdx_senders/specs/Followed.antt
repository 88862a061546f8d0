-- What came of each source that is followed, and what was told of it, by its link's place.
use Rattle.std.specs.Prelude.{◌≡◌, ℕ, ◌≤◌, nat_eq, if◌then◌else◌, Option, Some, None, get_or, option_map, List}
use Rattle.afdx_frame.specs.Parts.{bytes_of}
use Rattle.afdx_lawful.specs.OneSide.{told_heard}
use Rattle.afdx_lawful.specs.declared.finding.SenderFinding.{SenderFinding}
use Rattle.afdx_lawful.specs.declared.heard.HeardFrame.{HeardFrame}
use Rattle.afdx_lawful.specs.Courses.{Course, NotBefore, at_first, came_too, next_told, told_at, told_too}
use Rattle.afdx_lawful.specs.Partners.{Waiting}
use Rattle.afdx_lawful.specs.Senders.{StandsFor}
use Rattle.afdx_lawful.specs.Sources.{Came, Source, came_with}
use Rattle.afdx_lawful.specs.declared.sender.JudgedSource.{JudgedSource}
use Rattle.afdx_senders.specs.declared.followed.FollowedSources.{FollowedSources}
use Rattle.afdx_senders.specs.declared.site_frame.SiteFrame.{SiteFrame}

-- a source, with what came of it and what was told
pub record Followed : Type 0 where
  pub source : Source
  pub course : Course

abbrev pub followed_with : Source → Course → Followed
followed_with source course = record { source = source; course = course }

-- nothing came of it yet
abbrev pub newly : Source → Followed
newly source = followed_with source at_first

-- by the link's place; None: no source of it is followed
abbrev pub ByPlace : Type 0
ByPlace = ℕ → Option Followed

abbrev pub nothing_followed : ByPlace
nothing_followed place = None

abbrev pub put_at : ℕ → Followed → ByPlace → ByPlace
put_at place f at k = if nat_eq k place then Some f else at k

-- a frame, as one of its source's
abbrev pub came_of : SiteFrame → Came
came_of x = came_with x.line x.time x.side (bytes_of x.frame)

abbrev pub came_next : Followed → SiteFrame → Followed
came_next f x = followed_with f.source (came_too f.course (came_of x))

abbrev pub told_next : Followed → Waiting → Followed
told_next f y = followed_with f.source (told_too f.source f.course y)

-- a frame of this time may come: none of an earlier moment is to be told
pub record MayCome (f : Followed) (time : ℕ) : Type 0 where
  pub later : f.course.reached ≤ time
  pub told : NotBefore f.source time (next_told f.source f.course)

-- what is told of a frame of this line, which came to a source, is what was found
abbrev pub IsFound : ℕ → List SenderFinding → Option HeardFrame → Type 0
IsFound line found None = ⊥
IsFound line found (Some heard) = told_heard line heard ≡ found

-- the moment at which the next frame is told that waits
abbrev pub due_of : Followed → Option ℕ
due_of f = option_map (told_at f.source) (next_told f.source f.course)

abbrev pub due_at : Option Followed → Option ℕ
due_at None = None
due_at (Some f) = due_of f

abbrev pub StandsAt : Option Followed → Option JudgedSource → Type 0
StandsAt None None = Unit {0}
StandsAt None (Some source) = ⊥
StandsAt (Some f) None = ⊥
StandsAt (Some f) (Some source) = StandsFor f.source f.course source

-- what is kept at a place
abbrev pub kept_at : FollowedSources → ℕ → Option JudgedSource
kept_at kept place = get_or kept.slots.items place None

-- these are the sources that are kept
abbrev pub AreFollowed : ByPlace → FollowedSources → Type 0
AreFollowed at kept = (place : ℕ) → StandsAt (at place) (kept_at kept place)
