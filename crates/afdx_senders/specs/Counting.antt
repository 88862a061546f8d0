-- What is counted of all sources that are followed, and how many frames they hold.
use Rattle.std.specs.Prelude.{ℕ, ◌+◌, ◌<◌, ◌^◌, zero, suc, length, Option, Some, None}
use Rattle.std.specs.List.{sum_by}
use Rattle.afdx_lawful.specs.Courses.{AllTold}
use Rattle.afdx_lawful.specs.Judged.{judged_source}
use Rattle.afdx_lawful.specs.Senders.{held_in}
use Rattle.afdx_lawful.specs.declared.sender.JudgedSource.{JudgedSource}
use Rattle.afdx_senders.specs.Followed.{ByPlace, Followed}
use Rattle.afdx_senders.specs.declared.followed.FollowedSources.{FollowedSources}
use Rattle.afdx_senders.specs.declared.senders.Senders.{Senders}

-- how many frames a source holds, and all of them
abbrev pub held_at : Option JudgedSource → ℕ
held_at None = 0
held_at (Some source) = held_in source

abbrev pub held_in_all : FollowedSources → ℕ
held_in_all kept = sum_by held_at kept.slots.items

-- how many lines may be told until another frame comes: one of each frame that is held, and those
-- that are found
abbrev pub lines_left : Senders → ℕ
lines_left senders = held_in_all senders.kept + length senders.found

-- none of its frames waits, and they can be counted
abbrev pub IsOver : Option Followed → Type 0
IsOver None = Unit {0}
IsOver (Some f) = AllTold f.source f.course × (length f.course.came < 2 ^ 64)

abbrev pub AreOver : ByPlace → Type 0
AreOver at = (place : ℕ) → IsOver (at place)

-- how many frames of a source have no finding, and of how many the copies are cut off
abbrev pub sent_of : Option Followed → ℕ
sent_of None = 0
sent_of (Some f) = (judged_source f.source f.course.came).sent

abbrev pub cut_of : Option Followed → ℕ
cut_of None = 0
cut_of (Some f) = (judged_source f.source f.course.came).cut

-- of all sources before a place
unfoldable pub sent_below : ByPlace → ℕ → ℕ
sent_below at zero = 0
sent_below at (suc n) = sent_below at n + sent_of (at n)

unfoldable pub cut_below : ByPlace → ℕ → ℕ
cut_below at zero = 0
cut_below at (suc n) = cut_below at n + cut_of (at n)
