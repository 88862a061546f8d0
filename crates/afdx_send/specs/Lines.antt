-- What a sender that keeps only the messages still to release has to do with all that one link took
-- and released.
use Rattle.std.specs.Prelude.{◌≡◌, ℕ, ◌+◌, ◌*◌, ◌<◌, ◌≤◌, ◌⊎◌, List, ◌∷◌, length, sum_by, Some, slice_get}
use Rattle.afdx_frame.specs.Lengths.{greatest_frame, frame_overhead}
use Rattle.afdx_frame.specs.Regulation.{bag}
use Rattle.afdx_frame.specs.Times.{latest_listed}
use Rattle.afdx_config.specs.Flows.{regulation_of_link}
use Rattle.afdx_config.specs.Numbers.{after_steps}
use Rattle.afdx_config.specs.Rows.{LinkRow}
use Rattle.afdx_send.specs.declared.fault.SendFault.{SendFault}
use Rattle.afdx_send.specs.declared.fault.SendFault.TheVariants.{NotMyLink, NoSuchSub, Empty, TooLarge, QueueFull, Memory}
use Rattle.afdx_send.specs.declared.line.SystemLink.{SystemLink}
use Rattle.afdx_send.specs.declared.regulator.Queued.{Queued}
use Rattle.afdx_send.specs.declared.regulator.Regulator.{Regulator}
use Rattle.afdx_send.specs.Frames.{Frame}
use Rattle.afdx_send.specs.Regulator.{Regulates, HasQueue, submission_of, waiting_of, sub_count}
use Rattle.afdx_send.specs.Releases.{Submission, Release, IsMessage, IsNext, queue_limit}

-- the line is that of a row
pub record IsLineOf (l : LinkRow) (line : SystemLink) : Type 0 where
  pub vl : line.vl.0 ≡ l.vl
  pub least : line.least ≡ l.lmin
  pub longest : line.longest ≡ l.lmax
  pub bag : line.regulator.bag ≡ bag (regulation_of_link l)
  pub subs : sub_count line.regulator ≡ l.subs

-- how many messages aren't released yet
abbrev pub held_by : Regulator → ℕ
held_by p = sum_by length (waiting_of p)

-- no message was submitted after the latest time of a list. So the last of at most 256 that wait is
-- released 256 gaps later at most
pub record IsTimely (p : Regulator) (ss : List Submission) : Type 0 where
  pub limit : (i : ℕ) (s : Submission) → slice_get ss i ≡ Some s → s.time ≤ latest_listed
  pub few : length (waiting_of p) ≤ 4
  pub full : (i : ℕ) (ms : List Queued) → HasQueue (waiting_of p) i ms → length ms ≤ queue_limit
  pub balance : p.earliest + held_by p * p.bag ≤ latest_listed + 257 * p.bag

-- what a link keeps is what its own submissions and its own releases leave
pub record LineStands (line : SystemLink) (l : LinkRow) (ss : List Submission) (rs : List Release)
    : Type 0 where
  pub is_line : IsLineOf l line
  pub regulates : Regulates line.regulator ss rs
  pub timely : IsTimely line.regulator ss
  pub fits : (i : ℕ) (s : Submission) →
      slice_get ss i ≡ Some s →
      length s.message.payload + frame_overhead ≤ l.lmax
  pub messages : (i : ℕ) (s : Submission) → slice_get ss i ≡ Some s → IsMessage s.message
  pub number : line.number ≡ after_steps (length rs) 0

-- the link's next release, as the message that enters the port
pub record LineReleases (line : SystemLink) (l : LinkRow) (ss : List Submission) (rs : List Release)
    (time : ℕ) (f : Frame) (new : SystemLink) : Type 0 where
  pub r : Release
  pub next : IsNext (bag (regulation_of_link l)) l.subs ss rs r
  pub at : r.time ≡ time
  pub message : f.message ≡ r.submission.message
  pub stands : LineStands new l ss (r ∷ rs)

-- the link has this sub-VL
abbrev pub IsSubOf : SystemLink → ℕ → Type 0
IsSubOf line sub = (1 ≤ sub) × (sub ≤ sub_count line.regulator)

-- why a message of n bytes isn't taken for a sub-VL: the first of these that is true
abbrev pub LineRefuses : SystemLink → ℕ → ℕ → SendFault → Type 0
LineRefuses line sub n NotMyLink = ⊥
LineRefuses line sub n NoSuchSub = (sub ≡ 0) ⊎ (sub_count line.regulator < sub)
LineRefuses line sub n Empty = IsSubOf line sub × (n ≡ 0)
LineRefuses line sub n TooLarge = IsSubOf line sub × (1 ≤ n) × (line.longest < n + frame_overhead)
LineRefuses line sub n QueueFull = IsSubOf line sub × (1 ≤ n) × (n + frame_overhead ≤ line.longest)
    × ((index : ℕ) (ms : List Queued) → index + 1 ≡ sub →
    HasQueue (waiting_of line.regulator) index ms → queue_limit ≤ length ms)
LineRefuses line sub n Memory = ⊥

-- it is
pub record LineAdmits (line : SystemLink) (sub n : ℕ) : Type 0 where
  pub is_sub : IsSubOf line sub
  pub some : 1 ≤ n
  pub fits : n + frame_overhead ≤ line.longest
  pub small : line.longest ≤ greatest_frame
  pub room : (index : ℕ) (ms : List Queued) →
      index + 1 ≡ sub →
      HasQueue (waiting_of line.regulator) index ms →
      length ms < queue_limit

-- a further message can join the queue at this index
pub record CanTake (line : SystemLink) (index : ℕ) (m : Queued) : Type 0 where
  pub within : index < sub_count line.regulator
  pub message : IsMessage (submission_of (index + 1) m).message
  pub fits : length m.payload.items + frame_overhead ≤ line.longest
  pub room : (ms : List Queued) →
      HasQueue (waiting_of line.regulator) index ms →
      length ms < queue_limit
