-- When the messages of one link are released, as a predicate on a whole list of releases.
use Rattle.std.specs.Prelude.{◌≡◌, ℕ, ◌+◌, ◌-◌, ◌^◌, ◌<◌, ◌≤◌, ◌==◌, nat_lt, Bool, false, if◌then◌else◌, List, [], ◌∷◌, length, Some, slice_get}
use Rattle.std.specs.List.{list_any}
use Rattle.afdx_frame.specs.Sealing.{AreBytes}
use Rattle.afdx_config.specs.SentList.{Message}

-- a message that can be sent: one byte or more, to a UDP port
pub record IsMessage (m : Message) : Type 0 where
  pub some : 1 ≤ length m.payload
  pub udp : m.udp < 2 ^ 16
  pub bytes : AreBytes m.payload

-- a message that was taken: when it came, and its sub-VL
pub record Submission : Type 0 where
  pub time : ℕ
  pub sub : ℕ
  pub message : Message

-- a submission, its place in the list of submissions, and when it is released
pub record Release : Type 0 where
  pub place : ℕ
  pub submission : Submission
  pub time : ℕ

-- how many messages of a sub-VL may wait
abbrev pub queue_limit : ℕ
queue_limit = 64

-- one of the releases is that of the submission at this place
abbrev pub has_release : List Release → ℕ → Bool
has_release releases place = list_any (λ r. r.place == place) releases

-- the earliest moment for a release after these. A list of releases has the latest first
abbrev pub earliest_after : ℕ → List Release → ℕ
earliest_after bag [] = 0
earliest_after bag (r ∷ earlier) = r.time + bag

-- the sub-VL that was served last, 0 at first
abbrev pub last_served : List Release → ℕ
last_served [] = 0
last_served (r ∷ earlier) = r.submission.sub

-- how many steps lead around the cycle of sub-VLs from the one served last to this one
abbrev pub turn : ℕ → ℕ → ℕ → ℕ
turn subs served sub = if nat_lt served sub then sub - served else sub + subs - served

-- the submission stands at this place and has none of these releases
pub record IsUnreleased (submissions : List Submission) (releases : List Release) (place : ℕ)
    (s : Submission) : Type 0 where
  pub stands : slice_get submissions place ≡ Some s
  pub without : has_release releases place ≡ false

-- after the earlier releases comes this one
pub record IsNext (bag subs : ℕ) (submissions : List Submission) (earlier : List Release)
    (r : Release) : Type 0 where
  -- it is that of a submission that isn't released yet
  pub own : IsUnreleased submissions earlier r.place r.submission
  -- it comes when its submission has come and one BAG after the release before it, and at the least
  -- moment at which that BAG is over and some submission not yet released has come
  pub come : r.submission.time ≤ r.time
  pub after : earliest_after bag earlier ≤ r.time
  pub least : (t place : ℕ) (s : Submission) →
      IsUnreleased submissions earlier place s →
      s.time ≤ t →
      earliest_after bag earlier ≤ t →
      r.time ≤ t
  -- of the sub-VLs that have something to release by that moment, its own is the next in the cycle
  pub in_turn : (place : ℕ) (s : Submission) →
      IsUnreleased submissions earlier place s →
      s.time ≤ r.time →
      turn subs (last_served earlier) r.submission.sub ≤ turn subs (last_served earlier) s.sub
  -- and of that sub-VL it is the oldest
  pub oldest : (place : ℕ) (s : Submission) →
      IsUnreleased submissions earlier place s →
      s.sub ≡ r.submission.sub →
      r.place ≤ place

-- each release is the next one after those before it
abbrev pub AreReleases : ℕ → ℕ → List Submission → List Release → Type 0
AreReleases bag subs submissions [] = Unit {0}
AreReleases bag subs submissions (r ∷ earlier) = IsNext bag subs submissions earlier r
    × AreReleases bag subs submissions earlier

-- how many submissions of a sub-VL have none of these releases. The first submission stands at this
-- place
abbrev pub count_without : List Release → ℕ → ℕ → List Submission → ℕ
count_without releases sub place [] = 0
count_without releases sub place (s ∷ ss) =
    (if has_release releases place then 0 else if s.sub == sub then 1 else 0)
    + count_without releases sub (place + 1) ss
