-- What a sender has sent when all that it took is emitted, by its calls alone. A list of releases
-- has the latest first, a list of submissions the oldest.
use Rattle.std.specs.Prelude.{◌≡◌, ℕ, ◌+◌, ◌<◌, ◌≤◌, ◌==◌, List, [], ◌∷◌, ◌++◌, length, filter, Some, slice_get}
use Rattle.std.specs.List.{AllByRecursion}
use Rattle.std.specs.List.Sorted.{IsPermutation}
use Rattle.afdx_frame.specs.Lengths.{frame_overhead}
use Rattle.afdx_frame.specs.Regulation.{bag}
use Rattle.afdx_config.specs.Admission.{IsAdmitted, links_from}
use Rattle.afdx_config.specs.Flows.{regulation_of_link}
use Rattle.afdx_config.specs.Lawful.{IsLawfulSwitch}
use Rattle.afdx_config.specs.LawfulStream.{Sending}
use Rattle.afdx_config.specs.Numbers.{after_steps}
use Rattle.afdx_config.specs.Rows.{LinkRow, Rows}
use Rattle.afdx_port.specs.Schedule.{Turn}
use Rattle.afdx_send.specs.Emissions.{own, own_submissions, AreSendings}
use Rattle.afdx_send.specs.Frames.{Frame, numbered_frame}
use Rattle.afdx_send.specs.Laws.{EmitsLawfully}
use Rattle.afdx_send.specs.Releases.{Submission, Release, IsMessage, AreReleases}
use Rattle.afdx_send.specs.Sender.{SenderHistory, AreAllEmitted, IsSub}

-- a message that a link can take
pub record IsFor (l : LinkRow) (m : Submission) : Type 0 where
  pub sub : IsSub l m.sub
  pub some : 1 ≤ length m.message.payload
  pub fits : length m.message.payload + frame_overhead ≤ l.lmax

-- the system at this place of admitted tables took such messages, and has emitted them all
pub record HasSentAll (t : Rows) (system : ℕ) (h : SenderHistory) : Type 0 where
  pub lawful : IsLawfulSwitch t
  pub admitted : IsAdmitted t
  pub own : system < t.own
  pub row : slice_get t.systems system ≡ Some h.system
  pub links : h.links ≡ links_from t.links system
  pub fit : (place : ℕ) (l : LinkRow) →
      slice_get h.links place ≡ Some l →
      AllByRecursion (IsFor l) (own_submissions h.taken place)
  pub messages : (place : ℕ) (l : LinkRow) →
      slice_get h.links place ≡ Some l →
      AllByRecursion (λ m. IsMessage m.message) (own_submissions h.taken place)
  pub done : AreAllEmitted h

-- the submissions of some releases, the first one first
abbrev pub submissions_of : List Release → List Submission
submissions_of [] = []
submissions_of (r ∷ earlier) = submissions_of earlier ++ r.submission ∷ []

-- those for a sub-VL
abbrev pub for_sub : ℕ → List Submission → List Submission
for_sub sub submissions = filter (λ s. s.sub == sub) submissions

-- these are the releases of all that a link took: each message once, and those of a sub-VL in the
-- order in which they came
pub record AreReleasesOfAll (l : LinkRow) (taken : List Submission) (releases : List Release)
    : Type 0 where
  pub are_releases : AreReleases (bag (regulation_of_link l)) l.subs taken releases
  pub each_once : IsPermutation taken (submissions_of releases)
  pub in_order : (sub : ℕ) → for_sub sub (submissions_of releases) ≡ for_sub sub taken
  pub of_one_sub : l.subs ≡ 1 → submissions_of releases ≡ taken

-- what the link at this place has emitted is a lawful stream of its sent list, which is that of
-- all that it took
pub record EmitsAll (h : SenderHistory) (place : ℕ) (l : LinkRow) (stream : List Sending) : Type 0
  where
    pub emits : EmitsLawfully h place l stream
    pub all : AreReleasesOfAll l (own_submissions h.taken place) (own place emits.released)

-- an emission is the frame of a link of the system, of one of the messages that the link took
pub record IsOfTaken (h : SenderHistory) (turn : Turn Frame) : Type 0 where
  pub link : ℕ
  pub row : LinkRow
  pub stands : slice_get h.links link ≡ Some row
  pub place : ℕ
  pub submission : Submission
  pub taken : slice_get (own_submissions h.taken link) place ≡ Some submission
  pub steps : ℕ
  pub frame : turn.entry.item ≡ numbered_frame row.vl row.lmin (after_steps steps 0)
      submission.message.udp submission.message.payload

abbrev pub AllIsSent : Type 0
AllIsSent = (t : Rows) (system : ℕ) (h : SenderHistory) (place : ℕ) (l : LinkRow)
    (stream : List Sending) →
    HasSentAll t system h →
    slice_get h.links place ≡ Some l →
    AreSendings h.system l.vl h.emitted stream →
    EmitsAll h place l stream

abbrev pub EmissionsAreOfTaken : Type 0
EmissionsAreOfTaken = (t : Rows) (system : ℕ) (h : SenderHistory) → HasSentAll t system h →
    AllByRecursion (IsOfTaken h) h.emitted
