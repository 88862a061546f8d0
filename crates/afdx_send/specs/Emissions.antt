-- What a system sends: its links' releases, in order of moment and then of the link's place,
-- through one output port.
use Rattle.std.specs.Prelude.{◌≡◌, ℕ, ◌<◌, ◌≤◌, ◌==◌, Bool, true, false, if◌then◌else◌, List, [], ◌∷◌, ◌++◌, length, Some, slice_get, slice_index_or}
use Rattle.std.specs.List.{AllByRecursion}
use Rattle.afdx_frame.specs.declared.link.Priority.TheVariants.{Low}
use Rattle.afdx_frame.specs.declared.link.Side.TheVariants.{A, B}
use Rattle.afdx_frame.specs.Grammar.{Built, built_length}
use Rattle.afdx_frame.specs.Regulation.{bag}
use Rattle.afdx_config.specs.Flows.{regulation_of_link}
use Rattle.afdx_config.specs.Numbers.{after_steps}
use Rattle.afdx_config.specs.LawfulStream.{Sending}
use Rattle.afdx_config.specs.Rows.{SystemRow, LinkRow}
use Rattle.afdx_config.specs.SentList.{Message}
use Rattle.afdx_port.specs.History.{entry_of}
use Rattle.afdx_port.specs.Schedule as port
use Rattle.afdx_send.specs.Frames.{Frame, numbered_frame, address_with, facts}
use Rattle.afdx_send.specs.Releases.{Submission, Release, IsNext}

-- a release of the link at this place, with its row of the tables
pub record LinkRelease : Type 0 where
  pub place : ℕ
  pub row : LinkRow
  pub release : Release

-- the releases of one link among all
abbrev pub own : ℕ → List LinkRelease → List Release
own place [] = []
own place (x ∷ earlier) =
    if x.place == place then x.release ∷ own place earlier else own place earlier

-- what the link at this place took
abbrev pub own_submissions : List (List Submission) → ℕ → List Submission
own_submissions taken place = slice_index_or taken place []

-- a release of the link at this place is the next after those of all links
abbrev pub IsNextOf : List (List Submission) → List LinkRelease → ℕ → LinkRow → Release → Type 0
IsNextOf taken earlier place l r =
    IsNext (bag (regulation_of_link l)) l.subs (own_submissions taken place) (own place earlier) r

-- after the earlier releases, of all links, comes this one: it is the next of its link, no link's
-- next comes before it, and of those at its moment it is that of the link which stands first
pub record IsNextOfAll (links : List LinkRow) (taken : List (List Submission))
    (earlier : List LinkRelease) (x : LinkRelease) : Type 0 where
  pub stands : slice_get links x.place ≡ Some x.row
  pub next : IsNextOf taken earlier x.place x.row x.release
  pub soonest : (i : ℕ) (l : LinkRow) (r : Release) →
      slice_get links i ≡ Some l →
      IsNextOf taken earlier i l r →
      x.release.time ≤ r.time
  pub first : (i : ℕ) (l : LinkRow) (r : Release) →
      slice_get links i ≡ Some l →
      IsNextOf taken earlier i l r →
      r.time ≡ x.release.time →
      x.place ≤ i

-- each release, of all links, is the next one after those before it. A list of releases has the
-- latest first
abbrev pub AreAllReleases : List LinkRow → List (List Submission) → List LinkRelease → Type 0
AreAllReleases links taken [] = Unit {0}
AreAllReleases links taken (x ∷ earlier) = IsNextOfAll links taken earlier x
    × AreAllReleases links taken earlier

-- these are the releases before t, of all links
pub record AreReleasedBefore (links : List LinkRow) (taken : List (List Submission)) (t : ℕ)
    (released : List LinkRelease) : Type 0 where
  pub are_releases : AreAllReleases links taken released
  pub before : AllByRecursion (λ x. x.release.time < t) released
  pub no_more : (i : ℕ) (l : LinkRow) (r : Release) →
      slice_get links i ≡ Some l →
      IsNextOf taken released i l r →
      t ≤ r.time

-- the k-th release of a link, counted from 0, as a frame: it has the number to which k steps lead
-- from 0
abbrev pub released_frame : LinkRow → ℕ → Release → Frame
released_frame l k r =
    numbered_frame l.vl l.lmin (after_steps k 0) r.submission.message.udp
    r.submission.message.payload

-- the frame enters the port at its release
abbrev pub entry_for : LinkRelease → ℕ → port.Entry Frame
entry_for x k = entry_of facts x.release.time Low (released_frame x.row k x.release)

-- the port's entries, the first one first
abbrev pub entries_of : List LinkRelease → List (port.Entry Frame)
entries_of [] = []
entries_of (x ∷ earlier) = entries_of earlier ++ entry_for x (length (own x.place earlier)) ∷ []

-- after the emissions before it comes this one: it is the next slot over the first releases of all
pub record IsNextEmission (byte_ns : ℕ) (links : List LinkRow) (taken : List (List Submission))
    (emitted : List (port.Turn Frame)) (s : port.Turn Frame) : Type 0 where
  pub released : List LinkRelease
  pub are_releases : AreAllReleases links taken released
  pub next : port.IsNext byte_ns (entries_of released) emitted s

-- a frame whose slot ends then, as it is sent on both networks
pub record IsSending (system_id partition end : ℕ) (f : Frame) (y : Sending) : Type 0 where
  pub time : y.time ≡ end
  pub a : Built (address_with system_id partition f) f.number A f.message.payload y.a
  pub b : Built (address_with system_id partition f) f.number B f.message.payload y.b
  pub a_long : length y.a
      ≡ built_length (address_with system_id partition f) (length f.message.payload)
  pub b_long : length y.b
      ≡ built_length (address_with system_id partition f) (length f.message.payload)

abbrev pub with_sending : SystemRow → Bool → (List Sending → Type 0) → port.Turn Frame →
    List Sending → Type 0
with_sending s true rest t stream = (front : List Sending) × (y : Sending)
    × (stream ≡ front ++ y ∷ []) × IsSending s.id s.partition t.end t.entry.item y × rest front
with_sending s false rest t stream = rest stream

-- these are the frames of the link with this identifier that were sent in these turns, the first
-- one first
abbrev pub AreSendings : SystemRow → ℕ → List (port.Turn Frame) → List Sending → Type 0
AreSendings s vl [] stream = stream ≡ []
AreSendings s vl (t ∷ earlier) stream =
    with_sending s (t.entry.item.vl == vl) (AreSendings s vl earlier) t stream

-- the messages of some releases, the first one first
abbrev pub sent_list : List Release → List Message
sent_list [] = []
sent_list (r ∷ earlier) = sent_list earlier ++ r.submission.message ∷ []

-- their moments, the first one first
abbrev pub times_of : List Release → List ℕ
times_of [] = []
times_of (r ∷ earlier) = times_of earlier ++ r.time ∷ []
