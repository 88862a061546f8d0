-- Where a network fails in the middle: what a system sent comes whole on one side, or on none.
use Rattle.std.specs.Prelude.{ℕ, ◌≡◌, true, List, ◌++◌, length, reverse, take, Some, slice_get}
use Rattle.afdx_frame.specs.declared.link.Side.{Side}
use Rattle.afdx_config.specs.Admission.{IsAdmitted}
use Rattle.afdx_config.specs.Lawful.{IsLawful}
use Rattle.afdx_config.specs.Rows.{SystemRow, LinkRow, Rows, is_to}
use Rattle.afdx_input_lines.specs.Lines.{lines_of}
use Rattle.afdx_send.specs.Complete.{submissions_of, AreReleasesOfAll}
use Rattle.afdx_send.specs.Releases.{Submission, Release}
use Rattle.afdx_law_promises.specs.Lines.{Line, messages_told}
use Rattle.afdx_law_promises.specs.Promises.{EachIsToldOnceSoFar, most_come}
use Rattle.afdx_law_text.specs.EndToEnd.{lines_at, HasSent, heard_of, EachIsToldAsTaken}
use Rattle.afdx_input_sources.specs.Listed.{AreSound, arrivals_of}
use Rattle.afdx_command_tables.specs.sending.Events.{Event, taken_by}
use Rattle.afdx_command_tables.specs.sending.Text.{send_text}

-- on a side the lines of a list at the system's port are the first of those of the text, or all
abbrev pub HoldsFirst : SystemRow → Side → List (List ℕ) → List ℕ → Type 0
HoldsFirst s side list text = (later : List (List ℕ))
    × (lines_at side s.port (lines_of text) ≡ lines_at side s.port list ++ later)

-- of the first n messages that a link released, a system is told those to its UDP ports
pub record AreToldSoFar (t : Rows) (system : ℕ) (l : LinkRow) (taken : List Submission) (n : ℕ)
    (lines : List Line) : Type 0 where
  pub releases : List Release
  pub all : AreReleasesOfAll l taken releases
  pub told : reverse (messages_told system l.vl lines)
      ≡ heard_of t system l (take n (submissions_of releases))

-- Where both networks fail, what the system's links took is told as far as one of them has come: as
-- many messages as frames of the link came on the side where more came.
abbrev pub TakenIsToldSoFar : Type 0
TakenIsToldSoFar = (t : Rows) (list : List (List ℕ)) (lines : List Line) →
    IsLawful t → IsAdmitted t → AreSound list (length list) →
    EachIsToldOnceSoFar t (arrivals_of list (length list)) lines →
    (sender : ℕ) (s : SystemRow) (given : List (List ℕ)) (events : List Event) →
    HasSent t sender s given events →
    ((side : Side) → HoldsFirst s side list (send_text s events)) →
    (system place : ℕ) (receiver : SystemRow) (l : LinkRow) →
    slice_get t.systems system ≡ Some receiver → slice_get t.links place ≡ Some l →
    l.from ≡ sender → is_to system l ≡ true →
    AreToldSoFar t system l (taken_by l.vl events)
    (most_come t l (arrivals_of list (length list))) lines

-- Where one network fails and the other doesn't, all is told that was taken.
abbrev pub TakenIsToldByOneSide : Type 0
TakenIsToldByOneSide = (t : Rows) (list : List (List ℕ)) (lines : List Line) →
    IsLawful t → IsAdmitted t → AreSound list (length list) →
    EachIsToldOnceSoFar t (arrivals_of list (length list)) lines →
    (sender : ℕ) (s : SystemRow) (given : List (List ℕ)) (events : List Event) →
    HasSent t sender s given events →
    ((side : Side) → HoldsFirst s side list (send_text s events)) →
    (whole : Side) →
    lines_at whole s.port list ≡ lines_at whole s.port (lines_of (send_text s events)) →
    EachIsToldAsTaken t sender events lines
