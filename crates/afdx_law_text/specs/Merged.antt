-- Texts of several systems, merged into one list. Lists of lines have the first one first.
use Rattle.std.specs.Prelude.{ℕ, ◌≡◌, ◌⊎◌, ◌||◌, Bool, List, [], ◌∷◌, length, filter, Some, slice_get}
use Rattle.afdx_frame.specs.declared.link.Side.{Side}
use Rattle.afdx_frame.specs.declared.link.Side.TheVariants.{A, B}
use Rattle.afdx_config.specs.Admission.{IsAdmitted}
use Rattle.afdx_config.specs.Lawful.{IsLawful, AreDistinct}
use Rattle.afdx_config.specs.Rows.{SystemRow, Rows}
use Rattle.afdx_input_lines.specs.FrameLines.{line_says}
use Rattle.afdx_input_lines.specs.Lines.{lines_of}
use Rattle.afdx_law_promises.specs.Lines.{Line}
use Rattle.afdx_law_promises.specs.Promises.{EachIsToldOnce}
use Rattle.afdx_law_text.specs.EndToEnd.{says_at, lines_at, HasSent, EachIsToldAsTaken}
use Rattle.afdx_input_sources.specs.Listed.{AreSound, arrivals_of}
use Rattle.afdx_command_tables.specs.sending.Events.{Event}
use Rattle.afdx_command_tables.specs.sending.Text.{send_text}

-- two lists, each in its order, are merged into one in any way
abbrev pub AreMerged : List (List ℕ) → List (List ℕ) → List (List ℕ) → Type 0
AreMerged [] ones others = (ones ≡ []) × (others ≡ [])
AreMerged (line ∷ list) ones others =
    ((rest : List (List ℕ)) × (ones ≡ line ∷ rest) × AreMerged list rest others)
    ⊎ ((rest : List (List ℕ)) × (others ≡ line ∷ rest) × AreMerged list ones rest)

-- a system by its place in the tables, its list of submissions, and its events
pub record Sender : Type 0 where
  pub place : ℕ
  pub row : SystemRow
  pub given : List (List ℕ)
  pub events : List Event

-- a line that, read alone, is a frame at this port, on either side
abbrev pub is_at : ℕ → List ℕ → Bool
is_at port line = says_at A port (line_says 0 line) || says_at B port (line_says 0 line)

-- the R lines of its text: those that are frames at its port
abbrev pub lines_sent : Sender → List (List ℕ)
lines_sent x = filter (is_at x.row.port) (lines_of (send_text x.row x.events))

-- the R lines of these systems, and other lines, are merged into one list in any way
abbrev pub AreTextsMerged : List (List ℕ) → List Sender → List (List ℕ) → Type 0
AreTextsMerged list [] others = list ≡ others
AreTextsMerged list (x ∷ senders) others = (rest : List (List ℕ))
    × AreMerged list (lines_sent x) rest × AreTextsMerged rest senders others

-- Systems of admitted tables, each once, have sent, and their R lines are merged with lines that
-- are at none of their ports, as remarks are
pub record AreSentMerged (t : Rows) (list : List (List ℕ)) (senders : List Sender)
    (others : List (List ℕ)) : Type 0 where
  pub lawful : IsLawful t
  pub admitted : IsAdmitted t
  pub sound : AreSound list (length list)
  pub distinct : AreDistinct (λ x. x.place) senders
  pub sent : (i : ℕ) (x : Sender) →
      slice_get senders i ≡ Some x →
      HasSent t x.place x.row x.given x.events
  pub elsewhere : (i : ℕ) (x : Sender) (side : Side) →
      slice_get senders i ≡ Some x →
      lines_at side x.row.port others ≡ []
  pub merged : AreTextsMerged list senders others

-- Then each of them is told as taken: the lines that a replay of the list promises tell, for each
-- receiver of each of their links, what the link took
abbrev pub MergedAreToldOnce : Type 0
MergedAreToldOnce = (t : Rows) (list : List (List ℕ)) (lines : List Line)
    (senders : List Sender) (others : List (List ℕ)) →
    AreSentMerged t list senders others →
    EachIsToldOnce t (arrivals_of list (length list)) lines →
    (i : ℕ) (x : Sender) →
    slice_get senders i ≡ Some x →
    EachIsToldAsTaken t x.place x.events lines
