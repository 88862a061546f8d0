-- The lines that a run writes of the frames of both roles, before its last line. Lists of frames
-- and of lines have the newest first.
use Rattle.std.specs.Prelude.{ℕ, ◌+◌, ◌*◌, ◌<◌, ◌≤◌, ◌≡◌, Bool, true, ⊤, Option, Some, None, List, [], ◌∷◌, ◌++◌, filter, map, is_some, reverse, if◌then◌else◌}
use Rattle.std.specs.Option.{option_map_or}
use Rattle.afdx_config.specs.Rows.{Rows, LinkRow}
use Rattle.afdx_frame.specs.declared.link.Side.{Side}
use Rattle.afdx_input_runs.specs.Joining.{Frame}
use Rattle.afdx_police.specs.Arrival.{Arrival}
use Rattle.afdx_police.specs.Shape.{fault_of}
use Rattle.afdx_police.specs.declared.shape.Reason.{Reason}
use Rattle.afdx_police.specs.declared.shape.Reason.TheVariants.{UnknownLink}
use Rattle.afdx_conform.specs.Events.{moment_at}
use Rattle.afdx_conform.specs.Histories.{judged_of}
use Rattle.afdx_conform.specs.Findings.{Found, Judged, Marked}
use Rattle.afdx_conform.specs.Streams.{Terms}
use Rattle.afdx_conform.specs.declared.finding.Finding.{Finding}
use Rattle.afdx_conform.specs.declared.finding.Finding.TheVariants.{Strange}
use Rattle.afdx_conform.specs.declared.strangeness.Strangeness.{Strangeness}
use Rattle.afdx_conform.specs.declared.strangeness.Strangeness.TheVariants.{Shape, NotItsPort}
use Rattle.afdx_text.specs.declared.conform_line.ConformLine.{ConformLine}
use Rattle.afdx_text.specs.declared.conform_line.ConformLine.TheVariants as line
use Rattle.afdx_command_conform.specs.Choices.{Choices}
use Rattle.afdx_command_conform.specs.Frames.{arrivals_of, frames_of, strangers_of, place_named, terms_at}
use Rattle.afdx_command_conform.specs.Keys.{is_key, key_rank}
use Rattle.afdx_command_conform.specs.Tapped.{judged_to}
use Rattle.afdx_command_conform.specs.declared.key.Key.{Key}
use Rattle.afdx_command_conform.specs.declared.due.DueLine.{DueLine}

-- a line, the moment at which it is due, in ns, and whose it is
abbrev pub Due : Type 0
Due = DueLine

abbrev pub due_at : Key → ℕ → ConformLine → Due
due_at key moment line = record { moment = moment; key = key; line = line }

-- lines go by moment, those of one moment as their keys say
abbrev pub rank : Due → ℕ
rank d = d.moment * 18446744073709551616 + key_rank d.key

abbrev pub last_rank : List Due → ℕ
last_rank [] = 0
last_rank (d ∷ before) = rank d

unfoldable pub AreInOrder : List Due → Type 0
AreInOrder [] = ⊤
AreInOrder (d ∷ before) = (last_rank before ≤ rank d) × AreInOrder before

-- those of a key
abbrev pub of_key : Key → List Due → List Due
of_key k lines = filter (λ d. is_key k d.key) lines

-- what they say, the oldest first
abbrev pub lines_of : List Due → List ConformLine
lines_of lines = reverse (map (λ d. d.line) lines)

-- the line of a finding
abbrev pub found_line : Key → Finding → ConformLine
found_line k finding = line.Found k.side k.port finding

-- ---- frames that are of no stream

-- why the frame is none of the link's that its bytes name: the first that is true
abbrev pub stranger_by : (is_named : Bool) → Option Reason → Strangeness
stranger_by true (Some UnknownLink) = NotItsPort
stranger_by is_named (Some reason) = Shape reason
stranger_by is_named None = NotItsPort

abbrev pub stranger_reason : Rows → List ℕ → Strangeness
stranger_reason t bytes = stranger_by (is_some (place_named t bytes)) (fault_of None 0 bytes)

abbrev pub stranger_due : Rows → Key → Arrival → Due
stranger_due t k x =
    due_at k x.time (found_line k (Strange x.tag (stranger_reason t x.bytes)))

-- ---- what is found in a stream

abbrev pub found_due : Terms → Key → Found → Due
found_due z k f = due_at k (moment_at z f.time) (found_line k f.finding)

-- the newest of some arrivals, behind which there were too many states
abbrev pub unsure_dues : Terms → Key → List Marked → List Due
unsure_dues z k [] = []
unsure_dues z k (m ∷ before) =
    due_at k (moment_at z m.arrival.time) (line.Unsure m.arrival.tag k.side k.port) ∷ []

-- the lines of a stream that is judged so
unfoldable pub judged_dues : Terms → Key → Judged → List Due
judged_dues z k j = (if j.is_unsure then unsure_dues z k (reverse j.arrivals) else [])
    ++ map (found_due z k) j.findings

-- ---- all lines

module _ (t : Rows) (c : Choices) (until : ℕ) (frames : List Frame) where
  -- how the stream of a link is judged
  abbrev pub judged_at : LinkRow → Side → ℕ → Judged
  judged_at l side port = judged_of (terms_at t c until l port)
      (reverse (arrivals_of t c l.vl side frames)) (reverse (frames_of t c l.vl side port frames))

  abbrev pub stream_dues : Key → LinkRow → List Due
  stream_dues k l = judged_dues (terms_at t c until l k.port) k (judged_at l k.side k.port)

  abbrev pub dues_by : Key → Option ℕ → List Due
  dues_by k None = map (stranger_due t k) (strangers_of t c k.side k.port frames)
  dues_by k (Some place) =
      option_map_or (stream_dues k) (judged_to t c.sight k.side place k.port) []

  -- the lines of a key: a stream's depend on its own arrivals and frames alone
  abbrev pub dues_of : Key → List Due
  dues_of k = dues_by k k.link

  -- these are all lines: of each key its own, in their order, one key's among the others' by
  -- moment; a port is a byte
  pub record AreLines (lines : List Due) : Type 0 where
    pub own : (k : Key) → k.port < 256 → of_key k lines ≡ dues_of k
    pub only : (k : Key) → 256 ≤ k.port → of_key k lines ≡ []
    pub in_order : AreInOrder lines
