-- Laws over the lines of a run. Lists have the newest first.
use Rattle.std.specs.Prelude.{ℕ, ◌<◌, ◌≤◌, ◌≡◌, ◌↔◌, false, ⊤, None, Some, List, [], ◌∷◌, ◌++◌, length, map}
use Rattle.afdx_config.specs.Lawful.{IsLawfulSwitch}
use Rattle.afdx_config.specs.Rows.{Rows, LinkRow}
use Rattle.afdx_frame.specs.declared.link.Side.{Side}
use Rattle.afdx_input_runs.specs.Joining.{Frame}
use Rattle.afdx_police.specs.Arrival.{Arrival}
use Rattle.afdx_conform.specs.Explanations.{Explains}
use Rattle.afdx_conform.specs.Headline.{IsAsTheHeadline, sound_of}
use Rattle.afdx_conform.specs.Hiding.{KeepAll}
use Rattle.afdx_conform.specs.Histories.{uncut}
use Rattle.afdx_conform.specs.Leeway.{Leeway}
use Rattle.afdx_conform.specs.Levels.{parts}
use Rattle.afdx_conform.specs.Right.{Asked, IsRight}
use Rattle.afdx_conform.specs.Streams.{Gone, Terms}
use Rattle.afdx_command_conform.specs.Choices.{Choices, latest_of, until_or}
use Rattle.afdx_command_conform.specs.Frames.{arrivals_of, frames_of, strangers_of, terms_at}
use Rattle.afdx_command_conform.specs.Lines.{AreLines, Due, judged_at, lines_of}
use Rattle.afdx_command_conform.specs.Sight.{HasBags}
use Rattle.afdx_command_conform.specs.Tapped.{judged_to}
use Rattle.afdx_command_conform.specs.Telling.{findings_in}

-- frames go by time
unfoldable pub AreByTime : List Frame → Type 0
AreByTime [] = ⊤
AreByTime (x ∷ past) = (latest_of past ≤ x.arrival.time) × AreByTime past

-- no line says that the switch did wrong
abbrev pub NothingIsFound : List Due → Type 0
NothingIsFound lines = findings_in (lines_of lines) ≡ 0

-- ---- what is so of one stream, by its arrivals of the right shape and its frames

-- something explains it, and what passed by that keeps every window
pub record IsExplained (z : Terms) (sound : List Arrival) (frames : List Gone) : Type 0 where
  pub explains : Explains z sound frames
  pub windows : KeepAll z (explains.waiting ++ explains.took)

-- a right switch did this
pub record IsOfRight (z : Terms) (sound : List Arrival) (frames : List Gone) : Type 0 where
  pub asked : List Asked
  pub arrivals : map (λ x. x.arrival) asked ≡ sound
  pub is_right : IsRight z asked frames

-- ---- what is so of a run

module _ (t : Rows) (c : Choices) (until : ℕ) (frames : List Frame) where
  -- the arrivals of a link on a side without a fault in their shape
  abbrev pub sound_at : LinkRow → Side → List Arrival
  sound_at l side = sound_of (c.sight.rule l) (arrivals_of t c l.vl side frames)

  -- what left of it at a port, as far as stamps can tell before the end
  abbrev pub uncut_at : LinkRow → Side → ℕ → List Gone
  uncut_at l side port =
      uncut (terms_at t c until l port) (frames_of t c l.vl side port frames)

  -- each stream that is judged is so
  abbrev pub AreAll : (LinkRow → Side → ℕ → Type 0) → Type 0
  AreAll IsSo = (side : Side) (place port : ℕ) (l : LinkRow) →
      judged_to t c.sight side place port ≡ Some l → IsSo l side port

  -- no frame left that is of no stream; a port is a byte
  abbrev pub NoneIsStrange : Type 0
  NoneIsStrange =
      (side : Side) (port : ℕ) → port < 256 → strangers_of t c side port frames ≡ []

  -- no stream is unsure
  abbrev pub AreSure : Type 0
  AreSure = AreAll (λ l side port. (judged_at t c until frames l side port).is_unsure ≡ false)

  -- what was recorded has an explanation
  pub record AreExplained : Type 0 where
    pub none_strange : NoneIsStrange
    pub streams : AreAll (λ l side port.
        IsExplained (terms_at t c until l port) (sound_at l side) (uncut_at l side port))

  -- a right switch did it
  pub record AreOfRight : Type 0 where
    pub none_strange : NoneIsStrange
    pub streams : AreAll (λ l side port.
        IsOfRight (terms_at t c until l port) (sound_at l side) (uncut_at l side port))

  -- at each port left, of each link that goes there, the first frames that the window rule accepts
  -- of the link's own arrivals, in order, within the latency, and nothing else
  pub record AreAsTheHeadline : Type 0 where
    pub none_strange : NoneIsStrange
    pub streams : AreAll (λ l side port. IsAsTheHeadline (terms_at t c until l port)
        (arrivals_of t c l.vl side frames) (frames_of t c l.vl side port frames))

-- stamps and clocks are exact, accounts are asked at once, and the switch was reset before
pub record IsExactBy (by : Leeway) : Type 0 where
  pub slack : by.slack ≡ 0
  pub between : by.between ≡ 0
  pub drift : by.drift ≡ 0
  pub asked : by.asked ≡ 0
  pub start : by.start ≡ None

-- ---- the laws

-- the lines are a function of tables, choices, end and frames
abbrev pub ThereIsOneAnswer : Type 0
ThereIsOneAnswer =
    (t : Rows) (c : Choices) (until : ℕ) (frames : List Frame) (lines others : List Due) →
    length t.links < 0x100000000 →
    AreLines t c until frames lines →
    AreLines t c until frames others →
    lines ≡ others

-- where no stream is unsure, nothing is found exactly where what was recorded has an explanation
abbrev pub NothingFoundIsExplained : Type 0
NothingFoundIsExplained =
    (t : Rows) (c : Choices) (until : ℕ) (frames : List Frame) (lines : List Due) →
    IsLawfulSwitch t →
    AreByTime frames →
    AreLines t c until frames lines →
    AreSure t c until frames →
    NothingIsFound lines ↔ AreExplained t c until frames

-- there is no line exactly where no stream is unsure and it has one
abbrev pub NoLineIsExplained : Type 0
NoLineIsExplained =
    (t : Rows) (c : Choices) (until : ℕ) (frames : List Frame) (lines : List Due) →
    IsLawfulSwitch t →
    AreByTime frames →
    AreLines t c until frames lines →
    (lines ≡ []) ↔ (AreSure t c until frames × AreExplained t c until frames)

-- with exact stamps and clocks, from a reset on, no stream is unsure, and nothing is found exactly
-- where all is as the headline says
pub record IsByTheHeadline (t : Rows) (c : Choices) (frames : List Frame) (lines : List Due)
    : Type 0 where
  pub are_sure : AreSure t c (until_or c.until frames) frames
  pub found : NothingIsFound lines ↔ AreAsTheHeadline t c (until_or c.until frames) frames
  pub none : NothingIsFound lines ↔ (lines ≡ [])

abbrev pub ConformsIsTheHeadline : Type 0
ConformsIsTheHeadline =
    (t : Rows) (c : Choices) (frames : List Frame) (lines : List Due) →
    IsLawfulSwitch t →
    HasBags t c.sight →
    AreByTime frames →
    IsExactBy c.by →
    AreLines t c (until_or c.until frames) frames lines →
    IsByTheHeadline t c frames lines

-- a right switch is never accused, also where a stream is unsure
abbrev pub RightConforms : Type 0
RightConforms =
    (t : Rows) (c : Choices) (until : ℕ) (frames : List Frame) (lines : List Due) →
    IsLawfulSwitch t →
    HasBags t c.sight →
    AreByTime frames →
    c.by.drift < parts →
    AreLines t c until frames lines →
    AreOfRight t c until frames →
    NothingIsFound lines
