-- Laws over the lines of the senders of a switch. Lists have the newest first.
use Rattle.std.specs.Prelude.{◌≡◌, ◌↔◌, ℕ, ◌<◌, ◌≤◌, true, nat_le, Option, Some, None, List, [], ◌∷◌, ◌++◌, filter, length}
use Rattle.std.specs.List.{All}
use Rattle.afdx_conform.specs.Levels.{parts}
use Rattle.afdx_frame.specs.Lengths.{greatest_frame}
use Rattle.afdx_lawful.specs.Judged.{judged_source}
use Rattle.afdx_lawful.specs.Sources.{Came, Source}
use Rattle.afdx_police.specs.Arrival.{Arrival}
use Rattle.afdx_senders.specs.AllLines.{all_lines, is_early}
use Rattle.afdx_senders.specs.History.{HaveTold}
use Rattle.afdx_senders.specs.Lines.{FoundBy, Line, OfNone, OfSource}
use Rattle.afdx_senders.specs.SenderCounts.{alone_in}
use Rattle.afdx_senders.specs.Setups.{Setup, ending, own_frames, source_at, whose}
use Rattle.afdx_senders.specs.Strays.{stray_of}
use Rattle.afdx_senders.specs.Telling.{AreToldBefore, AreToldEarly, ComeFrom, HaveBegun, IsEndSince}
use Rattle.afdx_senders.specs.declared.senders.Senders.{Senders}

-- ---- early

-- the lines of moments before a time are the same, whatever comes at it or later
abbrev pub EarlyLinesStay : Type 0
EarlyLinesStay =
    (z : Setup) (time : ℕ) (more xs : List Arrival) →
    ComeFrom (Some time) more →
    filter (is_early (Some time)) (all_lines z (more ++ xs))
    ≡ filter (is_early (Some time)) (all_lines z xs)

-- where just these lines are told, whenever the recordings end, they are so whatever comes
abbrev pub WhatIsToldIsEarly : Type 0
WhatIsToldIsEarly =
    (z : Setup) (said : Option ℕ) (time : ℕ) (xs : List Arrival) (told : List Line) →
    ((until : ℕ) → IsEndSince said time until →
    AreToldBefore (ending until z) (Some time) xs told) →
    AreToldEarly z said time xs told

-- at any call what was told is the first of all lines, whatever else comes
abbrev pub WhatIsToldIsFirst : Type 0
WhatIsToldIsFirst =
    (z : Setup) (before : Option ℕ) (xs : List Arrival) (told : List Line) (senders : Senders) →
    HaveTold z before xs told senders →
    HaveBegun z before xs told

-- ---- one answer

-- two frames have another line, or came at another port or side
abbrev pub AreTwo : Arrival → Arrival → Type 0
AreTwo x y = x.tag ≡ y.tag → x.side ≡ y.side → x.port ≡ y.port → ⊥

-- each is told from those before it by its line, side and port, which are such as frames have
pub record IsNumbered (x : Arrival) (past : List Arrival) : Type 0 where
  pub apart : All (AreTwo x) past
  pub port : x.port < 0x100
  pub line : x.tag < 0x10000000000000000

abbrev pub AreNumbered : List Arrival → Type 0
AreNumbered [] = Unit {0}
AreNumbered (x ∷ past) = IsNumbered x past × AreNumbered past

-- what is told before a time is a function of the setup and the frames
abbrev pub WhatIsToldIsOne : Type 0
WhatIsToldIsOne =
    (z : Setup) (before : Option ℕ) (xs : List Arrival) (told others : List Line) →
    z.asked.by.drift < parts →
    AreNumbered xs →
    AreToldBefore z before xs told →
    AreToldBefore z before xs others →
    told ≡ others

-- ---- no line

-- nothing is judged of these frames of a source
pub record IsQuiet (s : Source) (xs : List Came) : Type 0 where
  pub coming : (judged_source s xs).coming ≡ []
  pub on_a : (judged_source s xs).on_a ≡ []
  pub on_b : (judged_source s xs).on_b ≡ []

-- nothing is of any sender that is judged, and no frame is of none at a port that was recorded
pub record AreQuiet (z : Setup) (xs : List Arrival) : Type 0 where
  pub sources : (place : ℕ) (s : Source) → source_at z place ≡ Some s →
      IsQuiet s (own_frames z place xs)
  pub strays : All (λ x. stray_of (whose z x) x.bytes ≡ None) xs

-- there is no line exactly where that is so
abbrev pub NoLineIsQuiet : Type 0
NoLineIsQuiet = (z : Setup) (xs : List Arrival) → (all_lines z xs ≡ []) ↔ AreQuiet z xs

-- where no more frames come and nothing was told, there is none
abbrev pub NothingToldIsNoLine : Type 0
NothingToldIsNoLine =
    (z : Setup) (xs : List Arrival) → AreToldBefore z None xs [] → all_lines z xs ≡ []

-- something is found of the frame of a line
abbrev pub IsFound : FoundBy → Type 0
IsFound (OfSource []) = ⊥
IsFound (OfSource (f ∷ more)) = Unit {0}
IsFound (OfNone stray) = Unit {0}

abbrev pub EachLineIsFound : Type 0
EachLineIsFound =
    (z : Setup) (before : Option ℕ) (xs : List Arrival) (told : List Line) →
    AreToldBefore z before xs told →
    All (λ x. IsFound x.found) told

-- of fewer frames there is no line, either, and each sender that is judged has the same frames
pub record AreSameSent (z : Setup) (xs fewer : List Arrival) : Type 0 where
  pub no_line : all_lines z fewer ≡ []
  pub own : (place : ℕ) (s : Source) → source_at z place ≡ Some s →
      own_frames z place fewer ≡ own_frames z place xs

-- Where there is no line, no sender that is judged sent a frame that is longer than any may be. So
-- longer ones may be passed over.
abbrev pub LongerArePassedOver : Type 0
LongerArePassedOver =
    (z : Setup) (longest : ℕ) (xs : List Arrival) →
    greatest_frame ≤ longest →
    all_lines z xs ≡ [] →
    AreSameSent z xs (filter (λ x. nat_le (length x.bytes) longest) xs)

-- where no link is alone, each sender that is judged was recorded on both sides
abbrev pub NoneAloneIsPaired : Type 0
NoneAloneIsPaired =
    (z : Setup) (place : ℕ) (s : Source) →
    alone_in z ≡ 0 →
    source_at z place ≡ Some s →
    s.is_paired ≡ true
