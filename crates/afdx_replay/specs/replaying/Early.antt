-- What is told of the frames that were dropped for their link's rate: by how much each came too
-- early. A list of arrivals has the newest first.
use Rattle.std.specs.Prelude.{ℕ, ◌≡◌, Option, None, List, [], ◌∷◌, ◌⊎◌, drop}
use Rattle.afdx_config.specs.Rows.{Rows}
use Rattle.afdx_police.specs.Arrival.{Arrival}
use Rattle.afdx_police.specs.Verdicts.{is_over_rate}
use Rattle.afdx_input_lines.specs.declared.watched.Watched.{Watched}
use Rattle.afdx_switch.specs.Verdicts.{reason_of}
use Rattle.afdx_replay.specs.Early.{HearsText, IsLineOn, IsOneMore}

-- the text has the line of each of these arrivals that has one, in order
abbrev pub AreEarlyLines : Rows → List Arrival → List ℕ → Type 0
AreEarlyLines t [] = λ text. text ≡ []
AreEarlyLines t (x ∷ past) =
    IsOneMore (AreEarlyLines t past) (IsLineOn t past x None (is_over_rate (reason_of t past x)))

module _ {D : Type 0} (contents : D → Option (List ℕ)) where
  -- a device, if there is one, was told of these arrivals
  abbrev pub HearsEarly : Rows → (old new : Option (Watched D)) → List Arrival → Type 0
  HearsEarly t old new past = HearsText contents (AreEarlyLines t past) old new

  -- of these arrivals, or of all but the newest
  abbrev pub HearsMost : Rows → (old new : Option (Watched D)) → List Arrival → Type 0
  HearsMost t old new past = HearsEarly t old new past ⊎ HearsEarly t old new (drop 1 past)
