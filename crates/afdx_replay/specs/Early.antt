-- What is told of a frame that was dropped for its link's rate: by how much it came too early.
use Rattle.std.specs.Prelude.{ℕ, ◌≡◌, Bool, true, false, Option, Some, None, List, [], ◌++◌}
use Rattle.std.specs.Prelude.{codes, decimal}
use Rattle.afdx_config.specs.Rows.{Rows}
use Rattle.afdx_police.specs.Arrival.{Arrival}
use Rattle.afdx_input_lines.specs.declared.watched.Watched.{Watched}
use Rattle.afdx_switch.specs.Early.{IsEarlyBy}
use Rattle.afdx_text.specs.Telling.{Tells}

-- a place, if it is said, and a space
abbrev pub place_word : Option (List ℕ) → List ℕ
place_word None = []
place_word (Some place) = place ++ codes " "

-- the frame of line n came so many nanoseconds too early, at a place if that is said
abbrev pub early_line : ℕ → (place : Option (List ℕ)) → ℕ → List ℕ
early_line n place wait =
    codes "early " ++ decimal n ++ codes " " ++ place_word place ++ decimal wait ++ codes "\n"

-- the line of an arrival that comes after these: if it is dropped for its link's rate, by how much
-- it came too early; else there is none
abbrev pub IsLineOn : Rows → List Arrival → Arrival → (place : Option (List ℕ)) →
    (is_over_rate : Bool) → List ℕ → Type 0
IsLineOn t past x place true line =
    (wait : ℕ) × IsEarlyBy t past x wait × (line ≡ early_line x.tag place wait)
IsLineOn t past x place false line = line ≡ []

-- one more line, behind the text of those before it
pub record IsOneMore (holds is_line : List ℕ → Type 0) (text : List ℕ) : Type 0 where
  pub before : List ℕ
  pub line : List ℕ
  pub are_before : holds before
  pub is : is_line line
  pub whole : text ≡ before ++ line

module _ {D : Type 0} (contents : D → Option (List ℕ)) (holds : List ℕ → Type 0) where
  -- a device was told a text of which this holds
  pub record TellsText (old new : Watched D) : Type 0 where
    pub text : List ℕ
    pub lines : holds text
    pub told : Tells contents old new text

  -- the same of a device, if there is one
  abbrev pub HearsText : (old new : Option (Watched D)) → Type 0
  HearsText None None = Unit {0}
  HearsText (Some old) (Some new) = TellsText old new
  HearsText old new = ⊥
