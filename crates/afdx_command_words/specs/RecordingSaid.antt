-- What the words say of how a recording is read: each option by its name.
use Rattle.std.specs.Prelude.{ℕ, ◌≡◌, ◌||◌, Bool, List, Option, codes, unwrap_or, option_map, false, if◌then◌else◌}
use Rattle.std.specs.Str.{bytes_eq}
use Rattle.std.specs.Option.{option_map_or}
use Rattle.clap.specs.Words.{first_value}
use Rattle.clap.specs.declared.parser.matches.Found.{Found}
use Rattle.afdx_input_sources.specs.declared.becoming.RecordingOptions.{RecordingOptions}
use Rattle.afdx_command_words.specs.Said.{SaysFlag, SaysNumber}

-- by how many arrivals times may go back where that isn't said: by none where each line is told at
-- once
abbrev pub usual_reorder : Bool → ℕ
usual_reorder line_buffered = if line_buffered then 0 else 10000

module _ (found : Found) where
  -- whether the option of this name has this word, if it is given
  abbrev pub is_said : (name word : List ℕ) → Option Bool
  is_said name word = option_map (λ said. bytes_eq said word) (first_value found name)

  -- by how many arrivals times may go back
  abbrev pub SaysReorder : ℕ → Type 0
  SaysReorder reorder = (said : Option ℕ) × (line_buffered : Bool)
      × SaysNumber found (codes "reorder") said
      × SaysFlag found (codes "line-buffered") line_buffered
      × (reorder ≡ unwrap_or said (usual_reorder line_buffered))

  -- all that they say but of places
  pub record SaysRecording (fcs : Option Bool) (origin : Option ℕ) (reorder : ℕ)
      (from_start : Bool) : Type 0 where
    pub check_sequence : fcs ≡ is_said (codes "fcs") (codes "yes")
    pub time_zero : SaysNumber found (codes "origin") origin
    pub order : SaysReorder reorder
    pub bit : from_start ≡ unwrap_or (is_said (codes "stamps") (codes "start")) false

  -- whether the option of stamps has one of two words
  abbrev pub says_either : (first second : List ℕ) → Bool
  says_either first second = option_map_or
      (λ said. bytes_eq said first || bytes_eq said second)
      (first_value found (codes "stamps")) false

  -- what those of `conform` say: the first word of two is for what came, the second for what left
  pub record SaysSeen (said : RecordingOptions) : Type 0 where
    pub check_sequence : said.fcs ≡ is_said (codes "fcs") (codes "yes")
    pub order : SaysReorder said.reorder
    pub came_bit : said.from_start ≡ says_either (codes "start") (codes "start-end")
    pub left_bit : said.left_from_start ≡ says_either (codes "start") (codes "end-start")
