-- What the words of the other commands ask for: each option by its name.
use Rattle.std.specs.Prelude.{ℕ, ◌≡◌, Bool, false, not, List, Option, Some, codes, unwrap_or, option_map}
use Rattle.std.specs.Prelude.{if◌then◌else◌}
use Rattle.std.specs.List.{list_any}
use Rattle.std.specs.Str.{bytes_eq}
use Rattle.clap.specs.Words.{first_value}
use Rattle.clap.specs.declared.parser.matches.Found.{Found}
use Rattle.afdx_command_tables.specs.declared.check_tables.CheckOptions.{CheckOptions}
use Rattle.afdx_frame.specs.declared.link.Policing.{Policing}
use Rattle.afdx_frame.specs.declared.link.Policing.TheVariants as policing
use Rattle.afdx_solve.specs.declared.options.SolveOptions.{SolveOptions}
use Rattle.afdx_command_words.specs.RecordingSaid.{is_said}
use Rattle.afdx_command_words.specs.Said.{SaysFlag, SaysNumber, SaysOrZero, words_of}
use Rattle.afdx_command_words.specs.declared.asked.ConformInputs.{ConformInputs}
use Rattle.afdx_command_words.specs.declared.asked.Inputs.{Inputs}
use Rattle.afdx_command_words.specs.declared.asked.PoliceOptions.{PoliceOptions}
use Rattle.afdx_command_words.specs.declared.asked.ReplayOptions.{ReplayOptions}
use Rattle.afdx_command_words.specs.declared.asked.SendWords.{SendWords}

-- one of some words is this one
abbrev pub is_among : (word : List ℕ) → List (List ℕ) → Bool
is_among word words = list_any (λ said. bytes_eq said word) words

-- how a frame is charged: by its length, unless the word is `frame`
abbrev pub charged_by : (by_frame : Option Bool) → Policing
charged_by by_frame = if unwrap_or by_frame false then policing.Frame else policing.Byte

module _ (found : Found) where
  -- of `check`
  pub record SaysCheck (asked : CheckOptions) : Type 0 where
    pub all : SaysFlag found (codes "all") asked.all
    pub margins : SaysFlag found (codes "margins") asked.margins

  -- a key stands behind `--keep`
  abbrev pub is_kept : (key : List ℕ) → Bool
  is_kept key = is_among key (words_of found (codes "keep"))

  -- of `solve`
  pub record SaysSolve (asked : SolveOptions) : Type 0 where
    pub jitter : asked.kept.jitter ≡ is_kept (codes "jitter")
    pub buffer : asked.kept.buffer ≡ is_kept (codes "buffer")
    pub latency : asked.kept.latency ≡ is_kept (codes "latency")
    pub skew : asked.kept.skew ≡ is_kept (codes "skew")
    pub raise : SaysFlag found (codes "raise-only") asked.raise_only
    pub apart : SaysOrZero found (codes "apart") asked.apart

  -- of `police`
  pub record SaysPolice (asked : PoliceOptions) : Type 0 where
    pub link : SaysNumber found (codes "vl") (Some asked.vl)
    pub port : SaysNumber found (codes "port") (Some asked.port)
    pub gap : SaysNumber found (codes "BAG_MS") (Some asked.bag_ms)
    pub shortest : SaysNumber found (codes "lmin") (Some asked.lmin)
    pub longest : SaysNumber found (codes "LMAX") (Some asked.lmax)
    pub jitter : SaysNumber found (codes "JITTER_US") (Some asked.jitter_us)
    pub charge : asked.policing ≡ charged_by (is_said found (codes "policing") (codes "frame"))

  -- of `replay`
  pub record SaysReplay (asked : ReplayOptions) : Type 0 where
    pub freely : SaysFlag found (codes "no-admission") (not asked.admission)
    pub drops : SaysFlag found (codes "explain-drops") asked.explains_drops

  -- the inputs of `replay` and `list`: one, or that of network A and that of network B
  pub record SaysInputs (asked : Inputs) : Type 0 where
    pub first : Some asked.list.now ≡ first_value found (codes "LIST")
    pub other : option_map (λ list. list.now) asked.second ≡ first_value found (codes "LIST_B")

  -- those of `conform`
  pub record SaysConformInputs (asked : ConformInputs) : Type 0 where
    pub first : Some asked.came.now ≡ first_value found (codes "CAME")
    pub other : option_map (λ list. list.now) asked.left ≡ first_value found (codes "LEFT")

  -- of `send`
  pub record SaysSend (asked : SendWords) : Type 0 where
    pub sender : Some asked.system.now ≡ first_value found (codes "SYSTEM")
    pub messages : Some asked.submissions.now ≡ first_value found (codes "SUBMISSIONS")
