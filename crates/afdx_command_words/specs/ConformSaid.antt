-- What the words of `conform` ask for: each option by its name.
use Rattle.std.specs.Prelude.{ℕ, ◌≡◌, List, Option, Some, None, codes}
use Rattle.std.specs.List.{AllZip}
use Rattle.clap.specs.declared.parser.matches.Found.{Found}
use Rattle.afdx_frame.specs.declared.link.VlId.{VlId}
use Rattle.afdx_command_words.specs.Said.{IsNumber, SaysFlag, SaysNumber, SaysOrZero, number_in, words_of}
use Rattle.afdx_command_words.specs.declared.conform_words.ConformOptions.{ConformOptions}

-- a word names this link, or the frames that name none
abbrev pub NamesLink : List ℕ → Option VlId → Type 0
NamesLink word None = word ≡ codes "other"
NamesLink word (Some link) = IsNumber word × (link.0 ≡ number_in word)

pub record SaysConform (found : Found) (asked : ConformOptions) : Type 0 where
  pub slack : SaysOrZero found (codes "slack") asked.slack
  pub between : SaysOrZero found (codes "between") asked.between
  pub drift : SaysOrZero found (codes "drift") asked.drift
  pub inner : SaysOrZero found (codes "inner") asked.inner
  pub account : SaysOrZero found (codes "asked") asked.asked
  pub from_time : SaysNumber found (codes "from") asked.from
  pub until_time : SaysNumber found (codes "until") asked.until
  pub left_out : AllZip NamesLink (words_of found (codes "leave-out")) asked.left_out.items
  pub lossy : SaysFlag found (codes "lossy") asked.is_lossy
  pub exercised : SaysFlag found (codes "exercised") asked.is_exercised
