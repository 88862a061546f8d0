-- What `conform` says of the systems that sent what came to a switch: the lines of what they did
-- wrong, and the end of the last line.
use Rattle.std.specs.Prelude.{ℕ, List, [], ◌++◌, Option, Some, None, codes}
use Rattle.std.specs.Fmt.{decimal}
use Rattle.afdx_frame.specs.declared.link.Side.{Side}
use Rattle.afdx_lawful.specs.declared.finding.SenderFinding.{SenderFinding}
use Rattle.afdx_lawful.specs.declared.finding.SenderFinding.TheVariants.{Unlawful, Number, Soon}
use Rattle.afdx_lawful.specs.declared.finding.SenderFinding.TheVariants.{Differs, Apart, Single}
use Rattle.afdx_text.specs.FoundPieces.{count_text, found_text}
use Rattle.afdx_text.specs.SenderWords.{flaw_word, no_source_word}
use Rattle.afdx_text.specs.declared.sender_lines.SenderTotals.{SenderTotals}
use Rattle.afdx_text.specs.declared.sender_words.NoSource.{NoSource}

-- frame n of what came isn't lawful by itself, for this reason
abbrev pub unlawful_line : ℕ → Side → ℕ → (word : List ℕ) → List ℕ
unlawful_line n side port word =
    found_text (codes "unlawful ") n side port ++ codes " " ++ word ++ codes "\n"

-- the line of what a system did as a sender, at its port of a side
abbrev pub sender_line : Side → ℕ → SenderFinding → List ℕ
sender_line side port (Unlawful n flaw) = unlawful_line n side port (flaw_word flaw)
sender_line side port (Number n next) =
    found_text (codes "number ") n side port ++ codes " " ++ decimal next ++ codes "\n"
sender_line side port (Soon n by) =
    found_text (codes "soon ") n side port ++ codes " " ++ decimal by ++ codes "\n"
sender_line side port (Differs n) =
    found_text (codes "differs ") n side port ++ codes "\n"
sender_line side port (Apart n by) =
    found_text (codes "apart ") n side port ++ codes " " ++ decimal by ++ codes "\n"
sender_line side port (Single n) =
    found_text (codes "single ") n side port ++ codes "\n"

-- the line of a frame that is no source's
abbrev pub no_source_line : ℕ → Side → ℕ → NoSource → List ℕ
no_source_line n side port why = unlawful_line n side port (no_source_word why)

-- what is counted of senders, where they were judged
abbrev pub senders_text : Option SenderTotals → List ℕ
senders_text None = []
senders_text (Some s) =
    count_text (codes " sent ") s.sent ++ count_text (codes " cut ") s.cut
    ++ count_text (codes " alone ") s.alone
