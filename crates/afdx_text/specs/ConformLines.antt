-- The lines of `conform`: what is found at a switch that was recorded, and of the systems that sent
-- to it, and the last line.
use Rattle.std.specs.Prelude.{ℕ, List, ◌++◌, codes}
use Rattle.std.specs.Fmt.{decimal}
use Rattle.afdx_conform.specs.Words.{strange_word}
use Rattle.afdx_conform.specs.declared.finding.Finding.{Finding}
use Rattle.afdx_conform.specs.declared.finding.Finding.TheVariants.{Strange, Passed, Stopped}
use Rattle.afdx_conform.specs.declared.finding.Finding.TheVariants.{Late, Early}
use Rattle.afdx_frame.specs.declared.link.Side.{Side}
use Rattle.afdx_police.specs.Words.{reason_word}
use Rattle.afdx_text.specs.declared.conform_line.Answer.{Answer}
use Rattle.afdx_text.specs.declared.conform_line.Answer.TheVariants.{Conforms, Deviates, Undecided}
use Rattle.afdx_text.specs.declared.conform_line.Conclusion.{Conclusion}
use Rattle.afdx_text.specs.declared.conform_line.ConformLine.{ConformLine}
use Rattle.afdx_text.specs.declared.conform_line.ConformLine.TheVariants.{Found, Unsure, Judged}
use Rattle.afdx_text.specs.declared.conform_line.ConformLine.TheVariants.{Sender, Sourceless}
use Rattle.afdx_text.specs.FoundPieces.{count_text, found_text}
use Rattle.afdx_text.specs.SenderLines.{no_source_line, sender_line, senders_text}

abbrev pub answer_text : Answer → List ℕ
answer_text Conforms = codes "conforms"
answer_text (Deviates findings) = count_text (codes "deviates ") findings
answer_text Undecided = codes "undecided"

-- the line of a finding at an output port of a side
abbrev pub finding_text : Side → ℕ → Finding → List ℕ
finding_text side port (Strange n why) =
    found_text (codes "strange ") n side port ++ codes " " ++ strange_word why ++ codes "\n"
finding_text side port (Passed n reason) =
    found_text (codes "passed ") n side port ++ codes " " ++ reason_word reason ++ codes "\n"
finding_text side port (Stopped n) =
    found_text (codes "stopped ") n side port ++ codes "\n"
finding_text side port (Late n by) =
    found_text (codes "late ") n side port ++ codes " " ++ decimal by ++ codes "\n"
finding_text side port (Early n by) =
    found_text (codes "early ") n side port ++ codes " " ++ decimal by ++ codes "\n"

-- the last line: the answer, and how many frames and arrivals it stands on
abbrev pub judged_line : Conclusion → List ℕ
judged_line j =
    answer_text j.answer
    ++ count_text (codes " explained ") j.explained ++ count_text (codes " open ") j.waiting
    ++ count_text (codes " uncertain ") j.uncertain ++ count_text (codes " left-out ") j.left_out
    ++ count_text (codes " unseen ") j.unseen ++ count_text (codes " idle ") j.idle
    ++ senders_text j.senders ++ codes "\n"

abbrev pub conform_text : ConformLine → List ℕ
conform_text (Found side port finding) = finding_text side port finding
conform_text (Unsure n side port) = found_text (codes "unsure ") n side port ++ codes "\n"
conform_text (Sender side port finding) = sender_line side port finding
conform_text (Sourceless n side port why) = no_source_line n side port why
conform_text (Judged j) = judged_line j
