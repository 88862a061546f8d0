-- The lines of what is told of frames that systems sent.
use Rattle.std.specs.Prelude.{ℕ, List, [], ◌∷◌, ◌++◌, map}
use Rattle.afdx_frame.specs.declared.link.Side.{Side}
use Rattle.afdx_lawful.specs.declared.finding.Flaw.TheVariants as flaw
use Rattle.afdx_lawful.specs.declared.finding.SenderFinding.TheVariants.{Unlawful}
use Rattle.afdx_senders.specs.Lines.{FoundBy, Line, OfNone, OfSource}
use Rattle.afdx_senders.specs.declared.stray.Stray.{Stray}
use Rattle.afdx_senders.specs.declared.stray.Stray.TheVariants.{Damaged, NotItsLink, UnknownLink}
use Rattle.afdx_text.specs.declared.conform_line.ConformLine.{ConformLine}
use Rattle.afdx_text.specs.declared.conform_line.ConformLine.TheVariants.{Sender, Sourceless}
use Rattle.afdx_text.specs.declared.sender_words.NoSource.TheVariants as source

-- of frame n, which is no source's, at a system's port
abbrev pub stray_line : (n : ℕ) → Side → ℕ → Stray → ConformLine
stray_line n side port (Damaged fault) = Sender side port (Unlawful n (flaw.Damaged fault))
stray_line n side port UnknownLink = Sourceless n side port source.UnknownLink
stray_line n side port NotItsLink = Sourceless n side port source.NotItsLink

abbrev pub lines_by : (n : ℕ) → Side → ℕ → FoundBy → List ConformLine
lines_by n side port (OfSource found) = map (Sender side port) found
lines_by n side port (OfNone stray) = stray_line n side port stray ∷ []

-- of all that is found of a frame at one moment
abbrev pub lines_of : Line → List ConformLine
lines_of x = lines_by x.line x.side x.port x.found

-- of all that is told, of which the newest is the first; the oldest line is the first
unfoldable pub told_lines : List Line → List ConformLine
told_lines [] = []
told_lines (x ∷ past) = told_lines past ++ lines_of x
