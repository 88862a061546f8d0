-- The text of a run that polices one link: a line for each arrival. A list of arrivals has the
-- newest first.
use Rattle.std.specs.Prelude.{ℕ, suc, Bool, List, [], ◌∷◌, ◌++◌, Option}
use Rattle.std.specs.Prelude.{is_none, is_some, if◌then◌else◌}
use Rattle.afdx_police.specs.declared.shape.Reason.{Reason}
pub use Rattle.afdx_police.specs.Words.{reason_word as reason_text}
use Rattle.afdx_police.specs.Arrival.{Arrival}
use Rattle.afdx_police.specs.Rule.{Rule}
use Rattle.afdx_police.specs.Verdicts.{verdict_in}
use Rattle.afdx_command_tables.specs.declared.summary.Summary.{Summary}
pub use Rattle.afdx_text.specs.OutLines.{side_text, verdict_text, verdict_line}

-- each arrival's line has the verdict on it after those before it
unfoldable pub text_of : Rule → List Arrival → List ℕ
text_of rule [] = []
text_of rule (x ∷ past) =
    text_of rule past ++ verdict_line x.tag (side_text x.side) (verdict_in rule past x)

-- how many of the arrivals have such a verdict
unfoldable pub count_judged : (Option Reason → Bool) → Rule → List Arrival → ℕ
count_judged test rule [] = 0
count_judged test rule (x ∷ past) =
    if test (verdict_in rule past x)
    then suc (count_judged test rule past)
    else count_judged test rule past

-- what a run over n lines counts; nothing departs and nothing is received in it
abbrev pub counts_of : Rule → ℕ → List Arrival → Summary
counts_of rule n past = record {
  lines = n;
  accepted = count_judged is_none rule past;
  dropped = count_judged is_some rule past;
  lost = 0;
  departed = 0;
  too_old = 0;
  delivered = 0;
}
