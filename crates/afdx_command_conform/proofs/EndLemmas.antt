-- All lines of a run.
use Rattle.std.proofs.Common.{◌≡◌, ℕ, ◌+◌, ◌*◌, ◌<◌, true, List, [], ◌∷◌, length, refl, sym, subst, arith, true≢false}
use Rattle.std.specs.Prelude.{Err, None, Ok, OnOk, Option, Result, Some, is_some}
use Rattle.afdx_config.specs.Rows.{Rows}
use Rattle.afdx_conform.specs.Ranges.{most_held}
use Rattle.afdx_input_sources.specs.Engine.{Item}
use Rattle.afdx_input_sources.specs.Items.{most_frames}
use Rattle.afdx_input_runs.specs.Joining.{Frame, frames_of}
use Rattle.afdx_input_runs.specs.Seeing.{latest_seen}
use Rattle.afdx_input_runs.specs.declared.seen.Seen.{Seen}
use Rattle.afdx_command_conform.specs.Beginning.{AreFirstLines}
use Rattle.afdx_command_conform.specs.Choices.{Choices, latest_of, until_or}
use Rattle.afdx_command_conform.specs.Counting.{AreEnded}
use Rattle.afdx_command_conform.specs.Keeping.{IsNothingDue}
use Rattle.afdx_command_conform.specs.Lines.{AreLines, Due}
use Rattle.afdx_command_conform.specs.Told.{HasTold, IsJudgedToEnd}
use Rattle.afdx_command_conform.specs.declared.judging.JudgingRun.{JudgingRun}
use Rattle.afdx_command_conform.proofs.EarlyLemmas.{last-all, last-ended, last-first}

pub latest-same : (past : List (Item Seen)) → latest_of (frames_of past) ≡ latest_seen past
latest-same [] = refl
latest-same (x ∷ past) = refl

length-frames : (past : List (Item Seen)) → length (frames_of past) ≡ length past
length-frames [] = refl
length-frames (x ∷ past) = let h = length-frames past in omega (arith, h)

pub are-few : (past : List (Item Seen)) → length past < 2 * most_frames → length (frames_of past) + 1 < most_held
are-few past lt = let same = length-frames past in omega (arith, same, lt)

pub known-end : (o : Option ℕ) → is_some o ≡ true → (end : ℕ) × (o ≡ Some end)
known-end None e = absurd (true≢false (sym e))
known-end (Some end) e = (end, refl)

-- all is told once nothing is due
pub ends-all : {V E : Type 0} (r : Result V E) (k : Rows × Choices) (j : JudgingRun) (frames : List Frame)
    (dues : List Due) (time : ℕ) → is_some j.streams.ended ≡ true
    → OnOk r (HasTold k true time j frames dues × IsNothingDue k.0 None j.streams.kept)
    → OnOk r (IsJudgedToEnd k j frames dues)
ends-all (Ok v) k j frames dues time some told = record {
  works = told.0.0;
  time = time;
  stands = told.0.1;
  ended = some;
  nothing_due = told.1;
}
ends-all (Err e) k j frames dues time some told = tt

-- ---- all lines

module _ (k : Rows × Choices) (j : JudgingRun) (frames : List Frame) (dues : List Due)
    (h : IsJudgedToEnd k j frames dues) where
  the-end : (end : ℕ) × (j.streams.ended ≡ Some end)
  the-end = known-end j.streams.ended h.ended

  -- what was told to the end is all
  pub all-lines : AreLines k.0 k.1 (until_or k.1.until frames) frames dues
  all-lines = last-all k frames h.time j dues the-end.0 the-end.1 h.stands h.nothing_due

  -- and each stream is judged
  pub all-ended : AreEnded j.streams.tables.now k.1 (until_or k.1.until frames) frames j.streams.kept
  all-ended = subst (λ t. AreEnded t k.1 (until_or k.1.until frames) frames j.streams.kept) (sym h.works.tables_are)
      (last-ended k frames h.time j dues the-end.0 the-end.1 h.stands h.nothing_due)

  -- these are the first
  pub all-first : AreFirstLines k.0 k.1 (until_or k.1.until frames) frames dues
  all-first = last-first k frames h.time j dues the-end.0 the-end.1 h.stands
