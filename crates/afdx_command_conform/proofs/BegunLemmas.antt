-- What a run has begun to tell.
use Rattle.std.proofs.Common.{◌≡◌, ℕ, ◌≤◌, true, false, List, [], ◌∷◌, ◌++◌, inl, inr, map, refl, sym, ap, ◌∙◌, subst, arith}
use Rattle.std.proofs.KnownBytes.{Appends-nil, Appends-trans}
use Rattle.std.proofs.lemmas.Bool.{le-ltb}
use Rattle.std.specs.Io.KnownBytes.{Appends}
use Rattle.std.specs.Prelude.{Err, None, Ok, OnErr, Option, Result, Some, cond, filter, nat_lt}
use Rattle.afdx_config.specs.Rows.{Rows}
use Rattle.afdx_input_runs.specs.Joining.{Frame}
use Rattle.afdx_input_lines.specs.Calls.{AppendsFront}
use Rattle.afdx_text.proofs.OutputLemmas.{front-more, whole_front}
use Rattle.afdx_text.specs.declared.conform_line.ConformLine.{ConformLine}
use Rattle.afdx_command_conform.specs.AllLines.{AreSomeLines}
use Rattle.afdx_command_conform.specs.Beginning.{AreDueEarly, AreDueFirst, AreEarly, AreFirstLines}
use Rattle.afdx_command_conform.specs.Choices.{Choices, latest_of, until_or}
use Rattle.afdx_command_conform.specs.Keeping.{IsSomeUpTo}
use Rattle.afdx_command_conform.specs.Lines.{AreInOrder, Due, dues_of, lines_of}
use Rattle.afdx_command_conform.specs.Telling.{lines_text}
use Rattle.afdx_command_conform.specs.Told.{GoesOn, HasTold, IsJudgedSoFar, Stands, TellsItems, told_by}
use Rattle.afdx_command_conform.specs.Written.{Begins}
use Rattle.afdx_command_conform.specs.declared.judging.JudgingRun.{JudgingRun}
use Rattle.afdx_command_conform.proofs.FullLemmas.{lines-by}
use Rattle.afdx_command_conform.proofs.TellingLemmas.{no-text, text-append}

-- ---- texts

pub text-front : (start output : Option (List ℕ)) (lines : List ConformLine) → Appends start output (lines_text lines)
    → AppendsFront start output (lines_text lines)
text-front start output lines h = whole_front start output (lines_text lines) h

pub text-more : (start mid new : Option (List ℕ)) (lines more : List ConformLine) → Appends start mid (lines_text lines)
    → AppendsFront mid new (lines_text more) → AppendsFront start new (lines_text (lines ++ more))
text-more start mid new lines more h begun =
    subst (λ (l : List ℕ). AppendsFront start new l) (sym (text-append lines more))
    (front-more start mid new (lines_text lines) (lines_text more) h begun)

-- ---- how far it may go on

pub up-to : (to : ℕ) (before : Option ℕ) → before ≡ Some to → IsSomeUpTo to before
up-to to before is = subst (λ b. IsSomeUpTo to b) (sym is) (omega arith)

-- to the end
pub goes-on : (k : Rows × Choices) (time until : ℕ) (ended : Option ℕ) (frames : List Frame) → time ≤ until
    → ((end : ℕ) → k.1.until ≡ Some end → until ≤ end) → ended ≡ None → GoesOn k false time until (Some until) ended
    frames
goes-on k time until ended frames le said none = record {
  later = le;
  running = λ e. refl;
  early = λ e. refl;
  said = λ end e is. said end is;
  ends = λ end is. absurd (let bad = sym none ∙ is in cc bad);
}

-- to the time of a frame
pub goes-past : (k : Rows × Choices) (time : ℕ) (j : JudgingRun) (dues : List Due) (frames : List Frame)
    → Stands k false time j frames dues → GoesOn k false time time (Some time) j.streams.ended frames
goes-past k time j dues frames stands = record {
  later = omega arith;
  running = λ e. refl;
  early = λ e. refl;
  said = λ end e is. stands.running end e is;
  ends = λ end is. stands.ends end is;
}

-- and once all came
pub goes-last : (k : Rows × Choices) (time : ℕ) (j : JudgingRun) (dues : List Due) (frames : List Frame)
    (end : ℕ)
    → j.streams.ended ≡ Some end → Stands k true time j frames dues → GoesOn k true time time None j.streams.ended
    frames
goes-last k time j dues frames end at stands = record {
  later = omega arith;
  running = λ e. absurd (let bad = sym e ∙ at in cc bad);
  early = λ e. absurd (cc);
  said = λ until e is. stands.running until e is;
  ends = λ until is. stands.ends until is;
}

-- ---- a beginning

-- some are told, and some of these, or some of those behind them
module _ (start old new : Option (List ℕ)) (dues : List Due)
    (told : Appends start old (lines_text (lines_of dues))) where
  pub tells-by : (more : List Due) {shown : List Due} → shown ≡ more
      → Appends old new (lines_text (map (λ (d : Due). d.line) shown))
      → Appends start new (lines_text (lines_of (told_by more dues)))
  tells-by more same h = subst (λ (l : List ConformLine). Appends start new (lines_text l)) (sym (lines-by more dues))
      (subst (λ (l : List ℕ). Appends start new l) (sym (text-append (lines_of dues) (map (λ (d : Due). d.line) more)))
      (Appends-trans start old new (lines_text (lines_of dues)) (lines_text (map (λ (d : Due). d.line) more)) told
      (subst (λ (xs : List Due). Appends old new (lines_text (map (λ (d : Due). d.line) xs))) same h)))

  pub begins-by : (more : List Due) {shown : List Due} → shown ≡ more
      → AppendsFront old new (lines_text (map (λ (d : Due). d.line) shown))
      → AppendsFront start new (lines_text (lines_of (told_by more dues)))
  begins-by more same h = subst (λ (l : List ConformLine). AppendsFront start new (lines_text l))
      (sym (lines-by more dues))
      (text-more start old new (lines_of dues) (map (λ (d : Due). d.line) more) told
      (subst (λ (xs : List Due). AppendsFront old new (lines_text (map (λ (d : Due). d.line) xs))) same h))

module _ (k : Rows × Choices) (frames : List Frame) (old new : Option (List ℕ)) (dues : List Due)
    (begun : AppendsFront old new (lines_text (lines_of dues))) where
  -- they are the first, whatever comes
  pub some-first : AreDueFirst k (latest_of frames) frames dues → Begins old new (AreSomeLines k frames)
  some-first h = record { lines = lines_of dues; are_so = inl (dues, refl, h); begun = begun }

  -- or where no more comes
  pub all-first-lines : AreFirstLines k.0 k.1 (until_or k.1.until frames) frames dues
      → Begins old new (AreSomeLines k frames)
  all-first-lines h = record {
    lines = lines_of dues;
    are_so = inr (record { dues = dues; are = refl; are_first = h });
    begun = begun;
  }

pub err-on : {V E P Q : Type 0} → (P → Q) → (r : Result V E) → OnErr r P → OnErr r Q
err-on f (Ok v) h = tt
err-on f (Err e) h = f h

-- nothing is written yet
pub tells-none : (k : Rows × Choices) (j : JudgingRun) (output : Option (List ℕ)) → IsJudgedSoFar k j [] []
    → TellsItems k j output output []
tells-none k j output h =
    ([], h, subst (λ (l : List ℕ). Appends output output l) (sym no-text) (Appends-nil output))

-- of an empty list of what is due
pub none-due-yet : (k : Rows × Choices) (time : ℕ) (j : JudgingRun) (frames : List Frame) (dues : List Due)
    {due : List Due} → due ≡ [] → HasTold k false time j frames dues → HasTold k false time j frames (told_by due dues)
none-due-yet k time j frames dues none h = subst (λ (xs : List Due). HasTold k false time j frames (told_by xs dues))
    (sym none) h

-- ---- nothing is told

none-before : (xs : List Due) → [] ≡ filter (λ d. nat_lt d.moment 0) xs
none-before [] = refl
none-before (d ∷ xs) = none-before xs
    ∙ sym (ap (λ b. cond b (d ∷ filter (λ e. nat_lt e.moment 0) xs) (filter (λ e. nat_lt e.moment 0) xs))
    (le-ltb d.moment 0 (omega arith)))

nothing-in-order : AreInOrder []
unfolding AreInOrder
nothing-in-order = tt

pub nothing-due : (k : Rows × Choices) → AreDueEarly k 0 [] []
nothing-due k until more may late = record {
  own = λ key small. none-before (dues_of k.0 k.1 until (more ++ []) key);
  only = λ key large. refl;
  in_order = nothing-in-order;
}

pub nothing-early : (k : Rows × Choices) → AreEarly k 0 [] []
nothing-early k = ([], refl, nothing-due k)
