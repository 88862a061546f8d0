-- What a run has told, step by step.
use Rattle.std.proofs.Common.{Bor, ◌≡◌, ◌+◌, ◌++◌, ◌∷◌, ◌∙◌, [], ℕ, Bool, List, ap, ap₂, arith, min, refl, subst, sym}
use Rattle.std.proofs.Common.{true, false}
use Rattle.std.specs.Prelude.{Err, Ok, OnOk, Result}
use Rattle.afdx_config.specs.Rows.{Rows}
use Rattle.afdx_input_runs.specs.Joining.{Frame}
use Rattle.afdx_text.specs.declared.conform_line.ConformLine.{ConformLine}
use Rattle.afdx_command_conform.proofs.TellingLemmas.{findings-append, no-findings}
use Rattle.afdx_command_conform.specs.Sight.{sight_in}
use Rattle.afdx_command_conform.specs.Choices.{Choices, is_in_time, is_missed, is_passed, left_out_of}
use Rattle.afdx_command_conform.specs.ChoicesOf.{choices_of}
use Rattle.afdx_command_conform.specs.Judging.{IsSameButTaken}
use Rattle.afdx_command_conform.specs.Lines.{Due, lines_of}
use Rattle.afdx_command_conform.specs.Telling.{findings_in, most_counted, one_if}
use Rattle.afdx_command_conform.specs.Standing.{IsSameButKept, seen_by}
use Rattle.afdx_command_conform.specs.Told.{WorksBy, choices_in}
use Rattle.afdx_command_conform.specs.declared.judging.JudgingRun.{JudgingRun}
use Rattle.afdx_input_sources.specs.declared.taps.Taps.{Taps}
use Rattle.afdx_command_conform.specs.declared.streams.Streams.{Streams}

-- as these streams were, which are these
pub told-rules : {a b c : Streams} → c ≡ b → IsSameButKept a b → IsSameButKept a c
told-rules same rules = record {
  tables = ap (λ (s : Streams). s.tables) same ∙ rules.tables;
  taps = ap (λ (s : Streams). s.taps) same ∙ rules.taps;
}

module _ (r : Rows × Choices) (frames : List Frame) (j k : JudgingRun) where
  chosen-same : k.streams.tables ≡ j.streams.tables → k.streams.taps ≡ j.streams.taps → k.choices ≡ j.choices
      → choices_in j ≡ r.1
      → choices_in k ≡ r.1
  chosen-same tables taps choices is =
      ap₂ (λ (t : Bor Rows) (p : Bor Taps). choices_of (sight_in t.now p.now) k.choices.now) tables taps
      ∙ ap (λ b. choices_of (seen_by j.streams) b.now) choices ∙ is

  -- what else changes doesn't matter
  pub works-same : (dues : List Due) → IsSameButKept j.streams k.streams
      → k.choices ≡ j.choices
      → k.findings ≡ j.findings → k.left_out ≡ j.left_out → k.latest ≡ j.latest
      → WorksBy r frames j dues → WorksBy r frames k dues
  works-same dues rules choices findings left_out latest h = record {
    tables_are = ap (λ (b : Bor Rows). b.now) rules.tables ∙ h.tables_are;
    choices_are = chosen-same rules.tables rules.taps choices h.choices_are;
    findings_are = findings ∙ h.findings_are;
    left_out_are = left_out ∙ h.left_out_are;
    latest_is = latest ∙ h.latest_is;
  }

  -- more lines are told
  pub works-more : (old new : List Due) (more : List ConformLine) → IsSameButKept j.streams k.streams
      → k.choices ≡ j.choices
      → k.left_out ≡ j.left_out → k.latest ≡ j.latest
      → k.findings ≡ min (j.findings + findings_in more) most_counted
      → lines_of new ≡ lines_of old ++ more
      → WorksBy r frames j old → WorksBy r frames k new
  works-more old new more rules choices left_out latest counted told h = record {
    tables_are = ap (λ (b : Bor Rows). b.now) rules.tables ∙ h.tables_are;
    choices_are = chosen-same rules.tables rules.taps choices h.choices_are;
    findings_are =
        let all = ap findings_in told ∙ findings-append (lines_of old) more in
        let before = h.findings_are in
        omega (arith, all, before, counted);
    left_out_are = left_out ∙ h.left_out_are;
    latest_is = latest ∙ h.latest_is;
  }

-- ---- what is left out

left-out-by : (n m : ℕ) (is : Bool) → n ≡ m + one_if is → (old new : ℕ) → old ≡ min m most_counted
    → new ≡ min (old + one_if is) most_counted → new ≡ min n most_counted
left-out-by n m is e old new before here = omega (arith, e, before, here)

left-out-next : (t : Rows) (c : Choices) (x : Frame) (frames : List Frame) (is : Bool) → is_missed t c x ≡ is
    → left_out_of t c (x ∷ frames) ≡ left_out_of t c frames + one_if is
left-out-next t c x frames true e = rw e (omega arith)
left-out-next t c x frames false e = rw e (omega arith)

pub missed-next : (t : Rows) (c : Choices) (x : Frame) (frames : List Frame) (old new : ℕ) (is : Bool)
    → is_missed t c x ≡ is
    → old ≡ min (left_out_of t c frames) most_counted → new ≡ min (old + one_if is) most_counted
    → new ≡ min (left_out_of t c (x ∷ frames)) most_counted
missed-next t c x frames old new is e before here =
    left-out-by (left_out_of t c (x ∷ frames)) (left_out_of t c frames) is (left-out-next t c x frames is e) old new
    before here

pub on-ok : {V E : Type 0} (r : Result V E) (P : Type 0) → P → OnOk r P
on-ok (Ok v) P p = p
on-ok (Err e) P p = tt

-- by its time, and then by its link
pub missed-out : (t : Rows) (c : Choices) (x : Frame) → is_in_time c x ≡ false → is_missed t c x ≡ false
unfolding is_missed
missed-out t c x e = rw e refl

pub missed-in : (t : Rows) (c : Choices) (x : Frame) (is : Bool) → is_in_time c x ≡ true → is_passed t c x ≡ is
    → is_missed t c x ≡ is
unfolding is_missed
missed-in t c x is e f = rw e f

-- one more frame is taken: `l` is what then works, at its time
pub works-next : (r : Rows × Choices) (frames : List Frame) (j k l : JudgingRun) (dues : List Due) (x : Frame)
    → IsSameButTaken j k
    → l.streams ≡ k.streams
    → l.choices ≡ k.choices → l.findings ≡ k.findings → l.left_out ≡ k.left_out → l.latest ≡ x.arrival.time
    → (j.left_out ≡ min (left_out_of j.streams.tables.now (choices_in j)
    frames) most_counted
    → k.left_out ≡ min (left_out_of j.streams.tables.now (choices_in j)
    (x ∷ frames)) most_counted)
    → WorksBy r frames j dues → WorksBy r (x ∷ frames) l dues
works-next r frames j k l dues x others streams choices findings left_out latest counted h =
    let by-r = subst (λ (o : Choices). j.left_out ≡ min (left_out_of r.0 o frames) most_counted
    → k.left_out ≡ min (left_out_of r.0 o (x ∷ frames)) most_counted) h.choices_are
    (subst (λ (t : Rows). j.left_out ≡ min (left_out_of t (choices_in j)
    frames) most_counted
    → k.left_out ≡ min (left_out_of t (choices_in j)
    (x ∷ frames)) most_counted) h.tables_are counted) in
    record {
      tables_are = ap (λ (s : Streams). s.tables.now) streams ∙ ap (λ (b : Bor Rows). b.now) others.rules.tables
          ∙ h.tables_are;
      choices_are = chosen-same r frames j l (ap (λ (s : Streams). s.tables) streams ∙ others.rules.tables)
          (ap (λ (s : Streams). s.taps) streams ∙ others.rules.taps) (choices
          ∙ others.choices)
          h.choices_are;
      findings_are = findings ∙ others.findings ∙ h.findings_are;
      left_out_are = left_out ∙ by-r h.left_out_are;
      latest_is = latest;
    }

-- nothing is told
pub works-none : (r : Rows × Choices) (judging : JudgingRun) → judging.streams.tables.now ≡ r.0
    → choices_in judging ≡ r.1
    → judging.findings ≡ 0 → judging.left_out ≡ 0 → judging.latest ≡ 0 → WorksBy r [] judging []
works-none r judging tables choices none some at = record {
  tables_are = tables;
  choices_are = choices;
  findings_are = none ∙ subst (λ (n : ℕ). 0 ≡ min n most_counted) (sym no-findings) refl;
  left_out_are = some;
  latest_is = at;
}
