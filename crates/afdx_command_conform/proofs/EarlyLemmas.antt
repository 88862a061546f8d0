-- What a run has told so far comes first, whatever comes later.
use Rattle.std.proofs.Common.{◌≡◌, ℕ, ◌≤◌, true, false, List, [], ◌∷◌, ◌++◌, refl, sym, ap, ◌∙◌, subst, arith, true≢false}
use Rattle.std.proofs.lemmas.Bool.{ltb-false}
use Rattle.std.proofs.lemmas.List.{append_assoc}
use Rattle.std.specs.Prelude.{Option, Some, None}
use Rattle.afdx_config.specs.Rows.{Rows}
use Rattle.afdx_conform.proofs.EveryLemmas.{every-append, every-on}
use Rattle.afdx_input_runs.specs.Joining.{Frame}
use Rattle.afdx_command_conform.specs.Awaited.{awaited, is_before}
use Rattle.afdx_command_conform.specs.Beginning.{AreDueEarly, AreDueFirst, AreFirstLines, AreLinesBefore, ComeFrom, IsEndFrom, WhateverComes}
use Rattle.afdx_command_conform.specs.Choices.{Choices, latest_of, until_or}
use Rattle.afdx_command_conform.specs.Counting.{AreEnded}
use Rattle.afdx_command_conform.specs.Keeping.{AreKept, IsNothingDue, given_of, is_known, slot_at}
use Rattle.afdx_command_conform.specs.Lines.{AreLines, Due, dues_of, last_rank, of_key}
use Rattle.afdx_command_conform.specs.Told.{IsEnding, MayEnd, Stands, StandsIf}
use Rattle.afdx_command_conform.specs.Waiting.{slot_due}
use Rattle.afdx_command_conform.specs.declared.judging.JudgingRun.{JudgingRun}
use Rattle.afdx_command_conform.specs.declared.key.Key.{Key}
use Rattle.afdx_command_conform.proofs.AddedLemmas.{to-ended}
use Rattle.afdx_command_conform.proofs.BehindLemmas.{IsBehind}
use Rattle.afdx_command_conform.proofs.FirstLemmas.{IsRanked, first-lines, known-behind, lines-before, none-counts, only-lines, ranked-up, running-behind}
use Rattle.afdx_command_conform.proofs.KeyLemmas.{known-stream}

-- ---- one more frame, or a later time

module _ (so : (until : ℕ) → List Frame → List Due → Type 0) (k : Rows × Choices) where
  end-later : (said : Option ℕ) (time to end : ℕ) → time ≤ to → IsEndFrom said to end → IsEndFrom said time end
  end-later None time to end le h = omega (arith, h, le)
  end-later (Some until) time to end le h = h

  pub comes-later : (time to : ℕ) (frames : List Frame) (dues : List Due) → time ≤ to
      → WhateverComes so k time frames dues
      → WhateverComes so k to frames dues
  comes-later time to frames dues le h until more may late =
      h until more (end-later k.1.until time to until le may)
      (every-on (λ x. to ≤ x.arrival.time) (λ x. time ≤ x.arrival.time) (λ x l. omega (arith, le, l)) more late)

  pub comes-next : (time : ℕ) (x : Frame) (frames : List Frame) (dues : List Due) → time ≤ x.arrival.time
      → WhateverComes so k time frames dues → WhateverComes so k time (x ∷ frames) dues
  comes-next time x frames dues le h until more may late =
      let all = h until (more ++ x ∷ []) may (every-append (λ y. time ≤ y.arrival.time) more (x ∷ []) late (le, tt)) in
      subst (λ l. so until l dues) (append_assoc more (x ∷ []) frames) all

-- ---- while frames come

may-end : (said : Option ℕ) (frames : List Frame) (ended : Option ℕ) (time until : ℕ) → latest_of frames ≤ time
    → ((end : ℕ) → ended ≡ Some end → IsEnding false said frames time end) → IsEndFrom said time until
    → MayEnd said frames ended until
may-end None frames None time until latest ends may = omega (arith, latest, may)
may-end (Some u) frames None time until latest ends may = may
may-end said frames (Some end) time until latest ends may =
    let is = ends end refl in subst (λ o. IsEndFrom o time until) is.0 may

end-from : (said : Option ℕ) (time until : ℕ) → ((end : ℕ) → said ≡ Some end → time ≤ end) → IsEndFrom said time until
    → time ≤ until
end-from None time until running may = may
end-from (Some u) time until running may = let le = running u refl in omega (arith, le, may)

module _ (k : Rows × Choices) (frames : List Frame) (time : ℕ) (j : JudgingRun) (dues : List Due)
    (latest : latest_of frames ≤ time) (stands : Stands k false time j frames dues) where
  module _ (until : ℕ) (more : List Frame) (may : IsEndFrom k.1.until time until) (late : ComeFrom time more) where
    held : StandsIf k.0 k.1 false until frames dues time j.streams
    held = stands.all until (may-end k.1.until frames j.streams.ended time until latest (λ end is. stands.ends end is)
        may)

    behind : (key : Key) → is_known k.0 key ≡ true → (Q : ℕ → Type 0) → ((a b : ℕ) → a ≤ b → Q a → Q b)
        → (j.streams.ended ≡ None → Q time)
        → ((m : ℕ) → slot_due (slot_at j.streams.kept.slots.items key) ≡ Some m → Q m)
        → IsBehind key Q (of_key key dues) (dues_of k.0 k.1 until (more ++ frames) key)
    behind key known Q up here due = by j.streams.ended refl
      where
        by : (o : Option ℕ) → j.streams.ended ≡ o
            → IsBehind key Q (of_key key dues) (dues_of k.0 k.1 until (more ++ frames) key)
        by None none =
            running-behind k.0 k.1 until time more frames dues j.streams.kept key known Q up due late
            (end-from k.1.until time until (λ end said. stands.running end none said) may) (here none)
            (subst (λ o. AreKept k.0 k.1 until o time (given_of k.0 k.1 frames) dues j.streams.kept) none
            held.streams.kept)
        by (Some end) is =
            let ends = stands.ends end is in
            let same : until ≡ end = subst (λ o. IsEndFrom o time until) ends.0 may in
            known-behind k.0 k.1 until time more frames dues j.streams.kept key known Q up due
            (none-counts k.0 k.1 time more late end ends.0 ends.1)
            (subst (λ o. AreKept k.0 k.1 until o time (given_of k.0 k.1 frames) dues j.streams.kept)
            (is ∙ ap (λ n. Some n) (sym same)) held.streams.kept)

    are-first : AreFirstLines k.0 k.1 until (more ++ frames) dues
    are-first = first-lines k.0 k.1 until time j.streams.ended frames (more ++ frames) dues held.streams.lawful
        j.streams.kept
        held.streams.kept
        (λ key known. behind key known (IsRanked (last_rank dues) key) (ranked-up (last_rank dues) key)
        (λ none. (let e = held.streams.kept.early none in omega (arith, e)))
        (λ m is. held.streams.kept.behind key m known is))

    not-before : (key : Key) (m : ℕ) → is_before (Some time) (awaited m key) ≡ false → time ≤ m
    not-before key m e = ltb-false m time e

    are-early : IsNothingDue k.0 (Some time) j.streams.kept
        → AreLinesBefore k.0 k.1 until (more ++ frames) time dues
    are-early nothing =
        lines-before k.0 k.1 until time j.streams.ended frames (more ++ frames) dues held.streams.lawful
        j.streams.kept
        held.streams.kept time (held.early refl)
        (λ key known. behind key known (λ m. time ≤ m) (λ a b le h. omega (arith, le, h)) (λ none. omega arith)
        (λ m is. not-before key m (nothing key m known is)))

  -- all that is told is the first of all lines
  pub stands-begun : AreDueFirst k time frames dues
  stands-begun until more may late = are-first until more may late

  -- where nothing is due before then, it is all lines of earlier moments
  pub stands-early : IsNothingDue k.0 (Some time) j.streams.kept → AreDueEarly k time frames dues
  stands-early nothing until more may late = are-early until more may late nothing

-- ---- once all came

module _ (k : Rows × Choices) (frames : List Frame) (time : ℕ) (j : JudgingRun) (dues : List Due) (end : ℕ)
    (is : j.streams.ended ≡ Some end) (stands : Stands k true time j frames dues) where
  whole : StandsIf k.0 k.1 true end frames dues time j.streams
  whole = stands.all end (subst (λ e. MayEnd k.1.until frames e end) (sym is) refl)

  at-end : end ≡ until_or k.1.until frames
  at-end = stands.ends end is

  ended-kept : AreKept k.0 k.1 end (Some end) time (given_of k.0 k.1 frames) dues j.streams.kept
  ended-kept = subst (λ o. AreKept k.0 k.1 end o time (given_of k.0 k.1 frames) dues j.streams.kept) is
      whole.streams.kept

  pub last-first : AreFirstLines k.0 k.1 (until_or k.1.until frames) frames dues
  last-first =
      subst (λ n. AreFirstLines k.0 k.1 n frames dues) at-end
      (first-lines k.0 k.1 end time (Some end) frames frames dues whole.streams.lawful j.streams.kept ended-kept
      (λ key known. known-behind k.0 k.1 end time [] frames dues j.streams.kept key known
      (IsRanked (last_rank dues) key) (ranked-up (last_rank dues) key)
      (λ m due. ended-kept.behind key m known due) refl ended-kept))

  pub last-all : IsNothingDue k.0 None j.streams.kept
      → AreLines k.0 k.1 (until_or k.1.until frames) frames dues
  last-all nothing =
      subst (λ n. AreLines k.0 k.1 n frames dues) at-end
      (only-lines k.0 k.1 end time (Some end) frames frames dues whole.streams.lawful j.streams.kept ended-kept
      (λ key known. known-behind k.0 k.1 end time [] frames dues j.streams.kept key known
      (λ m. ⊥) (λ a b le no. no) (λ m due. true≢false (nothing key m known due)) refl ended-kept))

  none-due : IsNothingDue k.0 None j.streams.kept → (key : Key) → is_known k.0 key ≡ true
      → slot_due (slot_at j.streams.kept.slots.items key) ≡ None
  none-due nothing key known = by (slot_due (slot_at j.streams.kept.slots.items key)) refl
    where
      by : (o : Option ℕ) → slot_due (slot_at j.streams.kept.slots.items key) ≡ o → o ≡ None
      by None e = refl
      by (Some m) e = absurd (true≢false (nothing key m known e))

  -- and each stream is judged as a whole
  pub last-ended : IsNothingDue k.0 None j.streams.kept
      → AreEnded k.0 k.1 (until_or k.1.until frames) frames j.streams.kept
  last-ended nothing = subst (λ n. AreEnded k.0 k.1 n frames j.streams.kept) at-end (λ key l of. (
    none-due nothing key (known-stream k.0 key l of),
    of_key key dues,
    (to-ended k.0 k.1 end time key l (given_of k.0 k.1 frames key) (of_key key dues)
        (slot_at j.streams.kept.slots.items key) end of (ended-kept.stand key (known-stream k.0 key l of))).1,
  ))
