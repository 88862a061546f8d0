-- What a run over what systems sent has told.
use Rattle.std.proofs.Common.{Bor, ◌≡◌, ℕ, ◌≤◌, ◌+◌, Bool, true, false, List, [], ◌∷◌, ◌++◌, inr, refl, sym, ap, ◌∙◌, subst, arith}
use Rattle.std.proofs.KnownBytes.{Appends-nil, Appends-trans}
use Rattle.std.proofs.lemmas.List.{append-nil, append_assoc}
use Rattle.std.proofs.lemmas.List.Elements.{All-append, All-cons, All-nil}
use Rattle.std.specs.Io.KnownBytes.{Appends}
use Rattle.std.specs.List.{All}
use Rattle.std.specs.Prelude.{Err, Ok, OnErr, OnOk, Option, Result, Some, None, ◌&&◌, cond, filter, map, min, not}
use Rattle.afdx_config.specs.Rows.{Rows}
use Rattle.afdx_input_lines.specs.Calls.{AppendsFront}
use Rattle.afdx_input_runs.specs.Joining.{Frame}
use Rattle.afdx_police.specs.Arrival.{Arrival}
use Rattle.afdx_senders.proofs.BegunLemmas.{has_begun}
use Rattle.afdx_senders.specs.History.{HaveTold, IsNoSooner}
use Rattle.afdx_senders.specs.Lines.{Line}
use Rattle.afdx_senders.proofs.EarlyLemmas.{told_early}
use Rattle.afdx_senders.specs.Setups.{Setup, ending}
use Rattle.afdx_senders.specs.Settling.{IsEnd}
use Rattle.afdx_senders.specs.Telling.{AreToldBefore, AreToldEarly, AreToldFirst, ComeFrom, HaveBegun, IsEndSince}
use Rattle.afdx_senders.specs.declared.senders.Senders.{Senders}
use Rattle.afdx_text.proofs.OutputLemmas.{front-more, whole_front}
use Rattle.afdx_text.specs.declared.conform_line.ConformLine.{ConformLine}
use Rattle.afdx_command_conform.proofs.TellingLemmas.{findings-append, no-findings, no-text, text-append}
use Rattle.afdx_command_conform.specs.Choices.{is_in_time, is_left_out, latest_of, until_or}
use Rattle.afdx_command_conform.specs.Written.{Begins}
use Rattle.afdx_command_conform.specs.Tapped.{is_of_came}
use Rattle.afdx_command_conform.specs.Telling.{findings_in, lines_text, most_counted, one_if}
use Rattle.afdx_command_senders.specs.Asked.{Asked, asked_of, came_in, counts, is_missed, left_out_of}
use Rattle.afdx_command_senders.specs.SenderLines.{AreFirstLines, RunRules, end_by, end_of}
use Rattle.afdx_command_senders.specs.SenderRun.{HasBegunUpTo, HasToldUpTo, IsSameButTold, IsNewRun, MayTellUpTo, TellsMore, TellsSoFar, TellsToEnd, WorksBy, told_text}
use Rattle.afdx_command_senders.specs.SenderTexts.{lines_of, told_lines}
use Rattle.afdx_command_senders.specs.declared.asked.SenderChoices.{SenderChoices}
use Rattle.afdx_command_senders.specs.declared.judging.SendersRun.{SendersRun}

-- ---- lines

pub no-lines : told_lines [] ≡ []
unfolding told_lines
no-lines = refl

pub one-more : (x : Line) (past : List Line) → told_lines (x ∷ past) ≡ told_lines past ++ lines_of x
unfolding told_lines
one-more x past = refl

pub told-append : (more past : List Line) → told_lines (more ++ past) ≡ told_lines past ++ told_lines more
told-append [] past =
    sym (append-nil (told_lines past)) ∙ ap (λ (l : List ConformLine). told_lines past ++ l) (sym no-lines)
told-append (x ∷ more) past =
    one-more x (more ++ past) ∙ ap (λ (l : List ConformLine). l ++ lines_of x) (told-append more past)
    ∙ append_assoc (told_lines past) (told_lines more) (lines_of x)
    ∙ ap (λ (l : List ConformLine). told_lines past ++ l) (sym (one-more x more))

pub text-none : (o : Option (List ℕ)) → Appends o o (told_text [])
text-none o =
    subst (λ (l : List ConformLine). Appends o o (lines_text l)) (sym no-lines)
    (subst (λ (l : List ℕ). Appends o o l) (sym no-text) (Appends-nil o))

pub text-two : (a b c : Option (List ℕ)) (xs ys : List ConformLine) → Appends a b (lines_text xs)
    → Appends b c (lines_text ys) → Appends a c (lines_text (xs ++ ys))
text-two a b c xs ys p q =
    subst (λ (l : List ℕ). Appends a c l) (sym (text-append xs ys))
    (Appends-trans a b c (lines_text xs) (lines_text ys) p q)

pub front-two : (a b c : Option (List ℕ)) (xs ys : List ConformLine) → Appends a b (lines_text xs)
    → AppendsFront b c (lines_text ys) → AppendsFront a c (lines_text (xs ++ ys))
front-two a b c xs ys p q =
    subst (λ (l : List ℕ). AppendsFront a c l) (sym (text-append xs ys))
    (front-more a b c (lines_text xs) (lines_text ys) p q)

-- what was told before, and what is told now
pub text-told : (a b c : Option (List ℕ)) (more told : List Line) → Appends a b (told_text told)
    → Appends b c (told_text more) → Appends a c (told_text (more ++ told))
text-told a b c more told p q =
    subst (λ (l : List ConformLine). Appends a c (lines_text l)) (sym (told-append more told))
    (text-two a b c (told_lines told) (told_lines more) p q)

pub front-told : (a b c : Option (List ℕ)) (more told : List Line) → Appends a b (told_text told)
    → AppendsFront b c (told_text more) → AppendsFront a c (told_text (more ++ told))
front-told a b c more told p q =
    subst (λ (l : List ConformLine). AppendsFront a c (lines_text l)) (sym (told-append more told))
    (front-two a b c (told_lines told) (told_lines more) p q)

pub text-front : (a b : Option (List ℕ)) (told : List Line) → Appends a b (told_text told)
    → AppendsFront a b (told_text told)
text-front a b told p = whole_front a b (told_text told) p

pub found-told : (more told : List Line)
    → findings_in (told_lines (more ++ told)) ≡ findings_in (told_lines told) + findings_in (told_lines more)
found-told more told =
    ap (λ (l : List ConformLine). findings_in l) (told-append more told)
    ∙ findings-append (told_lines told) (told_lines more)

-- ---- what a call tells

module _ (a b c : Option (List ℕ)) (old mid new : SendersRun) (x : Line) (more : List Line) where
  -- one line more
  pub tells-one : TellsMore old mid a b more → Appends b c (lines_text (lines_of x))
      → new.findings ≡ min (mid.findings + findings_in (lines_of x)) most_counted → TellsMore old new a c (x ∷ more)
  tells-one h told counted = record {
    written =
        subst (λ (l : List ConformLine). Appends a c (lines_text l)) (sym (one-more x more))
        (text-two a b c (told_lines more) (lines_of x) h.written told);
    findings = λ n is.
        let before = h.findings n is in
        let all = ap (λ (l : List ConformLine). findings_in l) (one-more x more)
        ∙ findings-append (told_lines more) (lines_of x) in
        omega (arith, all, before, counted);
  }

  pub begins-one : Appends a b (told_text more) → AppendsFront b c (lines_text (lines_of x))
      → AppendsFront a c (told_text (x ∷ more))
  begins-one p q =
      subst (λ (l : List ConformLine). AppendsFront a c (lines_text l)) (sym (one-more x more))
      (front-two a b c (told_lines more) (lines_of x) p q)

pub tells-none : (o : Option (List ℕ)) (run : SendersRun) → TellsMore run run o o []
tells-none o run = record {
  written = text-none o;
  findings = λ n is.
      let none = ap (λ (l : List ConformLine). findings_in l) no-lines ∙ no-findings in
      omega (arith, is, none);
}

-- ---- times

pub as-soon : (o : Option ℕ) → IsNoSooner o o
as-soon None = tt
as-soon (Some time) = omega arith

-- what begins by a time begins by a later one
come-sooner : (time to : ℕ) (more : List Arrival) → time ≤ to → All (λ x. to ≤ x.time) more
    → All (λ x. time ≤ x.time) more
come-sooner time to more le h i x at = let later = h i x at in omega (arith, le, later)

pub come-none : (time : ℕ) → ComeFrom (Some time) []
come-none time = All-nil (λ x. time ≤ x.time)

pub begun-later : (z : Setup) (b before : Option ℕ) (xs : List Arrival) (told : List Line) → IsNoSooner b before
    → HaveBegun z b xs told → HaveBegun z before xs told
begun-later z None None xs told h begun = begun
begun-later z None (Some to) xs told h begun = absurd h
begun-later z (Some time) None xs told h begun =
    λ more none. begun more (subst (λ (l : List Arrival). ComeFrom (Some time) l) (sym none) (come-none time))
begun-later z (Some time) (Some to) xs told h begun = λ more from. begun more (come-sooner time to more h from)

pub told-begun : (z : Setup) (before : Option ℕ) (xs : List Arrival) (told : List Line) (senders : Senders)
    → HaveTold z before xs told senders → HaveBegun z before xs told
told-begun z before xs told senders h = has_begun z before xs told _ h.lines

-- ---- one frame more

module _ (a : Asked) (x : Frame) (frames : List Frame) where
  abbrev came-by : Bool → List Arrival
  came-by b = map (λ (y : Frame). y.arrival) (cond b (x ∷ filter (counts a) frames) (filter (counts a) frames))

  pub came-not : counts a x ≡ false → came_in a (x ∷ frames) ≡ came_in a frames
  came-not e = ap (λ (b : Bool). came-by b) e

  pub came-so : counts a x ≡ true → came_in a (x ∷ frames) ≡ x.arrival ∷ came_in a frames
  came-so e = ap (λ (b : Bool). came-by b) e

-- what came first is the first, if one more comes at that time
begun-with : (z : Setup) (time : ℕ) (x : Arrival) (xs : List Arrival) (told : List Line) → time ≤ x.time
    → HaveBegun z (Some time) xs told → HaveBegun z (Some time) (x ∷ xs) told
begun-with z time x xs told le begun = λ more from.
    subst (λ (l : List Arrival). AreToldFirst z l told) (append_assoc more (x ∷ []) xs)
    (begun (more ++ (x ∷ [])) (All-append (λ y. time ≤ y.time) more (x ∷ []) from
    (All-cons (λ y. time ≤ y.time) x [] le (All-nil (λ y. time ≤ y.time)))))

pub begun-next : (a : Asked) (z : Setup) (x : Frame) (frames : List Frame) (told : List Line)
    → HaveBegun z (Some x.arrival.time) (came_in a frames) told
    → HaveBegun z (Some x.arrival.time) (came_in a (x ∷ frames)) told
begun-next a z x frames told begun = by (counts a x) refl
  where
    by : (b : Bool) → counts a x ≡ b → HaveBegun z (Some x.arrival.time) (came_in a (x ∷ frames)) told
    by false e =
        subst (λ (l : List Arrival). HaveBegun z (Some x.arrival.time) l told) (sym (came-not a x frames e)) begun
    by true e =
        subst (λ (l : List Arrival). HaveBegun z (Some x.arrival.time) l told) (sym (came-so a x frames e))
        (begun-with z x.arrival.time x.arrival (came_in a frames) told (omega arith) begun)

-- ---- what counts of one frame more

-- it isn't of the time that counts, or its link is left out, or it left
pub out-of-time : (a : Asked) (x : Frame) → is_in_time a.run x ≡ false → counts a x ≡ false
unfolding counts
out-of-time a x e = by (is_of_came x.role)
  where
    by : (b : Bool) → (b && is_in_time a.run x && not (is_left_out a.run x)) ≡ false
    by true = ap (λ (t : Bool). t && not (is_left_out a.run x)) e
    by false = refl

pub out-of-choice : (a : Asked) (x : Frame) → is_left_out a.run x ≡ true → counts a x ≡ false
unfolding counts
out-of-choice a x e = by (is_of_came x.role) (is_in_time a.run x)
  where
    by : (b t : Bool) → (b && t && not (is_left_out a.run x)) ≡ false
    by true true = ap (λ (l : Bool). not l) e
    by true false = refl
    by false t = refl

pub out-of-role : (a : Asked) (x : Frame) → is_of_came x.role ≡ false → counts a x ≡ false
unfolding counts
out-of-role a x e = ap (λ (b : Bool). b && is_in_time a.run x && not (is_left_out a.run x)) e

pub does-count : (a : Asked) (x : Frame) → is_of_came x.role ≡ true → is_in_time a.run x ≡ true
    → is_left_out a.run x ≡ false → counts a x ≡ true
unfolding counts
does-count a x came time out =
    ap (λ (b : Bool). b && is_in_time a.run x && not (is_left_out a.run x)) came
    ∙ ap (λ (b : Bool). b && not (is_left_out a.run x)) time ∙ ap (λ (b : Bool). not b) out

-- how many are passed over
missed-by : (n m : ℕ) (is : Bool) → n ≡ m + one_if is → (old new : ℕ) → old ≡ min m most_counted
    → new ≡ min (old + one_if is) most_counted → new ≡ min n most_counted
missed-by n m is e old new before here = omega (arith, e, before, here)

left-next : (a : Asked) (x : Frame) (frames : List Frame) (is : Bool) → is_missed a x ≡ is
    → left_out_of a (x ∷ frames) ≡ left_out_of a frames + one_if is
left-next a x frames true e = rw e (omega arith)
left-next a x frames false e = rw e (omega arith)

pub missed-next : (a : Asked) (x : Frame) (frames : List Frame) (old new : ℕ) (is : Bool) → is_missed a x ≡ is
    → old ≡ min (left_out_of a frames) most_counted → new ≡ min (old + one_if is) most_counted
    → new ≡ min (left_out_of a (x ∷ frames)) most_counted
missed-next a x frames old new is e before here =
    missed-by (left_out_of a (x ∷ frames)) (left_out_of a frames) is (left-next a x frames is e) old new before here

pub missed-out : (a : Asked) (x : Frame) → is_in_time a.run x ≡ false → is_missed a x ≡ false
unfolding is_missed
missed-out a x e = rw e refl

pub missed-in : (a : Asked) (x : Frame) (is : Bool) → is_in_time a.run x ≡ true → is_left_out a.run x ≡ is
    → is_missed a x ≡ is
unfolding is_missed
missed-in a x is e f = rw e f

pub on-ok : {V E : Type 0} (r : Result V E) (P : Type 0) → P → OnOk r P
on-ok (Ok v) P p = p
on-ok (Err e) P p = tt

-- ---- ends that may come

module _ (said : Option ℕ) where
  pub since-sooner : (time to until : ℕ) → time ≤ to → IsEndSince said to until → IsEndSince said time until
  since-sooner time to until le h = by said h
    where
      by : (o : Option ℕ) → IsEndSince o to until → IsEndSince o time until
      by None later = omega (arith, le, later)
      by (Some end) same = same

  -- it is one by which all before a time may be told
  pub is-end : (time until : ℕ) → IsEndSince said time until → IsEnd said (Some time) until
  is-end time until h = by said h
    where
      by : (o : Option ℕ) → IsEndSince o time until → IsEnd o (Some time) until
      by None later = later
      by (Some end) same = same

  -- there is one
  pub some-end : (time : ℕ) → (until : ℕ) × IsEndSince said time until
  some-end time = by said
    where
      by : (o : Option ℕ) → (until : ℕ) × IsEndSince o time until
      by None = (time, omega arith)
      by (Some end) = (end, refl)

-- ---- what is told stays told

module _ (a : Asked) (z : Setup) (said : Option ℕ) (x : Frame) (frames : List Frame) (told : List Line)
    (before : (until : ℕ) → IsEndSince said x.arrival.time until
    → AreToldBefore (ending until z) (Some x.arrival.time) (came_in a frames) told) where
  -- if one more comes at that time
  with-one : AreToldEarly z said x.arrival.time (x.arrival ∷ came_in a frames) told
  with-one until more ends from =
      subst (λ (l : List Arrival). AreToldBefore (ending until z) (Some x.arrival.time) l told)
      (append_assoc more (x.arrival ∷ []) (came_in a frames))
      (told_early z said x.arrival.time (came_in a frames) told before until (more ++ (x.arrival ∷ [])) ends
      (All-append (λ y. x.arrival.time ≤ y.time) more (x.arrival ∷ []) from
      (All-cons (λ y. x.arrival.time ≤ y.time) x.arrival [] (omega arith) (All-nil (λ y. x.arrival.time ≤ y.time)))))

  pub early-next : AreToldEarly z said x.arrival.time (came_in a (x ∷ frames)) told
  early-next = by (counts a x) refl
    where
      by : (b : Bool) → counts a x ≡ b → AreToldEarly z said x.arrival.time (came_in a (x ∷ frames)) told
      by false e =
          subst (λ (l : List Arrival). AreToldEarly z said x.arrival.time l told) (sym (came-not a x frames e))
          (told_early z said x.arrival.time (came_in a frames) told before)
      by true e =
          subst (λ (l : List Arrival). AreToldEarly z said x.arrival.time l told) (sym (came-so a x frames e)) with-one

-- ---- once no more frames come

module _ (k : RunRules) (old : SendersRun) (frames : List Frame) (end : ℕ)
    (is : end ≡ end_by old.asked.choices.now.until old.latest) (works : WorksBy k frames old) where
  -- that is their end
  pub ends-so : end ≡ end_of k frames
  ends-so =
      is ∙ ap (λ (o : Option ℕ). end_by o old.latest) (ap (λ (b : Asked). b.run.until) works.asked)
      ∙ ap (λ (n : ℕ). end_by k.1.run.until n) works.latest ∙ by k.1.run.until
    where
      by : (o : Option ℕ) → end_by o (latest_of frames) ≡ until_or o frames
      by None = refl
      by (Some until) = refl

  pub ends-since : IsEndSince k.1.run.until (latest_of frames) end
  ends-since = subst (λ (n : ℕ). IsEndSince k.1.run.until (latest_of frames) n) (sym ends-so) (by k.1.run.until)
    where
      by : (o : Option ℕ) → IsEndSince o (latest_of frames) (until_or o frames)
      by None = omega arith
      by (Some until) = refl

module _ (k : RunRules) (old : SendersRun) (start mid : Option (List ℕ)) (frames : List Frame) (end : ℕ)
    (is : end ≡ end_by old.asked.choices.now.until old.latest) (h : TellsSoFar k old start mid frames) where
  so-ends : end ≡ end_of k frames
  so-ends = ends-so k old frames end is h.works

  since-ends : IsEndSince k.1.run.until (latest_of frames) end
  since-ends = ends-since k old frames end is h.works

  pub may-end : MayTellUpTo None (Some end) old.senders
  may-end = (
    ending end k.0,
    Some (latest_of frames),
    came_in k.1 frames,
    h.told,
    h.have end since-ends,
    tt,
    refl,
  )

  pub ends-told : {V E : Type 0} (r : Result V E) (new : SendersRun) (last : Option (List ℕ)) → IsSameButTold old new
      → OnOk r (HasToldUpTo None (Some end) old new mid last) → OnOk r (TellsToEnd k new start last frames)
  ends-told (Err e) new last others told = tt
  ends-told (Ok v) new last others told =
      let all : HaveTold (ending end k.0) None (came_in k.1 frames) (told.more ++ h.told) new.senders
      × AreToldBefore (ending end k.0) None (came_in k.1 frames) (told.more ++ h.told) =
      told.up_to (ending end k.0) (Some (latest_of frames)) (came_in k.1 frames) h.told (h.have end since-ends) tt refl
      in record {
        told = told.more ++ h.told;
        works = record {
          tables = ap (λ (t : Bor Rows). t.now) others.tables ∙ h.works.tables;
          asked = ap (λ (s : SenderChoices). asked_of k.0.tables k.1.taps s) others.asked ∙ h.works.asked;
          left_out = others.left_out ∙ h.works.left_out;
          latest = others.latest ∙ h.works.latest;
          few = h.works.few;
        };
        writes = record {
          written = text-told start mid last told.more h.told h.writes.written told.tells.written;
          findings = told.tells.findings (findings_in (told_lines h.told)) h.writes.findings
              ∙ ap (λ (n : ℕ). min n most_counted) (sym (found-told told.more h.told));
        };
        have = subst (λ (n : ℕ). HaveTold (ending n k.0) None (came_in k.1 frames) (told.more ++ h.told) new.senders)
            so-ends all.0;
        all = subst (λ (n : ℕ). AreToldBefore (ending n k.0) None (came_in k.1 frames) (told.more ++ h.told)) so-ends
            all.1;
      }

  pub ends-begun : {V E : Type 0} (r : Result V E) (last : Option (List ℕ))
      → OnErr r (HasBegunUpTo None (Some end) old mid last)
      → OnErr r (Begins start last (AreFirstLines k frames))
  ends-begun (Ok v) last begun = tt
  ends-begun (Err e) last begun = record {
    lines = told_lines (begun.more ++ h.told);
    are_so = record {
      told = begun.more ++ h.told;
      are = refl;
      are_first = inr (subst (λ (n : ℕ). HaveBegun (ending n k.0) None (came_in k.1 frames) (begun.more ++ h.told))
          so-ends
          (begun.up_to (ending end k.0) (Some (latest_of frames)) (came_in k.1 frames) h.told (h.have end since-ends) tt
          refl));
    };
    begun = front-told start mid last begun.more h.told h.writes.written begun.begun;
  }

-- ---- at first

pub new-tells : (k : RunRules) (run : SendersRun) (output : Option (List ℕ)) → IsNewRun k run
    → TellsSoFar k run output output []
new-tells k run output h = record {
  told = [];
  works = h.works;
  writes = record {
    written = text-none output;
    findings =
        let none = ap (λ (l : List ConformLine). findings_in l) no-lines ∙ no-findings in
        let some = h.findings in
        omega (arith, none, some);
  };
  have = h.have;
  early = h.early;
}
