-- What a run over a switch and the systems that send to it has told, one frame more, and at its end.
use Rattle.std.proofs.Common.{◌≡◌, ℕ, ◌+◌, ◌≤◌, List, [], ◌∷◌, ◌++◌, inl, inr, map, reverse, refl, sym, ap, ◌∙◌, subst, arith, false, true}
use Rattle.std.proofs.KnownBytes.{Appends-nil}
use Rattle.std.specs.Io.KnownBytes.{Appends}
use Rattle.std.specs.Prelude.{Err, Ok, OnOk, Option, Result, Some, None, min}
use Rattle.afdx_config.specs.Rows.{Rows}
use Rattle.afdx_input_lines.specs.Calls.{AppendsFront}
use Rattle.afdx_input_runs.specs.Joining.{Frame}
use Rattle.afdx_senders.specs.History.{HaveTold}
use Rattle.afdx_senders.specs.Lines.{Line, line_of}
use Rattle.afdx_senders.specs.Settling.{IsEnd}
use Rattle.afdx_senders.specs.Setups.{ending}
use Rattle.afdx_senders.specs.Telling.{AreToldBefore, AreToldEarly, IsEndSince}
use Rattle.afdx_senders.specs.declared.sender_line.SenderLine.{SenderLine}
use Rattle.afdx_senders.specs.declared.senders.Senders.{Senders}
use Rattle.afdx_text.proofs.OutputLemmas.{whole_front}
use Rattle.afdx_text.specs.declared.conform_line.ConformLine.{ConformLine}
use Rattle.afdx_command_conform.proofs.BegunLemmas.{nothing-due}
use Rattle.afdx_command_conform.proofs.EarlyLemmas.{comes-next, stands-early}
use Rattle.afdx_command_conform.proofs.EndLemmas.{all-lines}
use Rattle.afdx_command_conform.proofs.OneAnswerLemmas.{ranged}
use Rattle.afdx_command_conform.proofs.TellingLemmas.{no-findings, no-text}
use Rattle.afdx_command_conform.specs.Beginning.{AreDueEarly, AreLinesBefore}
use Rattle.afdx_command_conform.specs.Choices.{latest_of, until_or}
use Rattle.afdx_command_conform.specs.Counting.{totals_and, totals_of}
use Rattle.afdx_command_conform.specs.Keeping.{IsNothingDue}
use Rattle.afdx_command_conform.specs.Lines as due
use Rattle.afdx_command_conform.specs.Lines.{AreLines}
use Rattle.afdx_command_conform.specs.Lines.{Due}
use Rattle.afdx_command_conform.specs.Telling.{findings_in, lines_text, most_counted}
use Rattle.afdx_command_conform.specs.Told.{HasTold, IsJudgedSoFar, IsJudgedToEnd, told_by}
use Rattle.afdx_command_conform.specs.Written.{Begins}
use Rattle.afdx_command_conform.specs.declared.judging.JudgingRun.{JudgingRun}
use Rattle.afdx_command_senders.specs.Asked.{Asked, came_in}
use Rattle.afdx_command_senders.specs.BothLines.{AreBothEarly, AreBothSome, both_concluded, both_totals, switch_rules}
use Rattle.afdx_command_senders.specs.BothRun.{AreWritten, BothTellSoFar}
use Rattle.afdx_command_senders.specs.BothTold.{AreInOrder, AreJoined, Told, both_lines, senders_of, switch_of}
use Rattle.afdx_command_senders.specs.Merging.{lines_up, merged}
use Rattle.afdx_command_senders.specs.SenderLines.{RunRules, end_by, whole_setup}
use Rattle.afdx_command_senders.specs.SenderRun.{IsNewRun, MayTellUpTo, TellsUpTo, told_in}
use Rattle.afdx_command_senders.specs.SenderTexts.{told_lines}
use Rattle.afdx_command_senders.specs.declared.both.BothRun.{BothRun}
use Rattle.afdx_command_senders.proofs.BothLemmas.{both-front, both-joined, both-written, few-links, from-since, new-dues, new-lines, old-dues, old-lines, since-end}
use Rattle.afdx_command_senders.proofs.LateLemmas.{late-all, late-early, ranged-early}
use Rattle.afdx_command_senders.proofs.MergeLemmas.{found-both}
use Rattle.afdx_command_senders.proofs.SenderRunLemmas.{come-none, early-next, ends-since, ends-so, is-end, no-lines, since-sooner, some-end}

-- what holds where a call did its work
pub on-two : {V E : Type 0} {P Q R : Type 0} (r : Result V E) → (P → Q → R) → OnOk r P → OnOk r Q → OnOk r R
on-two (Ok v) f p q = f p q
on-two (Err e) f p q = tt

-- ---- what is told

module _ (k : RunRules) (run : BothRun) (start mid : Option (List ℕ)) (frames : List Frame)
    (h : BothTellSoFar k run start mid frames) where
  -- what is told is early
  pub are-early : AreBothEarly k frames (both_lines h.are.all)
  are-early = record {
    told = h.told;
    dues = h.dues;
    all = h.are.all;
    joined = h.are.joined;
    are = refl;
    are_told = h.early;
    are_due = h.judged.early;
  }

  pub begins-so : Begins start mid (AreBothSome k frames)
  begins-so = record {
    lines = both_lines h.are.all;
    are_so = inl are-early;
    begun = whole_front start mid (lines_text (both_lines h.are.all)) h.are.written;
  }

  -- ---- one frame more

  module _ (x : Frame) (latest : latest_of frames ≤ x.arrival.time) where
    abbrev said : Option ℕ
    said = k.1.run.until

    abbrev time : ℕ
    time = x.arrival.time

    is-end-by : (until : ℕ) → IsEndSince said time until → IsEnd run.senders.asked.choices.now.until (Some time) until
    is-end-by until may = is-end run.senders.asked.choices.now.until time until
        (subst (λ (a : Asked). IsEndSince a.run.until time until) (sym h.counts.works.asked) may)

    pub may-tell : MayTellUpTo (Some time) run.senders.asked.choices.now.until run.senders.senders
    may-tell =
        let end = some-end said time in (
          ending end.0 k.0,
          Some (latest_of frames),
          came_in k.1 frames,
          h.told,
          h.have end.0 (since-sooner said (latest_of frames) time end.0 latest end.1),
          latest,
          is-end-by end.0 end.1,
        )

    module _ (lines : List SenderLine) (ds : List Due) (senders : Senders) (switch : JudgingRun)
        (up : TellsUpTo (Some time) run.senders.asked.choices.now.until run.senders.senders senders (told_in lines))
        (reached : HasTold (switch_rules k) false time switch frames (told_by ds h.dues)
        × IsNothingDue k.0.tables (Some time) switch.streams.kept) where
      pub told-up : (until : ℕ) → IsEndSince said time until
          → HaveTold (ending until k.0) (Some time) (came_in k.1 frames) (told_in lines ++ h.told) senders
          × AreToldBefore (ending until k.0) (Some time) (came_in k.1 frames) (told_in lines ++ h.told)
      told-up until may =
          up (ending until k.0) (Some (latest_of frames)) (came_in k.1 frames) h.told
          (h.have until (since-sooner said (latest_of frames) time until latest may)) latest (is-end-by until may)

      dues-early : AreDueEarly (switch_rules k) time frames (told_by ds h.dues)
      dues-early = stands-early (switch_rules k) frames time switch (told_by ds h.dues) latest reached.0.1 reached.1

      abbrev pub all-next : List Told
      all-next = reverse (merged (map line_of lines) ds) ++ h.are.all

      joined-next : AreJoined (told_in lines ++ h.told) (told_by ds h.dues) all-next
      joined-next =
          let end = some-end said time in
          let old-may = since-sooner said (latest_of frames) time end.0 latest end.1 in
          let up-to = told-up end.0 end.1 in
          let few = few-links (switch_rules k) false time switch frames (told_by ds h.dues) reached.0.1 in
          let old-told = h.early end.0 [] old-may (come-none (latest_of frames)) in
          let old-due = h.judged.early end.0 [] (from-since said (latest_of frames) end.0 old-may) tt in
          let new-due = dues-early end.0 [] (from-since said time end.0 end.1) tt in
          both-joined start mid h.told h.dues (map line_of lines) ds h.are (latest_of frames)
          (old-lines (ending end.0 k.0) (latest_of frames) (came_in k.1 frames) h.told run.senders.senders
          (h.have end.0 old-may))
          (old-dues k.0.tables k.1.run end.0 frames few (latest_of frames) h.dues old-due)
          (new-lines (ending end.0 k.0) (latest_of frames) (Some time) (came_in k.1 frames) h.told
          (map line_of lines) senders latest old-told up-to.0 up-to.1)
          (new-dues (latest_of frames) ds h.dues
          (ranged-early k.0.tables k.1.run end.0 frames few time (told_by ds h.dues) new-due)
          (late-early k.0.tables k.1.run end.0 frames (latest_of frames) h.dues (reverse ds) old-due time latest
          new-due))
          up-to.1.in_order new-due.in_order

      pub told-next : AreToldEarly k.0 said time (came_in k.1 (x ∷ frames)) (told_in lines ++ h.told)
      told-next = early-next k.1 k.0 said x frames (told_in lines ++ h.told) (λ until may. (told-up until may).1)

      early-both : AreBothEarly k (x ∷ frames) (both_lines all-next)
      early-both = record {
        told = told_in lines ++ h.told;
        dues = told_by ds h.dues;
        all = all-next;
        joined = joined-next;
        are = refl;
        are_told = told-next;
        are_due = comes-next (λ until all dues. AreLinesBefore k.0.tables k.1.run until all time dues) (switch_rules k)
            time x frames (told_by ds h.dues) (omega arith) dues-early;
      }

      -- a beginning of it is written, or all
      pub begins-next : (end : Option (List ℕ))
          → AppendsFront mid end (lines_text (lines_up (merged (map line_of lines) ds)))
          → Begins start end (AreBothSome k (x ∷ frames))
      begins-next end put = record {
        lines = both_lines all-next;
        are_so = inl early-both;
        begun = both-front start mid h.told h.dues (map line_of lines) ds h.are end put;
      }

      pub written-next : (end : Option (List ℕ))
          → Appends mid end (lines_text (lines_up (merged (map line_of lines) ds)))
          → AreWritten start end (told_in lines ++ h.told) (told_by ds h.dues)
      written-next end put =
          both-written start mid h.told h.dues (map line_of lines) ds h.are end joined-next put

      pub begins-all : (end : Option (List ℕ)) → Appends mid end (lines_text (lines_up (merged (map line_of lines) ds)))
          → Begins start end (AreBothSome k (x ∷ frames))
      begins-all end put = begins-next end
          (whole_front mid end (lines_text (lines_up (merged (map line_of lines) ds))) put)

  -- ---- once no more frames come

  module _ (end : ℕ) (is : end ≡ end_by run.senders.asked.choices.now.until run.senders.latest) where
    pub may-finish : MayTellUpTo None (Some end) run.senders.senders
    may-finish = (
      ending end k.0,
      Some (latest_of frames),
      came_in k.1 frames,
      h.told,
      h.have end (ends-since k run.senders frames end is h.counts.works),
      tt,
      refl,
    )

    module _ (lines : List SenderLine) (ds : List Due) (senders : Senders) (switch : JudgingRun)
        (up : TellsUpTo None (Some end) run.senders.senders senders (told_in lines))
        (done : IsJudgedToEnd (switch_rules k) switch frames (told_by ds h.dues)) where
      told-whole : HaveTold (ending end k.0) None (came_in k.1 frames) (told_in lines ++ h.told) senders
          × AreToldBefore (ending end k.0) None (came_in k.1 frames) (told_in lines ++ h.told)
      told-whole =
          up (ending end k.0) (Some (latest_of frames)) (came_in k.1 frames) h.told
          (h.have end (ends-since k run.senders frames end is h.counts.works)) tt refl

      pub told-last : HaveTold (whole_setup k frames) None (came_in k.1 frames) (told_in lines ++ h.told) senders
          × AreToldBefore (whole_setup k frames) None (came_in k.1 frames) (told_in lines ++ h.told)
      told-last =
          subst (λ (n : ℕ). HaveTold (ending n k.0) None (came_in k.1 frames) (told_in lines ++ h.told) senders
          × AreToldBefore (ending n k.0) None (came_in k.1 frames) (told_in lines ++ h.told))
          (ends-so k run.senders frames end is h.counts.works) told-whole

      abbrev pub all-last : List Told
      all-last = reverse (merged (map line_of lines) ds) ++ h.are.all

      joined-last : AreJoined (told_in lines ++ h.told) (told_by ds h.dues) all-last
      joined-last =
          let until = until_or k.1.run.until frames in
          let old-may = since-end k.1.run.until frames in
          let few = few-links (switch_rules k) true done.time switch frames (told_by ds h.dues) done.stands in
          let old-told = h.early until [] old-may (come-none (latest_of frames)) in
          let old-due = h.judged.early until [] (from-since k.1.run.until (latest_of frames) until old-may) tt in
          let new-due = all-lines (switch_rules k) switch frames (told_by ds h.dues) done in
          both-joined start mid h.told h.dues (map line_of lines) ds h.are (latest_of frames)
          (old-lines (ending until k.0) (latest_of frames) (came_in k.1 frames) h.told run.senders.senders
          (h.have until old-may))
          (old-dues k.0.tables k.1.run until frames few (latest_of frames) h.dues old-due)
          (new-lines (ending until k.0) (latest_of frames) None (came_in k.1 frames) h.told
          (map line_of lines) senders tt old-told told-last.0 told-last.1)
          (new-dues (latest_of frames) ds h.dues
          (ranged k.0.tables k.1.run until frames few (told_by ds h.dues) new-due)
          (late-all k.0.tables k.1.run until frames (latest_of frames) h.dues (reverse ds) old-due new-due))
          told-last.1.in_order new-due.in_order

      pub begins-last : (new : Option (List ℕ))
          → AppendsFront mid new (lines_text (lines_up (merged (map line_of lines) ds)))
          → Begins start new (AreBothSome k frames)
      begins-last new put = record {
        lines = both_lines all-last;
        are_so = inr (
          both_concluded k frames (told_by ds h.dues) (both_lines all-last),
          record {
            told = told_in lines ++ h.told;
            dues = told_by ds h.dues;
            all = all-last;
            joined = joined-last;
            by_time = done.stands.by_time;
            are = refl;
            are_told = told-last.1;
            are_lines = all-lines (switch_rules k) switch frames (told_by ds h.dues) done;
            last_is = refl;
          },
        );
        begun = both-front start mid h.told h.dues (map line_of lines) ds h.are new put;
      }

      pub written-last : (new : Option (List ℕ))
          → Appends mid new (lines_text (lines_up (merged (map line_of lines) ds)))
          → AreWritten start new (told_in lines ++ h.told) (told_by ds h.dues)
      written-last new put =
          both-written start mid h.told h.dues (map line_of lines) ds h.are new joined-last put

-- ---- the answer

pub both-concluded : (k : RunRules) (frames : List Frame) (told : List Line) (dues : List Due) (all : List Told) (n : ℕ)
    → AreJoined told dues all → n ≡ min (findings_in (told_lines told)) most_counted
    → totals_and n (switch_rules k) frames dues ≡ both_totals k frames dues (both_lines all)
both-concluded k frames told dues all n h e =
    ap (λ (m : ℕ). record (totals_of (switch_rules k) frames dues) { findings = m }) same
  where
    same : min (findings_in (due.lines_of dues) + n) most_counted ≡ min (findings_in (both_lines all)) most_counted
    same =
        let found = found-both all in
        let mine = ap (λ (l : List Line). findings_in (told_lines l)) h.senders in
        let its = ap (λ (l : List Due). findings_in (due.lines_of l)) h.switch in
        omega (arith, found, mine, its, e)

-- ---- at first

no-joined : AreJoined [] [] []
unfolding senders_of switch_of AreInOrder
no-joined = record { senders = refl; switch = refl; in_order = tt }

no-both : [] ≡ both_lines []
unfolding both_lines
no-both = refl

pub none-early : (k : RunRules) → AreToldEarly k.0 k.1.run.until 0 [] [] → AreBothEarly k [] []
none-early k early = record {
  told = [];
  dues = [];
  all = [];
  joined = no-joined;
  are = no-both;
  are_told = early;
  are_due = nothing-due (switch_rules k);
}

pub new-both : (k : RunRules) (run : BothRun) (t : Rows) (output : Option (List ℕ)) → k.0.tables ≡ t
    → IsJudgedSoFar (t, k.1.run) run.switch [] [] → IsNewRun k run.senders → BothTellSoFar k run output output []
new-both k run t output same judged new = record {
  told = [];
  dues = [];
  are = record {
    all = [];
    joined = no-joined;
    written = subst (λ (l : List ConformLine). Appends output output (lines_text l)) no-both
        (subst (λ (l : List ℕ). Appends output output l) (sym no-text) (Appends-nil output));
  };
  judged = subst (λ (r : Rows). IsJudgedSoFar (r, k.1.run) run.switch [] []) (sym same) judged;
  counts = record {
    works = new.works;
    findings =
        let none = ap (λ (l : List ConformLine). findings_in l) no-lines ∙ no-findings in
        let some = new.findings in
        omega (arith, none, some);
  };
  have = new.have;
  early = new.early;
}
