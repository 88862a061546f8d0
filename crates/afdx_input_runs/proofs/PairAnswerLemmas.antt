-- What a run over two recordings answers, from what it hands from them to its machine.
use Rattle.std.proofs.Common.{◌≡◌, ℕ, List, [], ◌∷◌, refl, ap, sym, ◌∙◌, subst, arith}
use Rattle.std.proofs.Common.{IfSome, Option, Some, None, Result, Err, Bool, false, ◌||◌, inl, inr}
use Rattle.afdx_frame.specs.declared.by_side.BySide.{BySide}
use Rattle.afdx_input_lines.specs.Calls.{is_read}
use Rattle.afdx_input_lines.specs.Watching.{device_of, has_ended, has_failed}
use Rattle.afdx_input_lines.specs.declared.fault.RunFault.{RunFault}
use Rattle.afdx_input_lines.specs.declared.fault.RunFault.TheVariants as run
use Rattle.afdx_input_lines.specs.declared.watched.Watched.{Watched}
use Rattle.afdx_input_lines.specs.declared.recording_fault.RecordingFault.TheVariants.{TimeTooLarge}
use Rattle.afdx_input_files.specs.Holding.{standing, GivesSome}
use Rattle.afdx_input_files.specs.Reading.{state_of}
use Rattle.afdx_input_files.specs.Recordings.{totals_by}
use Rattle.afdx_input_sources.specs.Engine.{Item}
use Rattle.afdx_input_sources.specs.declared.ahead.Ahead.{Ahead}
use Rattle.afdx_input_sources.specs.declared.ahead.AtHead.{AtHead}
use Rattle.afdx_input_sources.specs.declared.ahead.AtHead.TheVariants as at
use Rattle.afdx_input_sources.specs.declared.counts.Tally.{Tally}
use Rattle.afdx_input_sources.specs.declared.pair_options.PairOptions.{PairOptions}
use Rattle.afdx_input_sources.specs.declared.timed_pair.TimedPair.{TimedPair}
use Rattle.afdx_input_sources.specs.Becoming.{Options}
use Rattle.afdx_input_sources.specs.Claims.{Ports, ports_of}
use Rattle.afdx_input_sources.specs.Counting.{IsFew, plus_tally}
use Rattle.afdx_input_runs.specs.ListText.{lines_themselves}
use Rattle.afdx_input_sources.specs.NumberLines.{Lines, NumberFollows, comes_at, number_order}
use Rattle.afdx_input_runs.specs.Over.{CutOfTwo, IsAsked, Takes, both, of_set, way_of_two, whole_of_two}
use Rattle.afdx_input_sources.specs.PairOptions.{options_of_a, options_of_b}
use Rattle.afdx_input_sources.specs.MergedSource.{IsAhead, IsAheadBy, NoneIsBefore, OfTwo, StopsMerging}
use Rattle.afdx_input_sources.specs.MergedSource.{latest_by, latest_of_both, taken_of}
use Rattle.afdx_input_sources.specs.declared.merged.Nth.TheVariants.{First, Second}
use Rattle.afdx_input_sources.specs.declared.number.Number.{Number}
use Rattle.afdx_input_sources.specs.OrderedRecording.{OrderedRecording, IsSetInOrder, HasTaken, HasTakenAll, HasStoppedTaking}
use Rattle.afdx_input_sources.specs.OrderedRecording.{number_taken, tally_of_source}
use Rattle.afdx_input_sources.specs.Ordering.{Sequence}
use Rattle.afdx_input_sources.specs.Places.{place_of}
use Rattle.afdx_input_runs.specs.ReadPair.{IsNewPair, IsNewTwo}
use Rattle.afdx_input_runs.specs.RecordingRun.{AreCutOffInPair, IfBoth, taken_of_pair}
use Rattle.afdx_input_sources.specs.RecordingSource.{first_standing}
use Rattle.afdx_input_sources.specs.Sequences.{Numbers, numbers_read}
use Rattle.afdx_input_sources.specs.Taking.{AreCutOffAtOne, sequence_of_bytes, side_of, taken_of_both}
use Rattle.afdx_input_runs.specs.TakenRun.{TakenAnswers}
use Rattle.afdx_input_sources.specs.TimedPairSource.{HasPaired, HasPairedAll, HasStoppedPairing, IsPaired, network_of}
use Rattle.afdx_input_sources.specs.Timing.{origin_in, timed}
use Rattle.afdx_input_sources.proofs.OrderedKnownLemmas.{ended-all, taken-sound, all-sound, stopped-sound}
use Rattle.afdx_input_sources.proofs.LawLemmas.{sequences-agree}
use Rattle.afdx_input_runs.proofs.PairRunLemmas.{pair-gave, pair-ended, pair-stopped, named-read, network-unread}
use Rattle.afdx_input_runs.proofs.PairRunLemmas.{either-false, either-left, either-right, sound-by}
use Rattle.afdx_input_runs.proofs.RecordingRunLemmas.{asked-by, gave-start}
use Rattle.afdx_input_sources.proofs.SourceLemmas.{few-claimed, few-contradicted, few-skipped}
use Rattle.afdx_input_sources.proofs.UnusedLemmas.{few-unused}
use Rattle.afdx_input_runs.proofs.TakenLemmas.{answers-same, taken-start}

-- where the bytes of both are known
pub if-both : (a b : Option (List ℕ)) (P : List ℕ → List ℕ → Type 0)
    → ((x y : List ℕ) → a ≡ Some x → b ≡ Some y → P x y) → IfBoth a b P
if-both (Some x) (Some y) P f = f x y refl refl
if-both (Some x) None P f = tt
if-both None (Some y) P f = tt
if-both None None P f = tt

pub both-more : (x y : Option (List ℕ)) (Q : List ℕ × List ℕ → Type 0) (P : List ℕ → List ℕ → Type 0)
    → ((a b : List ℕ) → Q (a, b) → P a b) → IfSome (both x y) Q → IfBoth x y P
both-more (Some a) (Some b) Q P f h = f a b h
both-more (Some a) None Q P f h = tt
both-more None (Some b) Q P f h = tt
both-more None None Q P f h = tt

first_in : Option (List ℕ × List ℕ) → List ℕ
first_in None = []
first_in (Some p) = p.0

second_in : Option (List ℕ × List ℕ) → List ℕ
second_in None = []
second_in (Some p) = p.1

pub both-a : (a b : Option (List ℕ)) (bytes : List ℕ × List ℕ) → both a b ≡ Some bytes → a ≡ Some bytes.0
unfolding first_in
both-a (Some a) (Some b) bytes e = ap (λ (o : Option (List ℕ × List ℕ)). Some (first_in o)) e
both-a (Some a) None bytes e = absurd (cc)
both-a None b bytes e = absurd (cc)

pub both-b : (a b : Option (List ℕ)) (bytes : List ℕ × List ℕ) → both a b ≡ Some bytes → b ≡ Some bytes.1
unfolding second_in
both-b (Some a) (Some b) bytes e = ap (λ (o : Option (List ℕ × List ℕ)). Some (second_in o)) e
both-b (Some a) None bytes e = absurd (cc)
both-b None b bytes e = absurd (cc)

same-tallies : (a b c d : Tally) → a ≡ c → b ≡ d → plus_tally a b ≡ plus_tally c d
same-tallies a b c d e f = rw (e, f) refl

-- what is taken of sequences that are the same
same-taken : (said said' : Option ℕ) (a a' b b' : Sequence) → a ≡ a' → b ≡ b' → said ≡ said'
    → taken_of_both said a b ≡ taken_of_both said' a' b'
same-taken said said' a a' b b' e f g = rw (e, f, g) refl

-- ---- one of the two

module _ {R : Type 0} (remaining : R → Option (List ℕ)) (start input : Watched R) (source : OrderedRecording) where
  gives-by : (head : AtHead) (taken : Numbers)
      → IsAheadBy number_order NumberFollows (HasTaken remaining start source input) (HasTakenAll remaining start
      source input)
      (number_taken source) head
      taken → GivesSome (first_standing remaining start) (standing remaining source.source.reader.held input)
  gives-by at.Unknown taken h = (taken-sound remaining start input source taken h).1
  gives-by (at.Item moment) taken h = (taken-sound remaining start input source (number_taken source ∷ taken) h.0).1
  gives-by at.Over taken h = (all-sound remaining start input source taken h).2

  pub few-of : (taken : Numbers) → HasTakenAll remaining start source input taken → IsFew (tally_of_source source)
  few-of taken all =
      let h = all.ended_so in
      let skipped = few-skipped (numbers_read all.read) in
      let claimed = few-claimed (numbers_read all.read) in
      let contradicted = few-contradicted (numbers_read all.read) in record {
        numbers = omega (arith, h.remembers.numbers, h.few);
        counts = record {
          skipped = rw h.remembers.counts (omega (arith, skipped, h.few));
          claimed = rw h.remembers.counts (omega (arith, claimed, h.few));
          contradicted = rw h.remembers.counts (omega (arith, contradicted, h.few));
        };
        unused = few-unused (totals_by (state_of source.source.reader)).interfaces
            (place_of source.source.options.interfaces);
      }

module _ {R : Type 0} (remaining : R → Option (List ℕ)) (start inputs : BySide (Watched R))
    (source : TimedPair OrderedRecording) where
  abbrev pub Gave : Lines → Type 0
  Gave lines = HasPaired number_taken (HasTaken remaining) (HasTakenAll remaining) start source inputs lines

  abbrev pub Ended : Lines → Type 0
  Ended lines = HasPairedAll number_taken (HasTaken remaining) (HasTakenAll remaining) start source inputs lines

  abbrev pub Stopped : Lines → RunFault → Type 0
  Stopped lines fault =
      HasStoppedPairing number_taken (HasTaken remaining) (HasTakenAll remaining)
      (HasStoppedTaking remaining) start source inputs lines
      fault

  -- ---- whether a device failed

  abbrev AheadA : ℕ → Numbers → Type 0
  AheadA latest taken =
      IsAhead number_order NumberFollows number_taken (HasTaken remaining) (HasTakenAll remaining) latest start.a
      source.pair.first inputs.a taken

  abbrev AheadB : ℕ → Numbers → Type 0
  AheadB latest taken =
      IsAhead number_order NumberFollows number_taken (HasTaken remaining) (HasTakenAll remaining) latest start.b
      source.pair.second inputs.b taken

  sound-a : (latest : ℕ) (taken : Numbers) → AheadA latest taken → inputs.a.failed ≡ false
  sound-a latest taken h =
      sound-by remaining start.a inputs.a source.pair.first.source source.pair.first.head taken h.known

  sound-b : (latest : ℕ) (taken : Numbers) → AheadB latest taken → inputs.b.failed ≡ false
  sound-b latest taken h =
      sound-by remaining start.b inputs.b source.pair.second.source source.pair.second.head taken h.known

  abbrev Paired : List (OfTwo Number) → Type 0
  Paired past = IsPaired number_taken (HasTaken remaining) (HasTakenAll remaining) start source inputs past

  abbrev Stops : List (OfTwo Number) → RunFault → Type 0
  Stops past own =
      StopsMerging number_order NumberFollows number_taken (HasTaken remaining) (HasTakenAll remaining)
      (HasStoppedTaking remaining) start source.pair inputs past own

  abbrev Latest : List (OfTwo Number) → ℕ
  Latest past = latest_of_both comes_at past

  pub paired-sound : (past : List (OfTwo Number)) → Paired past → (inputs.a.failed || inputs.b.failed) ≡ false
  paired-sound past h =
      either-false inputs.a.failed inputs.b.failed (sound-a (Latest past) (taken_of First past) h.first)
      (sound-b (Latest past) (taken_of Second past) h.second)

  stops-failed : (past : List (OfTwo Number)) (own : RunFault) → Stops past own
      → (inputs.a.failed || inputs.b.failed) ≡ is_read own
  stops-failed past own (inl h) =
      either-left inputs.a.failed inputs.b.failed (is_read own)
      (stopped-sound remaining start.a inputs.a source.pair.first.source (taken_of First past) own h.first).0
      (sound-b (Latest past) (taken_of Second past) h.second)
  stops-failed past own (inr h) =
      either-right inputs.a.failed inputs.b.failed (is_read own)
      (sound-a (Latest past) (taken_of First past) h.first)
      (stopped-sound remaining start.b inputs.b source.pair.second.source (taken_of Second past) own h.second).0

  pub stopped-failed : (lines : Lines) (fault : RunFault) → Stopped lines fault
      → (inputs.a.failed || inputs.b.failed) ≡ is_read fault
  stopped-failed lines fault (inl h) =
      stops-failed h.past h.own h.stops ∙ sym (named-read (network_of source.pair.from) h.own)
      ∙ sym (ap is_read h.fault_is)
  stopped-failed lines fault (inr h) =
      paired-sound (h.x ∷ h.before) h.is_paired
      ∙ sym (ap is_read h.fault_is ∙ network-unread (side_of h.x.item.head) (TimeTooLarge h.x.item.number))

  -- ---- how often each was asked

  abbrev GivesA : Type 0
  GivesA =
      GivesSome (first_standing remaining start.a) (standing remaining source.pair.first.source.source.reader.held
      inputs.a)

  abbrev GivesB : Type 0
  GivesB =
      GivesSome (first_standing remaining start.b) (standing remaining source.pair.second.source.source.reader.held
      inputs.b)

  ahead-gives-a : (latest : ℕ) (taken : Numbers) → AheadA latest taken → GivesA
  ahead-gives-a latest taken h =
      gives-by remaining start.a inputs.a source.pair.first.source source.pair.first.head taken h.known

  ahead-gives-b : (latest : ℕ) (taken : Numbers) → AheadB latest taken → GivesB
  ahead-gives-b latest taken h =
      gives-by remaining start.b inputs.b source.pair.second.source source.pair.second.head taken h.known

  pub paired-gives : (past : List (OfTwo Number)) → Paired past → GivesA × GivesB
  paired-gives past h = (
    ahead-gives-a (Latest past) (taken_of First past) h.first,
    ahead-gives-b (Latest past) (taken_of Second past) h.second,
  )

  stops-gives : (past : List (OfTwo Number)) (own : RunFault) → Stops past own → GivesA × GivesB
  stops-gives past own (inl h) = (
    (stopped-sound remaining start.a inputs.a source.pair.first.source (taken_of First past) own h.first).1,
    ahead-gives-b (Latest past) (taken_of Second past) h.second,
  )
  stops-gives past own (inr h) = (
    ahead-gives-a (Latest past) (taken_of First past) h.first,
    (stopped-sound remaining start.b inputs.b source.pair.second.source (taken_of Second past) own h.second).1,
  )

  pub stopped-gives : (lines : Lines) (fault : RunFault) → Stopped lines fault → GivesA × GivesB
  stopped-gives lines fault (inl h) = stops-gives h.past h.own h.stops
  stopped-gives lines fault (inr h) = paired-gives (h.x ∷ h.before) h.is_paired

  pub ended-gives : (lines : Lines) → Ended lines → GivesA × GivesB
  ended-gives lines h = (
    (all-sound remaining start.a inputs.a source.pair.first.source (taken_of First h.past) h.is_paired.first).2,
    (all-sound remaining start.b inputs.b source.pair.second.source (taken_of Second h.past) h.is_paired.second).2,
  )

  pub asked-both : GivesA × GivesB → IsAsked remaining start.a inputs.a × IsAsked remaining start.b inputs.b
  asked-both (a, b) = (
    λ fresh. asked-by remaining start.a inputs.a source.pair.first.source.source.reader.held a fresh,
    λ fresh. asked-by remaining start.b inputs.b source.pair.second.source.source.reader.held b fresh,
  )

  module _ (set_a : IsSetInOrder source.pair.first.source) (set_b : IsSetInOrder source.pair.second.source)
      (bytes_a bytes_b : List ℕ) (known_a : remaining start.a.inner ≡ Some bytes_a)
      (known_b : remaining start.b.inner ≡ Some bytes_b) where
    tally-of-two : (lines : Lines) → Ended lines
        → plus_tally (tally_of_source source.pair.first.source) (tally_of_source source.pair.second.source)
        ≡ (whole_of_two (way_of_two source) (bytes_a, bytes_b)).tally
    tally-of-two lines k =
        let a = ended-all remaining start.a inputs.a source.pair.first.source set_a (taken_of First k.past) bytes_a
        known_a
        k.is_paired.first in
        let b = ended-all remaining start.b inputs.b source.pair.second.source set_b (taken_of Second k.past) bytes_b
        known_b k.is_paired.second in
        same-tallies _ _ _ _ a.tally b.tally

    pub two-take : Takes lines_themselves (whole_of_two (way_of_two source) (bytes_a, bytes_b))
        (CutOfTwo remaining (way_of_two source) (bytes_a, bytes_b) inputs) Gave Ended Stopped
        (plus_tally (tally_of_source source.pair.first.source) (tally_of_source source.pair.second.source))
    two-take = record {
      first = λ lines k. record {
        lines = lines;
        known_so = pair-gave remaining start inputs source set_a set_b bytes_a bytes_b known_a known_b lines k;
        items_are = refl;
      };
      all = λ lines k. record {
        lines = lines;
        known_so = pair-ended remaining start inputs source set_a set_b bytes_a bytes_b known_a known_b lines k;
        items_are = refl;
      };
      tally = λ lines k. tally-of-two lines k;
      stops = λ lines fault k. record {
        lines = lines;
        known_so = pair-stopped remaining start inputs source set_a set_b bytes_a bytes_b known_a known_b lines
            fault k;
        items_are = refl;
      };
    }

-- ---- by the options and the ports that they were made with

cut-same : (said said' : Option ℕ) (a a' b b' : List ℕ → Sequence) → said ≡ said'
    → ((bytes : List ℕ) → a bytes ≡ a' bytes) → ((bytes : List ℕ) → b bytes ≡ b' bytes)
    → (fa fb : Bool) (bytes_a bytes_b : List ℕ) (rest_a rest_b : Option (List ℕ)) (lines : Lines)
    → AreCutOffAtOne said a b fa fb bytes_a bytes_b rest_a rest_b lines
    → AreCutOffAtOne said' a' b' fa fb bytes_a bytes_b rest_a rest_b lines
cut-same said said' a a' b b' e f g fa fb bytes_a bytes_b rest_a rest_b lines (inl (failed, (read, gave, is))) =
    inl (failed, (read, gave, rw (← e, ← f read, ← g bytes_b) is))
cut-same said said' a a' b b' e f g fa fb bytes_a bytes_b rest_a rest_b lines (inr (failed, (read, gave, is))) =
    inr (failed, (read, gave, rw (← e, ← f bytes_a, ← g read) is))

module _ (of_a of_b : Options) (said : Option ℕ) (ports : Ports) (source : TimedPair OrderedRecording)
    (new : IsNewTwo of_a of_b said ports source) where
  abbrev sequence-a : List ℕ → Sequence
  sequence-a bytes = sequence_of_bytes of_a ports bytes

  abbrev sequence-b : List ℕ → Sequence
  sequence-b bytes = sequence_of_bytes of_b ports bytes

  pub same-a : (bytes : List ℕ) → of_set (way_of_two source).0 bytes ≡ sequence-a bytes
  same-a bytes =
      let a = source.pair.first.source.source in
      ap (λ (o : Options). sequence_of_bytes o (ports_of a.ports) bytes) new.options_a
      ∙ sequences-agree of_a (ports_of a.ports) ports _ new.ports_a

  pub same-b : (bytes : List ℕ) → of_set (way_of_two source).1 bytes ≡ sequence-b bytes
  same-b bytes =
      let b = source.pair.second.source.source in
      ap (λ (o : Options). sequence_of_bytes o (ports_of b.ports) bytes) new.options_b
      ∙ sequences-agree of_b (ports_of b.ports) ports _ new.ports_b

  pub two-answers : {H : Type 0} (items_of : Lines → List (Item H)) (done told begins : List (Item H) → Type 0)
      (r : Result Tally RunFault) {R : Type 0} (remaining : R → Option (List ℕ)) (rest : BySide (Watched R))
      (a b : List ℕ)
      → TakenAnswers (whole_of_two (way_of_two source) (a, b)) (CutOfTwo remaining (way_of_two source) (a, b) rest)
      items_of done told begins r
      → TakenAnswers (taken_of_both said (sequence-a a) (sequence-b b))
      (λ lines. AreCutOffAtOne said sequence-a sequence-b (has_failed rest.a) (has_failed rest.b) a b
      (remaining (device_of rest.a)) (remaining (device_of rest.b)) lines)
      items_of done told begins r
  two-answers items_of done told begins r remaining rest a b h =
      answers-same (whole_of_two (way_of_two source) (a, b)) (taken_of_both said (sequence-a a) (sequence-b b))
      (CutOfTwo remaining (way_of_two source) (a, b) rest)
      (λ lines. AreCutOffAtOne said sequence-a sequence-b (has_failed rest.a) (has_failed rest.b) a b
      (remaining (device_of rest.a)) (remaining (device_of rest.b)) lines)
      items_of done told begins r (same-taken _ _ _ _ _ _ (same-a a) (same-b b) new.said_is)
      (λ lines k. cut-same source.clock.said said
      (of_set (way_of_two source).0) sequence-a (of_set (way_of_two source).1) sequence-b
      new.said_is same-a same-b (has_failed rest.a) (has_failed rest.b) a b (remaining (device_of rest.a))
      (remaining (device_of rest.b)) lines k) h

pub two-by : (options : PairOptions) (ports : Ports) (source : TimedPair OrderedRecording)
    → IsNewPair options ports source
    → {H : Type 0} (items_of : Lines → List (Item H)) (done told begins : List (Item H) → Type 0)
    (r : Result Tally RunFault) {R : Type 0} (remaining : R → Option (List ℕ)) (start rest : BySide (Watched R))
    → IfSome (both (remaining start.a.inner) (remaining start.b.inner)) (λ bytes.
    TakenAnswers (whole_of_two (way_of_two source) bytes) (CutOfTwo remaining (way_of_two source) bytes rest)
    items_of done told begins r)
    → IfBoth (remaining start.a.inner) (remaining start.b.inner) (λ a b.
    TakenAnswers (taken_of_pair options ports a b) (AreCutOffInPair options ports remaining a b rest)
    items_of done told begins r)
two-by options ports source new items_of done told begins r remaining start rest =
    both-more (remaining start.a.inner) (remaining start.b.inner)
    (λ bytes. TakenAnswers (whole_of_two (way_of_two source) bytes)
    (CutOfTwo remaining (way_of_two source) bytes rest)
    items_of done told begins r)
    (λ a b. TakenAnswers (taken_of_pair options ports a b) (AreCutOffInPair options ports remaining a b rest)
    items_of done told begins r)
    (λ a b h. two-answers (options_of_a options) (options_of_b options) options.origin ports source new
    items_of done told begins r remaining rest a b h)

-- ---- before the first read

ahead-start : {R : Type 0} (remaining : R → Option (List ℕ)) (input : Watched R) (ahead : Ahead OrderedRecording)
    → ahead.head ≡ at.Unknown → HasTaken remaining input ahead.source input []
    → IsAhead number_order NumberFollows number_taken (HasTaken remaining) (HasTakenAll remaining) 0 input ahead
    input []
ahead-start remaining input ahead e gave = record {
  known = subst (λ (h : AtHead). IsAheadBy number_order NumberFollows (HasTaken remaining input ahead.source input)
      (HasTakenAll remaining input ahead.source input) (number_taken ahead.source) h []) (sym e) gave;
  none_before = subst (λ (h : AtHead). NoneIsBefore comes_at 0 h []) (sym e) (omega arith);
  few = omega arith;
}

pub two-start : {R : Type 0} (remaining : R → Option (List ℕ)) (inputs : BySide (Watched R))
    (source : TimedPair OrderedRecording) (of_a of_b : Options) (said : Option ℕ) (ports : Ports)
    → inputs.a.failed ≡ false
    → inputs.b.failed ≡ false → has_ended inputs.a ≡ false → has_ended inputs.b ≡ false
    → IsNewTwo of_a of_b said ports source
    → HasPaired number_taken (HasTaken remaining) (HasTakenAll remaining) inputs source inputs []
unfolding timed origin_in latest_by taken_of
two-start remaining inputs source of_a of_b said ports sound_a sound_b ended_a ended_b new = record {
  past = [];
  is_paired = record {
    first = ahead-start remaining inputs.a source.pair.first new.head_a
        (gave-start remaining inputs.a source.pair.first.source sound_a ended_a new.unread_a);
    second = ahead-start remaining inputs.b source.pair.second new.head_b
        (gave-start remaining inputs.b source.pair.second.source sound_b ended_b new.unread_b);
    came_first = tt;
  };
  are_timed = record { timed_as = refl; zero = new.zero ∙ sym new.said_is };
}

pub pair-start : {R : Type 0} (remaining : R → Option (List ℕ)) (inputs : BySide (Watched R))
    (source : TimedPair OrderedRecording) (options : PairOptions) (ports : Ports) → inputs.a.failed ≡ false
    → inputs.b.failed ≡ false → has_ended inputs.a ≡ false → has_ended inputs.b ≡ false
    → IsNewPair options ports source
    → HasPaired number_taken (HasTaken remaining) (HasTakenAll remaining) inputs source inputs []
pair-start remaining inputs source options ports sound_a sound_b ended_a ended_b new =
    two-start remaining inputs source (options_of_a options) (options_of_b options) options.origin ports
    sound_a sound_b ended_a ended_b new

-- memory ran out before anything was read
pub pair-unread : {R : Type 0} (remaining : R → Option (List ℕ)) (inputs : BySide (Watched R)) (options : PairOptions)
    (ports : Ports) {H : Type 0} (items_of : Lines → List (Item H)) (done told begins : List (Item H) → Type 0)
    → items_of [] ≡ [] → told []
    → IfBoth (remaining inputs.a.inner) (remaining inputs.b.inner)
    (λ a b. TakenAnswers (taken_of_pair options ports a b) (AreCutOffInPair options ports remaining a b inputs)
    items_of done told begins (Err run.Memory))
pair-unread remaining inputs options ports items_of done told begins e t =
    if-both (remaining inputs.a.inner) (remaining inputs.b.inner)
    (λ a b. TakenAnswers (taken_of_pair options ports a b) (AreCutOffInPair options ports remaining a b inputs)
    items_of done told begins (Err run.Memory))
    (λ a b known_a known_b. taken-start (taken_of_pair options ports a b)
    (AreCutOffInPair options ports remaining a b inputs) items_of done told begins e t)
