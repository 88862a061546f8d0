-- What a run over two recordings hands over, where all bytes of both are known.
use Rattle.std.proofs.Common.{◌≡◌, ℕ, List, [], ◌∷◌, ◌++◌, reverse, append-nil, refl, ap, sym, ◌∙◌, subst}
use Rattle.std.proofs.Common.{Option, Some, None, Bool, true, false, ◌||◌, inl, inr}
use Rattle.std.proofs.lemmas.List.{reverse-append}
use Rattle.afdx_frame.specs.declared.by_side.BySide.{BySide}
use Rattle.afdx_frame.specs.declared.link.Side.{Side}
use Rattle.afdx_frame.specs.declared.link.Side.TheVariants.{A, B}
use Rattle.afdx_input_lines.specs.Calls.{is_read}
use Rattle.afdx_input_lines.specs.Faults.{fault_of_network}
use Rattle.afdx_input_lines.specs.Watching.{device_of, has_failed}
use Rattle.afdx_input_lines.specs.declared.fault.RunFault.{RunFault}
use Rattle.afdx_input_lines.specs.declared.fault.RunFault.TheVariants as run
use Rattle.afdx_input_lines.specs.declared.recording_fault.RecordingFault.{RecordingFault}
use Rattle.afdx_input_lines.specs.declared.recording_fault.RecordingFault.TheVariants.{TimeTooLarge}
use Rattle.afdx_input_lines.specs.declared.watched.Watched.{Watched}
use Rattle.afdx_input_sources.specs.Engine.{Item}
use Rattle.afdx_input_sources.specs.declared.ahead.Ahead.{Ahead}
use Rattle.afdx_input_sources.specs.declared.ahead.AtHead.{AtHead}
use Rattle.afdx_input_sources.specs.declared.ahead.AtHead.TheVariants as at
use Rattle.afdx_input_sources.specs.declared.number.Number.{Number}
use Rattle.afdx_input_sources.specs.declared.timed_pair.TimedPair.{TimedPair}
use Rattle.afdx_input_sources.specs.Becoming.{options_of}
use Rattle.afdx_input_sources.specs.Claims.{ports_of}
use Rattle.afdx_input_sources.specs.Merging.{Merged, merge}
use Rattle.afdx_input_sources.specs.NumberLines.{Lines, NumberFollows, comes_at, number_order}
use Rattle.afdx_input_sources.specs.MergedSource.{CameFirst, Front, IsAhead, IsAheadBy, OfTwo, StopsMerging, Unsought}
use Rattle.afdx_input_sources.specs.MergedSource.{front_by, front_of, items_of, latest_of_both, taken_of}
use Rattle.afdx_input_sources.specs.declared.merged.Nth.TheVariants.{First, Second}
use Rattle.afdx_input_sources.specs.OrderedRecording.{OrderedRecording, IsSetInOrder, HasTaken, HasTakenAll, HasStoppedTaking}
use Rattle.afdx_input_sources.specs.OrderedRecording.{number_taken}
use Rattle.afdx_input_sources.specs.Ordering.{Sequence}
use Rattle.afdx_input_sources.specs.Sequences.{Numbers}
use Rattle.afdx_input_sources.specs.Taking.{ComingNumbers, Taken, AreCutOffAtOne, both_numbers, by_moment, coming_of}
use Rattle.afdx_input_sources.specs.Taking.{coming_until_read, fault_of, late_of_both}
use Rattle.afdx_input_sources.specs.Taking.{sequence_of_bytes, side_of, taken_of_both, timed_of_both}
use Rattle.afdx_input_sources.specs.TimedPairSource.{HasPaired, HasPairedAll, HasStoppedPairing, IsPaired, fault_named, network_of}
use Rattle.afdx_input_sources.specs.Timing.{Timed, timed}
use Rattle.afdx_input_sources.proofs.CameLemmas.{CanCome, IsTimed, ahead-timed, reverse-taken}
use Rattle.afdx_input_sources.proofs.OrderedKnownLemmas.{given-first, ended-all, stopped-fault, stopped-read}
use Rattle.afdx_input_sources.proofs.OrderedKnownLemmas.{CanStop, stopped-memory, can-stop, taken-sound}
use Rattle.afdx_input_sources.proofs.MergeLemmas.{EndsIn, merge-extends}
use Rattle.afdx_input_sources.proofs.PairedLemmas.{number-itself, numbers-end, numbers-go, numbers-stop-a, numbers-stop-b}
use Rattle.afdx_input_runs.specs.Over.{AreAllLines, AreFirstLines, StopsBehindLines}
use Rattle.afdx_input_sources.proofs.TimingLemmas.{timed-extends, timed-stopped}

-- ---- one of the two

-- what comes of it, by its head
pub record Comes (side : Side) (outcome : Sequence) (x : Item Number) (head : AtHead) (taken : Numbers) : Type 0 where
  pub next : List (Item Number)
  pub fault : Option RunFault
  pub can : CanCome number-itself (front_by head x) next fault
  pub coming_is : coming_of side outcome ≡ record { next = reverse taken ++ next; fault = fault }

module _ {R : Type 0} (remaining : R → Option (List ℕ)) (side : Side) (start input : Watched R)
    (source : OrderedRecording) (set : IsSetInOrder source) (bytes : List ℕ)
    (known : remaining start.inner ≡ Some bytes) where
  abbrev Sequence-of : Sequence
  Sequence-of = sequence_of_bytes (options_of source.source.options) (ports_of source.source.ports) bytes

  coming-first : (taken later : Numbers) → Sequence-of.numbers ≡ later ++ taken
      → reverse Sequence-of.numbers ≡ reverse taken ++ reverse later
  coming-first taken later e = ap reverse e ∙ reverse-append later taken

  comes-by : (head : AtHead) (taken : Numbers)
      → IsAheadBy number_order NumberFollows (HasTaken remaining start source input) (HasTakenAll remaining start
      source input)
      (number_taken source) head
      taken → Comes side Sequence-of (number_taken source) head taken
  comes-by at.Unknown taken h =
      let f = given-first remaining start input source set taken bytes known h in record {
        next = reverse f.0;
        fault = fault_of (fault_of_network side) Sequence-of.ending;
        can = tt;
        coming_is = rw (coming-first taken f.0 f.1) refl;
      }
  comes-by (at.Item moment) taken h =
      let f = given-first remaining start input source set (number_taken source ∷ taken) bytes known h.0 in record {
        next = number_taken source ∷ reverse f.0;
        fault = fault_of (fault_of_network side) Sequence-of.ending;
        can = (reverse f.0, refl);
        coming_is = rw (coming-first (number_taken source ∷ taken) f.0 f.1
            ∙ reverse-taken (number_taken source) taken (reverse f.0))
            refl;
      }
  comes-by at.Over taken h =
      let e = ended-all remaining start input source set taken bytes known h in record {
        next = [];
        fault = None;
        can = (refl, refl);
        coming_is = rw (e.numbers, e.ending, append-nil (reverse taken)) refl;
      }

  pub comes : (latest : ℕ) (ahead : Ahead OrderedRecording) (taken : Numbers) → ahead.source ≡ source
      → IsAhead number_order NumberFollows number_taken (HasTaken remaining) (HasTakenAll remaining) latest start
      ahead input taken
      → Comes side Sequence-of (number_taken source) ahead.head taken
  comes latest ahead taken e h =
      comes-by ahead.head taken (subst (λ (s : OrderedRecording). IsAheadBy number_order NumberFollows
      (HasTaken remaining start s input) (HasTakenAll remaining start s input) (number_taken s) ahead.head taken) e
      h.known)

-- its device didn't fail
pub sound-by : {R : Type 0} (remaining : R → Option (List ℕ)) (start input : Watched R) (source : OrderedRecording)
    (head : AtHead) (taken : Numbers)
    → IsAheadBy number_order NumberFollows (HasTaken remaining start source input) (HasTakenAll remaining start
    source input)
    (number_taken source) head taken → input.failed ≡ false
sound-by remaining start input source at.Unknown taken h = (taken-sound remaining start input source taken h).0
sound-by remaining start input source (at.Item moment) taken h =
    (taken-sound remaining start input source (number_taken source ∷ taken) h.0).0
sound-by remaining start input source at.Over taken h = h.ended_so.sound

-- a fault that is named is a failed read where it was one
pub named-read : (side : Side) (fault : RunFault) → is_read (fault_named side fault) ≡ is_read fault
named-read A (run.Recording f) = refl
named-read B (run.Recording f) = refl
named-read side (run.Of f) = refl
named-read side run.Read = refl
named-read side run.Write = refl
named-read side run.Memory = refl
named-read side run.TooManyLines = refl
named-read side (run.LineTooLong m) = refl
named-read side (run.BadLine m) = refl
named-read side (run.BadHex m) = refl
named-read side (run.TimeBack m) = refl
named-read side (run.TimeTooLarge m) = refl
named-read side (run.BadPort m) = refl

-- that of a network is none
pub network-unread : (side : Side) (fault : RecordingFault) → is_read (fault_of_network side fault) ≡ false
network-unread A fault = refl
network-unread B fault = refl

pub either-false : (a b : Bool) → a ≡ false → b ≡ false → (a || b) ≡ false
either-false a b e f = rw (e, f) refl

pub either-left : (a b c : Bool) → a ≡ c → b ≡ false → (a || b) ≡ c
either-left true b c e f = e
either-left false b c e f = f ∙ e

pub either-right : (a b c : Bool) → a ≡ false → b ≡ c → (a || b) ≡ c
either-right a b c e f = rw e f

-- ---- both

-- a fault that is too late for lines stands behind those before it
late-behind : (whole : Taken) (AreCut : Lines → Type 0) (lines : Lines) (side : Side) (fault : RecordingFault)
    → whole.fault ≡ Some (fault_of_network side fault) → whole.lines ≡ lines
    → StopsBehindLines whole AreCut lines (fault_of_network side fault)
late-behind whole AreCut lines A fault e l = (e, l)
late-behind whole AreCut lines B fault e l = (e, l)

-- lines that are timed, and a fault behind their numbers
module _ (said : Option ℕ) (past : Numbers) (lines : Lines) where
  abbrev Timed-so : Option RunFault → Type 0
  Timed-so fault = timed late_of_both said past ≡ record { lines = lines; fault = fault }

  -- a run takes these numbers and then that fault
  up-to : (a b : ComingNumbers) (fault : Option RunFault) → Timed-so None
      → both_numbers a b ≡ record { items = past; fault = fault }
      → timed_of_both said a b ≡ record { lines = lines; fault = fault }
  up-to a b fault t m = rw (m, t) refl

  -- it takes these first
  first-lines : (a b : ComingNumbers) → Timed-so None → EndsIn past (both_numbers a b).items
      → (more : Lines) × ((timed_of_both said a b).lines ≡ more ++ lines)
  first-lines a b t (later, e) =
      let m = timed-extends late_of_both said past lines None t later in
      (m.0, ap (λ (xs : Numbers). (timed late_of_both said xs).lines) e ∙ m.1)

  -- the newest is too late
  late-lines : (a b : ComingNumbers) (fault : RunFault) → Timed-so (Some fault) → EndsIn past (both_numbers a b).items
      → timed_of_both said a b ≡ record { lines = lines; fault = Some fault }
  late-lines a b fault t (later, e) =
      let s = timed-stopped late_of_both said past lines fault t later in
      let is : timed late_of_both said (both_numbers a b).items ≡ record { lines = lines; fault = Some fault } =
      ap (timed late_of_both said) e ∙ s in
      rw is refl

both-coming : (a b c d : ComingNumbers) → a ≡ c → b ≡ d → both_numbers a b ≡ both_numbers c d
both-coming a b c d e f = rw (e, f) refl

module _ {R : Type 0} (remaining : R → Option (List ℕ)) (start inputs : BySide (Watched R))
    (source : TimedPair OrderedRecording) (set_a : IsSetInOrder source.pair.first.source)
    (set_b : IsSetInOrder source.pair.second.source) (bytes_a bytes_b : List ℕ)
    (known_a : remaining start.a.inner ≡ Some bytes_a) (known_b : remaining start.b.inner ≡ Some bytes_b) where
  abbrev Of-a : List ℕ → Sequence
  Of-a = sequence_of_bytes (options_of source.pair.first.source.source.options)
      (ports_of source.pair.first.source.source.ports)

  abbrev Of-b : List ℕ → Sequence
  Of-b = sequence_of_bytes (options_of source.pair.second.source.source.options)
      (ports_of source.pair.second.source.source.ports)

  abbrev Said : Option ℕ
  Said = source.clock.said

  -- what a run takes of both, and what it takes where a read of one failed
  abbrev pub Whole : Taken
  Whole = taken_of_both Said (Of-a bytes_a) (Of-b bytes_b)

  abbrev pub AreCut : Lines → Type 0
  AreCut lines =
      AreCutOffAtOne Said Of-a Of-b (has_failed inputs.a) (has_failed inputs.b) bytes_a bytes_b
      (remaining (device_of inputs.a)) (remaining (device_of inputs.b)) lines

  abbrev Paired : Lines → Type 0
  Paired lines = HasPaired number_taken (HasTaken remaining) (HasTakenAll remaining) start source inputs lines

  abbrev PairedAll : Lines → Type 0
  PairedAll lines = HasPairedAll number_taken (HasTaken remaining) (HasTakenAll remaining) start source inputs lines

  abbrev Stopped : Lines → RunFault → Type 0
  Stopped lines fault =
      HasStoppedPairing number_taken (HasTaken remaining) (HasTakenAll remaining)
      (HasStoppedTaking remaining) start source inputs lines
      fault

  abbrev Next : List (Item Number) → Option RunFault → ComingNumbers
  Next next fault = record { next = next; fault = fault }

  abbrev Coming-a : ComingNumbers
  Coming-a = coming_of A (Of-a bytes_a)

  abbrev Coming-b : ComingNumbers
  Coming-b = coming_of B (Of-b bytes_b)

  abbrev Front-a : Front Number
  Front-a = front_of number_taken source.pair.first

  abbrev Front-b : Front Number
  Front-b = front_of number_taken source.pair.second

  abbrev Comes-a : List (OfTwo Number) → Type 0
  Comes-a past =
      Comes A (Of-a bytes_a) (number_taken source.pair.first.source) source.pair.first.head (taken_of First past)

  abbrev Comes-b : List (OfTwo Number) → Type 0
  Comes-b past =
      Comes B (Of-b bytes_b) (number_taken source.pair.second.source) source.pair.second.head (taken_of Second past)

  comes-a : (latest : ℕ) (past : List (OfTwo Number))
      → IsAhead number_order NumberFollows number_taken (HasTaken remaining) (HasTakenAll remaining) latest start.a
      source.pair.first inputs.a (taken_of First past) → Comes-a past
  comes-a latest past h =
      comes remaining A start.a inputs.a source.pair.first.source set_a bytes_a known_a latest source.pair.first
      (taken_of First past) refl h

  comes-b : (latest : ℕ) (past : List (OfTwo Number))
      → IsAhead number_order NumberFollows number_taken (HasTaken remaining) (HasTakenAll remaining) latest start.b
      source.pair.second inputs.b (taken_of Second past) → Comes-b past
  comes-b latest past h =
      comes remaining B start.b inputs.b source.pair.second.source set_b bytes_b known_b latest source.pair.second
      (taken_of Second past) refl h

  -- these numbers come first
  first-by : (past : List (OfTwo Number)) (a b : ComingNumbers) (xs ys : Numbers) (fx fy : Option RunFault)
      → Coming-a ≡ a → Coming-b ≡ b → both_numbers a b ≡ merge by_moment (items_of past) xs fx ys fy
      → EndsIn (items_of past) (both_numbers Coming-a Coming-b).items
  first-by past a b xs ys fx fy is_a is_b go =
      let e = merge-extends by_moment (items_of past) xs fx ys fy in
      (e.0, ap (λ (m : Merged (Item Number)). m.items) (both-coming _ _ _ _ is_a is_b ∙ go) ∙ e.1)

  paired-first : (past : List (OfTwo Number))
      → IsPaired number_taken (HasTaken remaining) (HasTakenAll remaining) start source inputs past
      → EndsIn (items_of past) (both_numbers Coming-a Coming-b).items
  paired-first past h =
      let a = comes-a (latest_of_both comes_at past) past h.first in
      let b = comes-b (latest_of_both comes_at past) past h.second in
      first-by past _ _ a.next b.next a.fault b.fault a.coming_is b.coming_is
      (numbers-go past Front-a Front-b h.came_first a.next b.next a.fault b.fault a.can b.can)

  pub pair-gave : (lines : Lines) → Paired lines → AreFirstLines Whole lines
  pair-gave lines h =
      first-lines Said (items_of h.past) lines Coming-a Coming-b h.are_timed.timed_as (paired-first h.past
      h.is_paired)

  pub pair-ended : (lines : Lines) → PairedAll lines → AreAllLines Whole lines
  pair-ended lines h =
      let a = ended-all remaining start.a inputs.a source.pair.first.source set_a (taken_of First h.past) bytes_a
      known_a
      h.is_paired.first in
      let b = ended-all remaining start.b inputs.b source.pair.second.source set_b (taken_of Second h.past) bytes_b
      known_b h.is_paired.second in
      let all = up-to Said (items_of h.past) lines Coming-a Coming-b None h.are_timed.timed_as
      (rw (a.numbers, a.ending, b.numbers, b.ending) (numbers-end h.past h.is_paired.came_first)) in
      record { over = ap (λ (t : Timed). t.fault) all; lines_are = ap (λ (t : Timed). t.lines) all }

  -- a recording stopped, behind these numbers
  module _ (past : List (OfTwo Number)) (lines : Lines)
      (t : timed late_of_both Said (items_of past) ≡ record { lines = lines; fault = None }) where
    abbrev Stops : RunFault → Type 0
    Stops fault = StopsBehindLines Whole AreCut lines fault

    -- that of A
    module _ (other : Comes-b past) (came : CameFirst comes_at past Unsought Front-b) where
      abbrev Stopped-a : RunFault → Type 0
      Stopped-a fault = HasStoppedTaking remaining start.a source.pair.first.source inputs.a (taken_of First past)
          fault

      other-a : (fault : RunFault) → Stopped-a fault → CanStop fault
      other-a fault h = can-stop remaining start.a inputs.a source.pair.first.source (taken_of First past) fault h

      -- with this fault behind what comes
      up-to-a : (a : ComingNumbers) (fault : RunFault) → a ≡ Next (reverse (taken_of First past)) (Some fault)
          → timed_of_both Said a Coming-b ≡ record { lines = lines; fault = Some fault }
      up-to-a a fault is =
          up-to Said (items_of past) lines a Coming-b (Some fault) t
          (both-coming _ _ _ _ is other.coming_is
          ∙ numbers-stop-a past Front-b came other.next other.fault fault other.can)

      stop-a : (fault : RunFault) → Stopped-a fault → Stops (fault_named A fault)
      stop-a (run.Recording f) h =
          let s = stopped-fault remaining start.a inputs.a source.pair.first.source set_a (taken_of First past)
          bytes_a
          known_a f h in
          let all = up-to-a Coming-a (fault_of_network A f) (rw (s.numbers, s.ending) refl) in
          late-behind Whole AreCut lines A f (ap (λ (t : Timed). t.fault) all) (ap (λ (t : Timed). t.lines) all)
      stop-a run.Read h =
          let s = stopped-read remaining start.a inputs.a source.pair.first.source set_a (taken_of First past) bytes_a
          known_a h in
          let all = up-to-a (coming_until_read (Of-a s.read)) run.Read (rw s.known_is refl) in
          inl (s.failed, (s.read, s.gave, sym (ap (λ (t : Timed). t.lines) all)))
      stop-a run.Memory h =
          let s = stopped-memory remaining start.a inputs.a source.pair.first.source set_a (taken_of First past)
          bytes_a
          known_a h in
          let fault = fault_of (fault_of_network A) (Of-a bytes_a).ending in
          let own : Coming-a ≡ Next (reverse (taken_of First past) ++ reverse s.0) fault =
          rw (coming-first remaining A start.a inputs.a source.pair.first.source set_a bytes_a known_a
          (taken_of First past) s.0 s.1) refl in
          first-lines Said (items_of past) lines Coming-a Coming-b t
          (first-by past _ _ (reverse s.0) other.next fault other.fault own other.coming_is
          (numbers-go past Unsought Front-b came (reverse s.0) other.next fault other.fault tt other.can))
      stop-a run.Write h = absurd (other-a run.Write h)
      stop-a run.TooManyLines h = absurd (other-a run.TooManyLines h)
      stop-a (run.LineTooLong m) h = absurd (other-a (run.LineTooLong m) h)
      stop-a (run.BadLine m) h = absurd (other-a (run.BadLine m) h)
      stop-a (run.BadHex m) h = absurd (other-a (run.BadHex m) h)
      stop-a (run.TimeBack m) h = absurd (other-a (run.TimeBack m) h)
      stop-a (run.TimeTooLarge m) h = absurd (other-a (run.TimeTooLarge m) h)
      stop-a (run.BadPort m) h = absurd (other-a (run.BadPort m) h)
      stop-a (run.Of m) h = absurd (other-a (run.Of m) h)

    -- or that of B
    module _ (other : Comes-a past) (came : CameFirst comes_at past Front-a Unsought)
        (timed_so : IsTimed comes_at Front-a) where
      abbrev Stopped-b : RunFault → Type 0
      Stopped-b fault =
          HasStoppedTaking remaining start.b source.pair.second.source inputs.b (taken_of Second past) fault

      other-b : (fault : RunFault) → Stopped-b fault → CanStop fault
      other-b fault h = can-stop remaining start.b inputs.b source.pair.second.source (taken_of Second past) fault h

      up-to-b : (b : ComingNumbers) (fault : RunFault) → b ≡ Next (reverse (taken_of Second past)) (Some fault)
          → timed_of_both Said Coming-a b ≡ record { lines = lines; fault = Some fault }
      up-to-b b fault is =
          up-to Said (items_of past) lines Coming-a b (Some fault) t
          (both-coming _ _ _ _ other.coming_is is
          ∙ numbers-stop-b past Front-a came timed_so other.next other.fault fault other.can)

      stop-b : (fault : RunFault) → Stopped-b fault → Stops (fault_named B fault)
      stop-b (run.Recording f) h =
          let s = stopped-fault remaining start.b inputs.b source.pair.second.source set_b (taken_of Second past)
          bytes_b
          known_b f h in
          let all = up-to-b Coming-b (fault_of_network B f) (rw (s.numbers, s.ending) refl) in
          late-behind Whole AreCut lines B f (ap (λ (t : Timed). t.fault) all) (ap (λ (t : Timed). t.lines) all)
      stop-b run.Read h =
          let s = stopped-read remaining start.b inputs.b source.pair.second.source set_b (taken_of Second past)
          bytes_b
          known_b h in
          let all = up-to-b (coming_until_read (Of-b s.read)) run.Read (rw s.known_is refl) in
          inr (s.failed, (s.read, s.gave, sym (ap (λ (t : Timed). t.lines) all)))
      stop-b run.Memory h =
          let s = stopped-memory remaining start.b inputs.b source.pair.second.source set_b (taken_of Second past)
          bytes_b known_b h in
          let fault = fault_of (fault_of_network B) (Of-b bytes_b).ending in
          let own : Coming-b ≡ Next (reverse (taken_of Second past) ++ reverse s.0) fault =
          rw (coming-first remaining B start.b inputs.b source.pair.second.source set_b bytes_b known_b
          (taken_of Second past) s.0 s.1) refl in
          first-lines Said (items_of past) lines Coming-a Coming-b t
          (first-by past _ _ other.next (reverse s.0) other.fault fault other.coming_is own
          (numbers-go past Front-a Unsought came other.next (reverse s.0) other.fault fault other.can tt))
      stop-b run.Write h = absurd (other-b run.Write h)
      stop-b run.TooManyLines h = absurd (other-b run.TooManyLines h)
      stop-b (run.LineTooLong m) h = absurd (other-b (run.LineTooLong m) h)
      stop-b (run.BadLine m) h = absurd (other-b (run.BadLine m) h)
      stop-b (run.BadHex m) h = absurd (other-b (run.BadHex m) h)
      stop-b (run.TimeBack m) h = absurd (other-b (run.TimeBack m) h)
      stop-b (run.TimeTooLarge m) h = absurd (other-b (run.TimeTooLarge m) h)
      stop-b (run.BadPort m) h = absurd (other-b (run.BadPort m) h)
      stop-b (run.Of m) h = absurd (other-b (run.Of m) h)

    stop-by : (own : RunFault)
        → StopsMerging number_order NumberFollows number_taken (HasTaken remaining) (HasTakenAll remaining)
        (HasStoppedTaking remaining) start source.pair inputs past own
        → Stops (fault_named (network_of source.pair.from) own)
    stop-by own (inl s) =
        let n = s.from in
        rw n (stop-a (comes-b (latest_of_both comes_at past) past s.second) s.came_first own s.first)
    stop-by own (inr s) =
        let n = s.from in
        rw n (stop-b (comes-a (latest_of_both comes_at past) past s.first) s.came_first
        (ahead-timed number_order NumberFollows (HasTaken remaining start.a source.pair.first.source inputs.a)
        (HasTakenAll remaining start.a source.pair.first.source inputs.a) (number_taken source.pair.first.source)
        source.pair.first.head (taken_of First past) s.known s.first.known) own s.second)

  pub pair-stopped : (lines : Lines) (fault : RunFault) → Stopped lines fault
      → StopsBehindLines Whole AreCut lines fault
  pair-stopped lines fault (inl h) = rw h.fault_is (stop-by h.past lines h.are_timed.timed_as h.own h.stops)
  pair-stopped lines fault (inr h) =
      let all = late-lines Said (items_of (h.x ∷ h.before)) lines Coming-a Coming-b fault
      h.is_late.timed_as (paired-first (h.x ∷ h.before) h.is_paired) in
      rw h.fault_is (late-behind Whole AreCut lines (side_of h.x.item.head) (TimeTooLarge h.x.item.number)
      (ap (λ (t : Timed). t.fault) all ∙ ap Some h.fault_is) (ap (λ (t : Timed). t.lines) all))
