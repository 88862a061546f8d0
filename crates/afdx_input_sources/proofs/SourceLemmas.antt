-- A recording as a source: what it answers to one call.
use Rattle.std.proofs.Common.{◌≡◌, ℕ, suc, ◌+◌, ◌≤◌, Option, List, [], ◌∷◌, ◌++◌, length, refl, ap, sym, ◌∙◌, subst}
use Rattle.std.proofs.Common.{Result, Ok, Err, IfErr, arith, true, false, Bool, nat_lt, not, ◌&&◌, ◌||◌, if◌then◌else◌}
use Rattle.std.proofs.lemmas.List.{length-map}
use Rattle.afdx_input_lines.specs.Calls.{is_read, is_write}
use Rattle.afdx_input_lines.specs.declared.fault.RunFault.{RunFault}
use Rattle.afdx_input_lines.specs.declared.fault.RunFault.TheVariants as run
use Rattle.afdx_input_lines.specs.declared.recording_fault.RecordingFault.{RecordingFault}
use Rattle.afdx_input_lines.specs.declared.recording_fault.RecordingFault.TheVariants as fault
use Rattle.afdx_input_lines.specs.declared.watched.Watched.{Watched}
use Rattle.afdx_input_files.specs.declared.frame_reader.FrameReader.{FrameReader}
use Rattle.afdx_input_files.specs.Holding.{Standing, standing, Gives, GivesSome, IsTrueToEnd}
use Rattle.afdx_input_files.proofs.HeldLemmas.{Gives-then}
use Rattle.afdx_input_files.specs.Reading.{state_of, latest, Tells, SaysFirst}
use Rattle.afdx_input_files.specs.Recordings.{State, Numbered, Over, Faulted, totals_by, most_numbers}
use Rattle.afdx_input_lines.specs.declared.next.Next.TheVariants as next
use Rattle.afdx_input_sources.specs.declared.counts.SkipCounts.{SkipCounts}
use Rattle.afdx_input_sources.specs.declared.becoming.RecordingOptions.{RecordingOptions}
use Rattle.afdx_input_sources.specs.declared.number.AsRead.{AsRead}
use Rattle.afdx_input_sources.specs.declared.number.Number.{Number}
use Rattle.afdx_input_sources.specs.Engine.{Item}
use Rattle.afdx_input_sources.specs.declared.number.Number.TheVariants.{Arrival, Skipped}
use Rattle.afdx_input_sources.specs.declared.senders.SystemPorts.{SystemPorts}
use Rattle.afdx_input_sources.specs.declared.read_recording.ReadRecording.{ReadRecording}
use Rattle.afdx_input_sources.specs.declared.skipped.Skipped.TheVariants as why
use Rattle.afdx_input_sources.specs.declared.skipped.Skipped as reason
use Rattle.afdx_input_sources.specs.Becoming.{Options, options_of, first_bytes}
use Rattle.afdx_input_sources.specs.Claims.{Ports, ports_of}
use Rattle.afdx_input_sources.specs.Counting.{count_one, more_if, skipped_in, skip_one, take_one}
use Rattle.afdx_input_sources.specs.NumberLines.{ReadFollows}
use Rattle.afdx_input_sources.specs.Sequences.{Numbers, counts_of, has_arrival, is_arrival, number_after, number_read, numbers_read, with_number}
use Rattle.afdx_input_sources.specs.RecordingSource.{Sorts, StopsBehind, FailsBy, first_standing}
use Rattle.afdx_input_sources.specs.RecordingSource.{given, end_of, Remembers, RemembersOne, HasGiven, HasEnded, HasStopped}
use Rattle.afdx_input_sources.proofs.SequenceLemmas.{sorts-more, sorts-fault, ends-fault, ends-well, ends-gives, sorts-read, sorts-first}

-- ---- faults

pub fails-unread : (fault : RunFault) (said : Result Number RecordingFault) → FailsBy fault said
    → is_read fault ≡ false
fails-unread (run.Recording f) said h = refl
fails-unread run.Read said h = absurd h
fails-unread run.Memory said h = absurd h
fails-unread run.Write said h = absurd h
fails-unread run.TooManyLines said h = absurd h
fails-unread (run.LineTooLong m) said h = absurd h
fails-unread (run.BadLine m) said h = absurd h
fails-unread (run.BadHex m) said h = absurd h
fails-unread (run.TimeBack m) said h = absurd h
fails-unread (run.TimeTooLarge m) said h = absurd h
fails-unread (run.BadPort m) said h = absurd h
fails-unread (run.Of m) said h = absurd h

pub fails-unwritten : (fault : RunFault) (said : Result Number RecordingFault) → FailsBy fault said
    → is_write fault ≡ false
fails-unwritten (run.Recording f) said h = refl
fails-unwritten run.Read said h = absurd h
fails-unwritten run.Memory said h = absurd h
fails-unwritten run.Write said h = absurd h
fails-unwritten run.TooManyLines said h = absurd h
fails-unwritten (run.LineTooLong m) said h = absurd h
fails-unwritten (run.BadLine m) said h = absurd h
fails-unwritten (run.BadHex m) said h = absurd h
fails-unwritten (run.TimeBack m) said h = absurd h
fails-unwritten (run.TimeTooLarge m) said h = absurd h
fails-unwritten (run.BadPort m) said h = absurd h
fails-unwritten (run.Of m) said h = absurd h

module _ (options : Options) (ports : Ports) (first old new : Standing) (past : Numbers) (before after : State)
    (item : Numbered) (s : Sorts options ports first old past before) where
  -- the reader stops
  pub stops-reader : (fault : RunFault) → Tells (Err fault) old new before after item
      → StopsBehind options ports first new past fault
  stops-reader (run.Recording f) h = ends-fault options ports first old new past before s (Faulted f) h.0 f h.1 refl
  stops-reader run.Read h = sorts-read options ports first old new past before s h
  stops-reader run.Memory h = sorts-first options ports first old past before s
  stops-reader run.Write h = absurd h
  stops-reader run.TooManyLines h = absurd h
  stops-reader (run.LineTooLong m) h = absurd h
  stops-reader (run.BadLine m) h = absurd h
  stops-reader (run.BadHex m) h = absurd h
  stops-reader (run.TimeBack m) h = absurd h
  stops-reader (run.TimeTooLarge m) h = absurd h
  stops-reader (run.BadPort m) h = absurd h
  stops-reader (run.Of m) h = absurd h

  -- and the input gave some bytes
  abbrev Given : (given : List ℕ) → Gives old new given → GivesSome first new
  Given given gives = (s.read ++ given, Gives-then first old new s.read given s.gives gives)

  pub gives-reader : (fault : RunFault) → Tells (Err fault) old new before after item → GivesSome first new
  gives-reader (run.Recording f) h = Given h.1.given h.1.gives
  gives-reader run.Read h = Given h.given h.gives
  gives-reader run.Memory h = Given h.0 h.1
  gives-reader run.Write h = absurd h
  gives-reader run.TooManyLines h = absurd h
  gives-reader (run.LineTooLong m) h = absurd h
  gives-reader (run.BadLine m) h = absurd h
  gives-reader (run.BadHex m) h = absurd h
  gives-reader (run.TimeBack m) h = absurd h
  gives-reader (run.TimeTooLarge m) h = absurd h
  gives-reader (run.BadPort m) h = absurd h
  gives-reader (run.Of m) h = absurd h

  pub gives-number : SaysFirst old new before after item → GivesSome first new
  gives-number says = Given says.given says.gives

  -- a number is a fault
  pub stops-number : (fault : RunFault) → SaysFirst old new before after item
      → FailsBy fault (number_after options ports past item) → StopsBehind options ports first new past fault
  stops-number (run.Recording f) says h = sorts-fault options ports first old new past before s after item f says h
  stops-number run.Read says h = absurd h
  stops-number run.Memory says h = absurd h
  stops-number run.Write says h = absurd h
  stops-number run.TooManyLines says h = absurd h
  stops-number (run.LineTooLong m) says h = absurd h
  stops-number (run.BadLine m) says h = absurd h
  stops-number (run.BadHex m) says h = absurd h
  stops-number (run.TimeBack m) says h = absurd h
  stops-number (run.TimeTooLarge m) says h = absurd h
  stops-number (run.BadPort m) says h = absurd h
  stops-number (run.Of m) says h = absurd h

-- ---- the end

test-err : {A : Type 0} (t : Bool) (f : RunFault) (a : A) (P : RunFault → Type 0) → (t ≡ true → P f)
    → IfErr (if t then Err f else Ok a) P
test-err true f a P h = h refl
test-err false f a P h = tt

test-ok : {A : Type 0} (t : Bool) (f : RunFault) (a : A) → (if t then Err f else Ok a) ≡ Ok a → t ≡ false
test-ok true f a e = absurd (cc)
test-ok false f a e = refl

pub end-stops : (n m : ℕ) (any has : Bool) (P : RunFault → Type 0) → m ≡ n → any ≡ has
    → ((nat_lt 0 m && not has) ≡ true → P (run.Recording (fault.NoArrival m))) → IfErr (end_of any n) P
end-stops n m any has P e f h =
    rw (sym e, f) (test-err (nat_lt 0 m && not has) (run.Recording (fault.NoArrival m)) next.Ended P h)

pub end-well : (n m : ℕ) (any has : Bool) → m ≡ n → any ≡ has → end_of any n ≡ Ok next.Ended
    → (nat_lt 0 m && not has) ≡ false
end-well n m any has e f is =
    rw (e, ← f) (test-ok (nat_lt 0 n && not any) (run.Recording (fault.NoArrival n)) next.Ended is)

-- ---- few are counted

skip-adds : (r : reason.Skipped) (counts : SkipCounts) → skipped_in (skip_one r counts) ≡ skipped_in counts + 1
unfolding skipped_in skip_one
skip-adds why.NoFrame counts = omega arith
skip-adds why.LeftOut counts = omega arith
skip-adds why.NotAfdx counts = omega arith
skip-adds why.UnknownSender counts = omega arith
skip-adds why.NoNetwork counts = omega arith
skip-adds why.BeforeOrigin counts = omega arith

skip-keeps : (r : reason.Skipped) (counts : SkipCounts) → (skip_one r counts).claimed ≡ counts.claimed
unfolding skip_one
skip-keeps why.NoFrame counts = refl
skip-keeps why.LeftOut counts = refl
skip-keeps why.NotAfdx counts = refl
skip-keeps why.UnknownSender counts = refl
skip-keeps why.NoNetwork counts = refl
skip-keeps why.BeforeOrigin counts = refl

skip-passes : (r : reason.Skipped) (counts : SkipCounts) → (skip_one r counts).contradicted ≡ counts.contradicted
unfolding skip_one
skip-passes why.NoFrame counts = refl
skip-passes why.LeftOut counts = refl
skip-passes why.NotAfdx counts = refl
skip-passes why.UnknownSender counts = refl
skip-passes why.NoNetwork counts = refl
skip-passes why.BeforeOrigin counts = refl

take-keeps : (b d : Bool) (counts : SkipCounts) → skipped_in (take_one b d counts) ≡ skipped_in counts
unfolding take_one skipped_in
take-keeps b d counts = refl

more-adds : (b : Bool) (n : ℕ) → more_if b n ≤ n + 1
more-adds true n = omega arith
more-adds false n = omega arith

take-adds : (b d : Bool) (counts : SkipCounts) → (take_one b d counts).claimed ≤ counts.claimed + 1
unfolding take_one
take-adds b d counts = more-adds b counts.claimed

take-against : (b d : Bool) (counts : SkipCounts) → (take_one b d counts).contradicted ≤ counts.contradicted + 1
unfolding take_one
take-against b d counts = more-adds d counts.contradicted

skipped-next : (n : Number) (counts : SkipCounts) (m : ℕ) → skipped_in counts ≤ m →
    skipped_in (count_one n counts) ≤ suc m
skipped-next (Arrival found) counts m h =
    let e = take-keeps found.is_claimed found.is_contradicted counts in omega (arith, h, e)
skipped-next (Skipped r) counts m h = let e = skip-adds r counts in omega (arith, h, e)

claimed-next : (n : Number) (counts : SkipCounts) (m : ℕ) → counts.claimed ≤ m → (count_one n counts).claimed ≤ suc m
claimed-next (Arrival found) counts m h =
    let e = take-adds found.is_claimed found.is_contradicted counts in omega (arith, h, e)
claimed-next (Skipped r) counts m h = let e = skip-keeps r counts in omega (arith, h, e)

against-next : (n : Number) (counts : SkipCounts) (m : ℕ) → counts.contradicted ≤ m
    → (count_one n counts).contradicted ≤ suc m
against-next (Arrival found) counts m h =
    let e = take-against found.is_claimed found.is_contradicted counts in omega (arith, h, e)
against-next (Skipped r) counts m h = let e = skip-passes r counts in omega (arith, h, e)

pub few-skipped : (past : Numbers) → skipped_in (counts_of past) ≤ length past
unfolding counts_of skipped_in
few-skipped [] = omega arith
few-skipped (x ∷ past) = skipped-next x.head (counts_of past) (length past) (few-skipped past)

pub few-claimed : (past : Numbers) → (counts_of past).claimed ≤ length past
unfolding counts_of
few-claimed [] = omega arith
few-claimed (x ∷ past) = claimed-next x.head (counts_of past) (length past) (few-claimed past)

pub few-contradicted : (past : Numbers) → (counts_of past).contradicted ≤ length past
unfolding counts_of
few-contradicted [] = omega arith
few-contradicted (x ∷ past) = against-next x.head (counts_of past) (length past) (few-contradicted past)

-- ---- one number more

-- the same of a source whose fields are equal
pub same : (P : RecordingOptions → SystemPorts → FrameReader → Type 0) (o o' : RecordingOptions)
    (p p' : SystemPorts) (r r' : FrameReader) → o' ≡ o → p' ≡ p → r' ≡ r → P o p r → P o' p' r'
same P o o' p p' r r' a b c h = rw (a, b, c) h

pub gives-same : {R : Type 0} (remaining : R → Option (List ℕ)) (first : Standing) (input : Watched R)
    (r r' : FrameReader) → r' ≡ r → GivesSome first (standing remaining r.held input)
    → GivesSome first (standing remaining r'.held input)
gives-same remaining first input r r' e h =
    subst (λ (r : FrameReader). GivesSome first (standing remaining r.held input)) (sym e) h

pub honest-same : {R : Type 0} (remaining : R → Option (List ℕ)) (input : Watched R) (r r' : FrameReader) → r' ≡ r
    → IsTrueToEnd (standing remaining r.held input) → IsTrueToEnd (standing remaining r'.held input)
honest-same remaining input r r' e h =
    subst (λ (r : FrameReader). IsTrueToEnd (standing remaining r.held input)) (sym e) h

pub same-stops : {R : Type 0} (remaining : R → Option (List ℕ)) (first : Standing) (input : Watched R)
    (past : Numbers) (fault : RunFault) (o o' : RecordingOptions) (p p' : SystemPorts) (r r' : FrameReader)
    → o' ≡ o → p' ≡ p → r' ≡ r
    → StopsBehind (options_of o) (ports_of p) first (standing remaining r.held input) past fault
    → StopsBehind (options_of o') (ports_of p') first (standing remaining r'.held input) past fault
same-stops remaining first input past fault o o' p p' r r' a b c h =
    same (λ o p r. StopsBehind (options_of o) (ports_of p) first (standing remaining r.held input) past fault)
    o o' p p' r r' a b c h

-- what is known once the next number was read and sorted
pub record Sorting {R : Type 0} (remaining : R → Option (List ℕ)) (old input : Watched R) (source : ReadRecording)
    (reader : FrameReader) (new : ReadRecording) : Type 0 where
  pub sound : input.failed ≡ false
  pub honest : IsTrueToEnd (standing remaining reader.held input)
  pub says : SaysFirst (standing remaining source.reader.held old) (standing remaining reader.held input)
      (state_of source.reader) (state_of reader) (latest reader)
  pub number : (state_of reader).numbers ≡ (state_of source.reader).numbers + 1
  pub few : (state_of reader).numbers ≤ most_numbers
  pub reader_is : new.reader ≡ reader
  pub options_are : new.options ≡ source.options
  pub ports_are : new.ports ≡ source.ports
  pub remembers : RemembersOne (record source { reader = reader }) new

module _ {R : Type 0} (remaining : R → Option (List ℕ)) (start old input : Watched R) (source : ReadRecording)
    (reader : FrameReader) (new : ReadRecording) (past : Numbers)
    (h : HasGiven remaining start source old past) (k : Sorting remaining old input source reader new)
    (is : number_after (options_of source.options) (ports_of source.ports) past
    (latest reader) ≡ Ok new.number.becomes) where
  -- the number that was given
  given-is : number_read (given new)
      ≡ record { number = length past + 1; head = new.number.becomes; bytes = first_bytes (latest reader).bytes }
  given-is =
      rw (k.remembers.numbers ∙ k.number ∙ ap (λ m. m + 1) (sym h.numbers), k.reader_is) refl

  remembers-next : Remembers new (number_read (given new) ∷ past)
  unfolding counts_of has_arrival
  remembers-next = record {
    numbers = omega (arith, k.remembers.numbers, k.number, h.numbers);
    counts = k.remembers.counts ∙ ap (count_one new.number.becomes) h.remembers.counts;
    arrival = k.remembers.arrival ∙ ap (λ b. is_arrival new.number.becomes || b) h.remembers.arrival;
  }

  by-length : (state_of new.reader).numbers ≡ (state_of reader).numbers → (state_of reader).numbers ≡ length past + 1
      → length (number_read (given new) ∷ past) ≡ (state_of new.reader).numbers
  by-length same n = omega (arith, same, n)

  pub gave-item : HasGiven remaining start new input (number_read (given new) ∷ past)
  gave-item =
      let n : (state_of reader).numbers ≡ length past + 1 = k.number ∙ ap (λ m. m + 1) (sym h.numbers) in record {
        sound = k.sound;
        honest = honest-same remaining input reader new.reader k.reader_is k.honest;
        numbers = by-length (ap (λ (r : FrameReader). (state_of r).numbers) k.reader_is) n;
        few = omega (arith, n, k.few);
        remembers = remembers-next;
        sorts = rw given-is (same (λ o p r. Sorts (options_of o) (ports_of p) (first_standing remaining start)
            (standing remaining r.held input) (with_number past (latest reader).bytes new.number.becomes) (state_of r))
            source.options new.options source.ports new.ports reader new.reader
            k.options_are k.ports_are k.reader_is
            (sorts-more (options_of source.options) (ports_of source.ports) (first_standing remaining start)
            (standing remaining source.reader.held old) (standing remaining reader.held input)
            past (state_of source.reader) h.sorts (state_of reader) (latest reader) new.number.becomes k.says is));
      }

  pub item-follows : (read : List (Item AsRead)) → past ≡ numbers_read read → ReadFollows read (given new)
  item-follows read e =
      let same : length past ≡ length read = ap (λ (xs : Numbers). length xs) e
      ∙ length-map read number_read in record {
        number = k.remembers.numbers ∙ k.number ∙ ap (λ m. m + 1) (sym h.numbers ∙ same);
        few = omega (arith, k.number, h.numbers, k.few, same);
      }

module _ {R : Type 0} (remaining : R → Option (List ℕ)) (start old input : Watched R) (source : ReadRecording)
    (reader : FrameReader) (past : Numbers) (h : HasGiven remaining start source old past)
    (failed : input.failed ≡ false) (honest : IsTrueToEnd (standing remaining reader.held input))
    (tells : Tells (Ok next.Ended) (standing remaining source.reader.held old) (standing remaining reader.held input)
    (state_of source.reader) (state_of reader) (latest reader)) where
  abbrev Now : ReadRecording
  Now = record source { reader = reader }

  -- and these are all
  pub ended-well : end_of source.has_arrival source.numbers ≡ Ok next.Ended
      → HasEnded remaining start Now input past
  ended-well ok = record {
    sound = failed;
    ended = tells.0;
    last = honest tells.0;
    few = h.few;
    remembers = record {
      numbers = h.remembers.numbers;
      counts = h.remembers.counts;
      arrival = h.remembers.arrival;
    };
    read = h.sorts.read ++ tells.1.given;
    gives = ends-gives (options_of source.options) (ports_of source.ports) (first_standing remaining start)
        (standing remaining source.reader.held old) (standing remaining reader.held input) past
        (state_of source.reader) h.sorts Over (totals_by (state_of reader)) tells.1;
    says = ends-well (options_of source.options) (ports_of source.ports) (first_standing remaining start)
        (standing remaining source.reader.held old) (standing remaining reader.held input) past
        (state_of source.reader) h.sorts (totals_by (state_of reader)) tells.1
        (end-well source.numbers (length past) source.has_arrival (has_arrival past)
        (sym h.remembers.numbers) h.remembers.arrival ok);
  }

  -- or none is an arrival
  pub stops-end : IfErr (end_of source.has_arrival source.numbers)
      (HasStopped remaining start Now input past)
  stops-end =
      end-stops source.numbers (length past) source.has_arrival (has_arrival past)
      (HasStopped remaining start Now input past) (sym h.remembers.numbers) h.remembers.arrival (λ none. record {
        failed = failed;
        honest = honest;
        gives = (
          h.sorts.read ++ tells.1.given,
          ends-gives (options_of source.options) (ports_of source.ports) (first_standing remaining start)
              (standing remaining source.reader.held old) (standing remaining reader.held input) past
              (state_of source.reader) h.sorts Over (totals_by (state_of reader)) tells.1,
        );
        stops = ends-fault (options_of source.options) (ports_of source.ports) (first_standing remaining start)
            (standing remaining source.reader.held old) (standing remaining reader.held input) past
            (state_of source.reader) h.sorts Over (totals_by (state_of reader)) (fault.NoArrival (length past))
            tells.1 (rw none refl);
      })
