-- What a run has told, whichever end comes.
use Rattle.std.proofs.Common.{◌≡◌, ℕ, ◌<◌, ◌≤◌, inl, inr, Bool, true, false, ◌&&◌, List, [], ◌∷◌, ◌++◌, map, length, refl, sym, ap, ◌∙◌, subst, arith, true≢false}
use Rattle.std.proofs.lemmas.List.{append_assoc, map-append, reverse-append, reverse-reverse}
use Rattle.std.proofs.lemmas.Option.{same_Some}
use Rattle.std.specs.Prelude.{Err, Ok, OnOk, Result, Option, Some, None, IfSome, IfNone, is_some, nat_le, nat_lt, not, reverse}
use Rattle.afdx_config.specs.Rows.{LinkRow, Rows}
use Rattle.afdx_police.specs.Arrival.{Arrival}
use Rattle.afdx_conform.specs.Streams.{Gone}
use Rattle.afdx_command_conform.specs.Frames.{terms_at}
use Rattle.afdx_input_runs.specs.Joining.{Frame}
use Rattle.afdx_text.specs.declared.conform_line.ConformLine.{ConformLine}
use Rattle.afdx_command_conform.specs.Choices.{Choices, counts, is_before, is_behind, is_in_time, is_passed, latest_of, until_or}
use Rattle.afdx_conform.specs.LimitRanges.{most_bytes}
use Rattle.std.proofs.lemmas.Bool.{and_parts, le-leb, leb-true, lt-ltb}
use Rattle.afdx_command_conform.specs.Keeping.{AreKept, Given, IsStreamOf, KeyStands, given_of, is_known, slot_at}
use Rattle.afdx_command_conform.specs.Lines.{Due, due_at, of_key}
use Rattle.afdx_command_conform.specs.Slots.{AreFalling, StreamStands, told_at}
use Rattle.afdx_command_conform.specs.RunLaws.{AreByTime}
use Rattle.afdx_command_conform.specs.Standing.{IsBehindAll, StreamsStand}
use Rattle.afdx_command_conform.specs.Told.{IsEndFor, IsEnding, MayEnd, StandsIf, Stands, lines_of, told_by}
use Rattle.afdx_conform.proofs.EveryLemmas.{every-on}
use Rattle.std.specs.List.{AllByRecursion}
use Rattle.afdx_command_conform.specs.declared.judging.JudgingRun.{JudgingRun}
use Rattle.afdx_command_conform.specs.declared.key.Key.{Key}
use Rattle.afdx_command_conform.specs.declared.kept.KeptByKey.{KeptByKey}
use Rattle.afdx_command_conform.specs.declared.slot.Slot.{Slot}
use Rattle.afdx_command_conform.specs.declared.slot.Slot.TheVariants as slot
use Rattle.afdx_command_conform.specs.declared.streams.Streams.{Streams}
use Rattle.afdx_command_conform.proofs.ByTimeLemmas.{all-before, map-reverse}
use Rattle.afdx_command_conform.proofs.AddedLemmas.{from-ended, from-stream, from-strangers, to-ended, to-stream, to-strangers}
use Rattle.afdx_command_conform.proofs.GivenLemmas.{counted-less, given-from, given_from, kept-same}
use Rattle.afdx_command_conform.proofs.StepLemmas.{known-cases}
use Rattle.afdx_conform.specs.Histories.{AreOver}
use Rattle.afdx_conform.specs.Streams.{Terms}
use Rattle.afdx_conform.specs.States.{Event}

-- ---- a later time

over-later : (z : Terms) (time to : ℕ) (events : List Event) → time ≤ to → AreOver z time events → AreOver z to events
unfolding AreOver
over-later z time to [] le all = tt
over-later z time to (e ∷ events) le all = (let h = all.0 in omega (arith, h, le), over-later z time to events le all.1)

stream-later : (z : Terms) (k : Key) (xs : List Arrival) (ys : List Gone) (lines : List Due) (time to : ℕ) (s : Slot)
    → time ≤ to
    → StreamStands z k xs ys lines time s → StreamStands z k xs ys lines to s
unfolding StreamStands
stream-later z k xs ys lines time to slot.Nothing le stands = stands
stream-later z k xs ys lines time to (slot.Strangers s) le stands = stands
stream-later z k xs ys lines time to (slot.Stream s told) le stands = (
  stands.0,
  record {
    over = stands.1.over;
    before = over-later z time to stands.1.over le stands.1.before;
    is_after = λ until h. stands.1.is_after until (omega (arith, h, le));
    judged = λ until h. stands.1.judged until (omega (arith, h, le));
    lean = stands.1.lean;
  },
  stands.2,
  stands.3,
)

module _ (t : Rows) (c : Choices) (until : ℕ) (time to : ℕ) (le : time ≤ to) where
  key-later : (ended : Option ℕ) (k : Key) (given : Given) (lines : List Due) (s : Slot) → is_known t k ≡ true
      → KeyStands t c until ended time k given lines s → KeyStands t c until ended to k given lines s
  key-later ended k given lines s known stands = elim (known-cases t k known) [
    | inl none ↦ from-strangers t c until ended to k given lines s none (to-strangers t c until ended time k given
        lines s none stands)
    | inr of ↦ by ended stands of.0 of.1
  ]
    where
      by : (e : Option ℕ) → KeyStands t c until e time k given lines s → (l : LinkRow) → IsStreamOf t k l
          → KeyStands t c until e to k given lines s
      by None st l is = from-stream t c until to k l given lines s is
          (stream-later (terms_at t c until l k.port) k given.came given.left lines time to s le
          (to-stream t c until time k l given lines s is st))
      by (Some e) st l is = from-ended t c until to k l given lines s e is (to-ended t c until time k l given lines s
          e is st)

  kept-later : (ended : Option ℕ) (given : Key → Given) (lines : List Due) (kept : KeptByKey)
      → AreKept t c until ended time given lines kept → AreKept t c until ended to given lines kept
  kept-later ended given lines kept are = record {
    stand = λ k known. key-later ended k (given k) (of_key k lines) (slot_at kept.slots.items k) known
        (are.stand k known);
    none = are.none;
    count = are.count;
    on_agenda = are.on_agenda;
    known = are.known;
    behind = are.behind;
    in_order = are.in_order;
    early = λ none. let h = are.early none in omega (arith, h, le);
    falling = are.falling;
  }

  pub stand-later : (frames : List Frame) (dues : List Due) (s : Streams) → StreamsStand t c until frames dues time s
      → StreamsStand t c until frames dues to s
  stand-later frames dues s stand = record {
    lawful = stand.lawful;
    tables = stand.tables;
    by = stand.by;
    sight = stand.sight;
    kept = kept-later s.ended (given_of t c frames) dues s.kept stand.kept;
  }

-- ---- a frame that doesn't count

pub stand-skipped : (t : Rows) (c : Choices) (until time : ℕ) (x : Frame) (frames : List Frame) (dues : List Due)
    (s : Streams)
    → counts t c x ≡ false → StreamsStand t c until frames dues time s → StreamsStand t c until (x ∷ frames) dues time s
stand-skipped t c until time x frames dues s none stand = record {
  lawful = stand.lawful;
  tables = stand.tables;
  by = stand.by;
  sight = stand.sight;
  kept = kept-same t c until s.ended time (given_of t c frames) (given_of t c (x ∷ frames)) dues s.kept
      (λ k known. same k)
      (λ k. subst (λ g. AreFalling g.strange) (sym (same k)) (stand.kept.falling k)) stand.kept;
}
  where
    same : (k : Key) → given_of t c (x ∷ frames) k ≡ given_of t c frames k
    same k = given-from t c (x ∷ frames) k ∙ ap (λ fs. given_from t c.sight k fs k.link)
        (counted-less t c x frames none)
        ∙ sym (given-from t c frames k)

-- ---- lines

lines-at : (key : Key) (m : ℕ) (out : List ConformLine) → map (λ (d : Due). d.line) (map (due_at key m) out) ≡ out
lines-at key m [] = refl
lines-at key m (x ∷ out) = ap (λ l. x ∷ l) (lines-at key m out)

pub lines-told : (key : Key) (m : ℕ) (out : List ConformLine) (dues : List Due)
    → lines_of (told_at key m out dues) ≡ lines_of dues ++ out
lines-told key m out dues =
    ap (λ l. reverse l) (map-append (λ (d : Due). d.line) (map (due_at key m) (reverse out)) dues
    ∙ ap (λ l. l ++ map (λ (d : Due). d.line) dues) (lines-at key m (reverse out)))
    ∙ reverse-append (reverse out) (map (λ (d : Due). d.line) dues)
    ∙ ap (λ l. lines_of dues ++ l) (reverse-reverse out)

-- what is told behind some lines
pub lines-by : (more dues : List Due) → lines_of (told_by more dues) ≡ lines_of dues ++ map (λ (d : Due). d.line) more
lines-by more dues =
    ap (λ l. reverse l) (map-append (λ (d : Due). d.line) (reverse more) dues)
    ∙ reverse-append (map (λ (d : Due). d.line) (reverse more)) (map (λ (d : Due). d.line) dues)
    ∙ ap (λ l. lines_of dues ++ l) (ap (λ l. reverse l) (map-reverse (λ (d : Due). d.line) more)
    ∙ reverse-reverse (map (λ (d : Due). d.line) more))

-- more of one moment
pub told-more : (key : Key) (m : ℕ) (out : List ConformLine) (old new dues : List Due)
    → new ≡ old ++ map (due_at key m) out → told_by new dues ≡ told_at key m out (told_by old dues)
told-more key m out old new dues e =
    ap (λ l. reverse l ++ dues) e
    ∙ ap (λ l. l ++ dues) (reverse-append old (map (due_at key m) out))
    ∙ append_assoc (reverse (map (due_at key m) out)) (reverse old) dues
    ∙ ap (λ l. l ++ (reverse old ++ dues)) (sym (map-reverse (due_at key m) out))

-- ---- what stands

before-later : (time to : ℕ) (dues : List Due) → time ≤ to → AllByRecursion (λ d. d.moment < time) dues
    → AllByRecursion (λ d. d.moment < to) dues
before-later time to dues le all = every-on (λ d. d.moment < time) (λ d. d.moment < to)
    (λ d lt. omega (arith, le, lt)) dues all

told-before : (key : Key) (m time : ℕ) (items : List ConformLine) (dues : List Due) → m < time
    → AllByRecursion (λ d. d.moment < time) dues → AllByRecursion (λ d. d.moment < time) (told_at key m items dues)
told-before key m time items dues lt all = go (reverse items)
  where
    go : (xs : List ConformLine) → AllByRecursion (λ d. d.moment < time) (map (due_at key m) xs ++ dues)
    go [] = all
    go (x ∷ xs) = (lt, go xs)

module _ (k : Rows × Choices) (frames : List Frame) where
  -- with the lines of one moment that are taken
  pub stands-taken : (last : Bool) (time : ℕ) (j i : JudgingRun) (dues : List Due) (key : Key) (m : ℕ)
      (items : List ConformLine)
      → ((until : ℕ) → StreamsStand k.0 k.1 until frames dues time j.streams
      → StreamsStand k.0 k.1 until frames (told_at key m items dues) time i.streams)
      → (last ≡ false → m < time)
      → i.streams.ended ≡ j.streams.ended
      → Stands k last time j frames dues → Stands k last time i frames (told_at key m items dues)
  stands-taken last time j i dues key m items next early ended stands = record {
    all = λ until may.
        let old = stands.all until (subst (λ e. MayEnd k.1.until frames e until) ended may) in
        record {
          streams = next until old.streams;
          early = λ e. told-before key m time items dues (early e) (old.early e);
        };
    by_time = stands.by_time;
    running = λ end none said. stands.running end (sym ended ∙ none) said;
    ends = λ end is. stands.ends end (sym ended ∙ is);
  }

  pub stands-later : (last after : Bool) → (after ≡ false → last ≡ false)
      → (time to : ℕ) (j : JudgingRun) (dues : List Due)
      → time ≤ to
      → ((end : ℕ) → j.streams.ended ≡ None → k.1.until ≡ Some end → to ≤ end)
      → ((end : ℕ) → j.streams.ended ≡ Some end → IsEnding after k.1.until frames to end)
      → Stands k last time j frames dues → Stands k after to j frames dues
  stands-later last after same time to j dues le running ends stands = record {
    all = λ until may. let old = stands.all until may in
        record {
          streams = stand-later k.0 k.1 until time to le frames dues j.streams old.streams;
          early = λ e. before-later time to dues le (old.early (same e));
        };
    by_time = stands.by_time;
    running = running;
    ends = ends;
  }

  -- the end is known
  pub stands-ended : (after : Bool) (time until to : ℕ) (j i : JudgingRun) (dues : List Due) → time ≤ until
      → until ≤ to
      → latest_of frames ≤ until → IsEndFor k.1.until frames until → IsEnding after k.1.until frames to until
      → j.streams.ended ≡ None → i.streams.ended ≡ Some until
      → (StreamsStand k.0 k.1 until frames dues time j.streams
      → StreamsStand k.0 k.1 until frames dues time i.streams)
      → Stands k false time j frames dues → Stands k after to i frames dues
  stands-ended after time until to j i dues le-until le-to le-latest may ending none ended next stands = record {
    all = λ u at.
        let same : u ≡ until = subst (λ e. MayEnd k.1.until frames e u) ended at in
        let old = stands.all until (subst (λ e. MayEnd k.1.until frames e until) (sym none) may) in
        subst (λ n. StandsIf k.0 k.1 after n frames dues to i.streams) (sym same)
        (record {
          streams = stand-later k.0 k.1 until time to (omega (arith, le-until, le-to)) frames dues i.streams
              (next old.streams);
          early = λ e. before-later time to dues (omega (arith, le-until, le-to)) (old.early refl);
        });
    by_time = stands.by_time;
    running = λ end no said. let bad : None ≡ Some until = sym no ∙ ended in absurd (cc);
    ends = λ end is. let same : until ≡ end = same_Some until end (sym ended ∙ is) in subst
        (λ n. IsEnding after k.1.until frames to n) same ending;
  }

  pub raised : (time to : ℕ) (j : JudgingRun) (dues : List Due) → time ≤ to
      → ((end : ℕ) → j.streams.ended ≡ None → k.1.until ≡ Some end → to ≤ end)
      → Stands k false time j frames dues → Stands k false to j frames dues
  raised time to j dues le running stands = stands-later false false (λ e. e) time to j dues le running
      (λ end is. let e = stands.ends end is in (e.0, let lt = e.1 in omega (arith, lt, le))) stands

  -- once all came, the end that was said is it
  pub stands-last : (time : ℕ) (j : JudgingRun) (dues : List Due) → Stands k false time j frames dues
      → Stands k true time j frames dues
  stands-last time j dues stands = stands-later false true (λ e. refl) time time j dues (omega arith) stands.running
      (λ end is. sym (ap (λ o. until_or o frames) (stands.ends end is).0)) stands

-- some end may come
pub some-end : (said : Option ℕ) (frames : List Frame) (ended : Option ℕ) → (until : ℕ) × MayEnd said frames ended until
some-end None frames None = (latest_of frames, omega arith)
some-end (Some u) frames None = (u, refl)
some-end said frames (Some e) = (e, refl)

pub not-ended : (ended : Option ℕ) → is_some ended ≡ false → ended ≡ None
not-ended None e = refl
not-ended (Some n) e = absurd (true≢false e)

pub said-end : (said : Option ℕ) (frames : List Frame) (end : ℕ) → said ≡ Some end → IsEndFor said frames end
said-end None frames end is = absurd (cc is)
said-end (Some e) frames end is = sym (same_Some e end is)

pub none-end : (said : Option ℕ) (frames : List Frame) (end : ℕ) → said ≡ None → latest_of frames ≤ end
    → IsEndFor said frames end
none-end None frames end is le = le
none-end (Some e) frames end is le = absurd (cc is)

pub behind-later : (frames : List Frame) (to : ℕ) → latest_of frames ≤ to → AreByTime frames → IsBehindAll to frames
behind-later frames to le order = all-before to frames order le

pub some-there : {X : Type 0} (o : Option X) (x : X) (P : X → Type 0) → o ≡ Some x → IfSome o P → P x
some-there None x P is h = absurd (cc is)
some-there (Some y) x P is h = subst P (same_Some y x is) h

pub none-there : {X P : Type 0} (o : Option X) → o ≡ None → IfNone o P → P
none-there None is h = h
none-there (Some y) is h = absurd (cc is)

-- with no more lines
pub stands-same : (k : Rows × Choices) (frames : List Frame) (last : Bool) (time : ℕ) (j i : JudgingRun)
    (dues : List Due)
    → ((until : ℕ) → StreamsStand k.0 k.1 until frames dues time j.streams
    → StreamsStand k.0 k.1 until frames dues time i.streams)
    → i.streams.ended ≡ j.streams.ended
    → Stands k last time j frames dues → Stands k last time i frames dues
stands-same k frames last time j i dues next ended stands = record {
  all = λ until may.
      let old = stands.all until (subst (λ e. MayEnd k.1.until frames e until) ended may) in
      record { streams = next until old.streams; early = old.early };
  by_time = stands.by_time;
  running = λ end none said. stands.running end (sym ended ∙ none) said;
  ends = λ end is. stands.ends end (sym ended ∙ is);
}

-- ---- one more frame

may-before : (said : Option ℕ) (frames : List Frame) (x : Frame) (ended : Option ℕ) (until : ℕ)
    → latest_of frames ≤ x.arrival.time
    → MayEnd said (x ∷ frames) ended until → MayEnd said frames ended until
may-before None frames x None until le may = omega (arith, le, may)
may-before (Some s) frames x None until le may = may
may-before None frames x (Some e) until le may = may
may-before (Some s) frames x (Some e) until le may = may

pub stands-next : (k : Rows × Choices) (frames : List Frame) (x : Frame) (j i : JudgingRun) (dues : List Due)
    → latest_of frames ≤ x.arrival.time
    → ((until : ℕ) → StreamsStand k.0 k.1 until frames dues x.arrival.time j.streams
    → StreamsStand k.0 k.1 until (x ∷ frames) dues x.arrival.time i.streams)
    → i.streams.ended ≡ j.streams.ended
    → Stands k false x.arrival.time j frames dues → Stands k false x.arrival.time i (x ∷ frames) dues
unfolding AreByTime
stands-next k frames x j i dues le next ended stands = record {
  all = λ until may.
      let old = stands.all until (subst (λ e. MayEnd k.1.until frames e until) ended
      (may-before k.1.until frames x i.streams.ended until le may)) in
      record { streams = next until old.streams; early = old.early };
  by_time = (le, stands.by_time);
  running = λ end none said. stands.running end (sym ended ∙ none) said;
  ends = λ end is. stands.ends end (sym ended ∙ is);
}

pub next-on : {V E : Type 0} (r : Result V E) (k : Rows × Choices) (frames : List Frame) (x : Frame) (j i : JudgingRun)
    (dues : List Due) → latest_of frames ≤ x.arrival.time
    → ((until : ℕ) → StreamsStand k.0 k.1 until frames dues x.arrival.time j.streams
    → OnOk r (StreamsStand k.0 k.1 until (x ∷ frames) dues x.arrival.time i.streams))
    → i.streams.ended ≡ j.streams.ended
    → Stands k false x.arrival.time j frames dues → OnOk r (Stands k false x.arrival.time i (x ∷ frames) dues)
next-on (Ok v) k frames x j i dues le next ended stands = stands-next k frames x j i dues le next ended stands
next-on (Err e) k frames x j i dues le next ended stands = tt

and-not : (a b c : Bool) → b ≡ true → (a && not b && c) ≡ false
and-not true true c e = refl
and-not false true c e = refl
and-not a false c e = absurd (true≢false (sym e))

and-last : (a b c : Bool) → c ≡ false → (a && b && c) ≡ false
and-last true true false e = refl
and-last true false false e = refl
and-last false b false e = refl
and-last a b true e = absurd (true≢false e)

-- which frames don't count
pub out-of-time : (t : Rows) (c : Choices) (x : Frame) → is_in_time c x ≡ false → counts t c x ≡ false
unfolding counts
out-of-time t c x e = ap (λ v. v && not (is_passed t c x) && nat_le (length x.arrival.bytes) most_bytes) e

pub out-of-choice : (t : Rows) (c : Choices) (x : Frame) → is_passed t c x ≡ true → counts t c x ≡ false
unfolding counts
out-of-choice t c x e = and-not (is_in_time c x) (is_passed t c x) (nat_le (length x.arrival.bytes) most_bytes) e

pub too-long : (t : Rows) (c : Choices) (x : Frame) → most_bytes < length x.arrival.bytes → counts t c x ≡ false
unfolding counts
too-long t c x lt = and-last (is_in_time c x) (not (is_passed t c x)) (nat_le (length x.arrival.bytes) most_bytes)
    (by (nat_le (length x.arrival.bytes) most_bytes) refl)
  where
    by : (v : Bool) → nat_le (length x.arrival.bytes) most_bytes ≡ v → nat_le (length x.arrival.bytes) most_bytes
        ≡ false
    by false e = e
    by true e = let le = leb-true (length x.arrival.bytes) most_bytes e in absurd (omega (arith, le, lt))

and-all : (a b c : Bool) → a ≡ true → b ≡ false → c ≡ true → (a && not b && c) ≡ true
and-all true false true e f g = refl
and-all false b c e f g = absurd (true≢false (sym e))
and-all true true c e f g = absurd (true≢false f)
and-all true false false e f g = absurd (true≢false (sym g))

pub does-count : (t : Rows) (c : Choices) (x : Frame) → is_in_time c x ≡ true → is_passed t c x ≡ false
    → length x.arrival.bytes ≤ most_bytes
    → counts t c x ≡ true
unfolding counts
does-count t c x in-time out le = and-all (is_in_time c x) (is_passed t c x)
    (nat_le (length x.arrival.bytes) most_bytes) in-time out
    (le-leb (length x.arrival.bytes) most_bytes le)

-- while frames count, the end isn't known
pub running-then : (k : Rows × Choices) (frames : List Frame) (x : Frame) (j : JudgingRun) (dues : List Due)
    → is_in_time k.1 x ≡ true → Stands k false x.arrival.time j frames dues → j.streams.ended ≡ None
running-then k frames x j dues in-time stands = by j.streams.ended refl
  where
    not-true : (v : Bool) → not v ≡ true → v ≡ false
    not-true false e = refl
    not-true true e = absurd (true≢false (sym e))

    by : (o : Option ℕ) → j.streams.ended ≡ o → j.streams.ended ≡ None
    by None e = e
    by (Some end) e =
        let ends = stands.ends end e in
        let late = not-true (is_behind x.arrival.time k.1.until)
        (and_parts (not (is_before k.1 x.role x.arrival.time)) (not (is_behind x.arrival.time k.1.until)) in-time).1 in
        let seen : nat_lt end x.arrival.time ≡ false = ap (λ o. is_behind x.arrival.time o) (sym ends.0) ∙ late in
        absurd (true≢false (sym (lt-ltb end x.arrival.time ends.1) ∙ seen))
