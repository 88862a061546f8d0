-- A turn begins.
use Rattle.std.proofs.Common.{◌≡◌, ℕ, ◌+◌, ◌-◌, ◌*◌, ◌<◌, ◌≤◌, List, ◌∷◌, length, Some, None}
use Rattle.std.proofs.Common.{sum_by, refl, sym, ap, subst, arith, ◌∙◌, max}
use Rattle.std.specs.List.{AllByRecursion, slice_get}
use Rattle.std.proofs.lemmas.List.Sums.{sum_by-cons}
use Rattle.afdx_frame.specs.declared.link.Priority.{Priority}
use Rattle.afdx_frame.specs.declared.link.Priority.TheVariants.{High, Low}
use Rattle.afdx_port.specs.declared.left.Due.{Due}
use Rattle.afdx_port.specs.declared.port_state.Waiting.{Waiting}
use Rattle.afdx_port.specs.declared.port_state.PortState.{PortState}
use Rattle.afdx_port.specs.Facts.{Facts, AreLawful}
use Rattle.afdx_port.specs.Schedule.{lasting}
use Rattle.afdx_port.specs.Held.{frames_held, sending_count, choice_of, queue_of, is_too_old, due_from, due_of}
use Rattle.afdx_port.specs.Sound.{ChangesQueue, IsPortSound}
use Rattle.afdx_port.specs.History.{PortHistory, at, StandsFor}
use Rattle.afdx_port.specs.Calls.{Advances, BeginsBefore}
use Rattle.afdx_port.proofs.DueLemmas.{clock_due, due_idle, due_busy}
use Rattle.afdx_port.proofs.HistoryLemmas.{other, left, begin_stands, idle_stands}
use Rattle.afdx_port.proofs.SoundLemmas.{clock_sound, lasting_short, count_least, start_is, stays}

module _ {X : Type 0} where
  -- the port after the turn of a frame has begun, which has left its queue
  abbrev pub begun : PortState X → Priority → X → ℕ → Due → PortState X
  begun mid c x n d = record mid { free = d.time; sending = Some (left x c d); waiting = mid.waiting - n }

  -- what is known where a turn begins
  pub record Begins (facts : X → Facts) (old mid : PortState X) (time moment : ℕ) (c : Priority)
      (w : Waiting X) (n : ℕ) (d : Due) : Type 0 where
    pub lawful : (x : X) → AreLawful (facts x)
    pub sound : IsPortSound facts old
    pub clock : old.clock ≡ time
    pub before : moment < time
    pub idle : old.sending ≡ None
    pub chosen : choice_of old ≡ Some (c, moment)
    pub front : queue_of c old ≡ w ∷ queue_of c mid
    pub changes : ChangesQueue c old mid
    pub bytes : n ≡ (facts w.item).bytes
    pub due : d ≡ due_from facts mid.byte_ns w moment

  -- the frames that wait, and the front among them
  pub record Counts (facts : X → Facts) (old mid : PortState X) (c : Priority) (w : Waiting X) : Type 0 where
    pub sums : old.waiting ≡ (facts w.item).bytes +
        (sum_by (λ v. (facts v.item).bytes) mid.high.items + sum_by (λ v. (facts v.item).bytes)
        mid.low.items)
    pub lengths : length old.high.items + length old.low.items ≡ (length mid.high.items + length mid.low.items) + 1
    pub time : w.time ≤ 1000032768000000
    pub high_times : AllByRecursion (λ v. v.time ≤ 1000032768000000) mid.high.items
    pub low_times : AllByRecursion (λ v. v.time ≤ 1000032768000000) mid.low.items
    pub few : length old.high.items + length old.low.items ≤ 65536

  pub counts : (facts : X → Facts) (old mid : PortState X) (c : Priority) (w : Waiting X)
      → ((x : X) → AreLawful (facts x)) → IsPortSound facts old → queue_of c old ≡ w ∷ queue_of c mid
      → ChangesQueue c old mid → Counts facts old mid c w
  counts facts old mid High w lawful sound front changes =
      let st = stays High old mid changes in
      let P : List (Waiting X) → Type 0 = λ ws. AllByRecursion (λ v. v.time ≤ 1000032768000000) ws in
      let times = subst P front sound.high_times in
      let sum_high : sum_by (λ v. (facts v.item).bytes) old.high.items
      ≡ (facts w.item).bytes + sum_by (λ v. (facts v.item).bytes) mid.high.items =
      ap (λ ws. sum_by (λ v. (facts v.item).bytes) ws) front
      ∙ sum_by-cons (λ v. (facts v.item).bytes) w mid.high.items in
      let sum_low : sum_by (λ v. (facts v.item).bytes) mid.low.items
      ≡ sum_by (λ v. (facts v.item).bytes) old.low.items =
      ap (λ ws. sum_by (λ v. (facts v.item).bytes) ws) st.others in
      let all : old.waiting ≡ sum_by (λ v. (facts v.item).bytes) old.high.items + sum_by
      (λ v. (facts v.item).bytes) old.low.items = sound.waiting in
      let within : old.waiting ≤ old.buffer = sound.within in
      let buffer : old.buffer ≤ 4194304 = sound.buffer in
      let one : length old.high.items ≡ length mid.high.items + 1 = omega (arith, ap length front) in
      let same : length mid.low.items ≡ length old.low.items = ap length st.others in
      record {
        sums = omega arith;
        lengths = omega arith;
        time = times.0;
        high_times = times.1;
        low_times = subst P (sym st.others) sound.low_times;
        few = omega (arith, count_least facts lawful old.high.items, count_least facts lawful old.low.items);
      }
  counts facts old mid Low w lawful sound front changes =
      let st = stays Low old mid changes in
      let P : List (Waiting X) → Type 0 = λ ws. AllByRecursion (λ v. v.time ≤ 1000032768000000) ws in
      let times = subst P front sound.low_times in
      let sum_low : sum_by (λ v. (facts v.item).bytes) old.low.items
      ≡ (facts w.item).bytes + sum_by (λ v. (facts v.item).bytes) mid.low.items =
      ap (λ ws. sum_by (λ v. (facts v.item).bytes) ws) front
      ∙ sum_by-cons (λ v. (facts v.item).bytes) w mid.low.items in
      let sum_high : sum_by (λ v. (facts v.item).bytes) mid.high.items
      ≡ sum_by (λ v. (facts v.item).bytes) old.high.items =
      ap (λ ws. sum_by (λ v. (facts v.item).bytes) ws) st.others in
      let all : old.waiting ≡ sum_by (λ v. (facts v.item).bytes) old.high.items + sum_by
      (λ v. (facts v.item).bytes) old.low.items = sound.waiting in
      let within : old.waiting ≤ old.buffer = sound.within in
      let buffer : old.buffer ≤ 4194304 = sound.buffer in
      let one : length old.low.items ≡ length mid.low.items + 1 = omega (arith, ap length front) in
      let same : length mid.high.items ≡ length old.high.items = ap length st.others in
      record {
        sums = omega arith;
        lengths = omega arith;
        time = times.0;
        high_times = subst P (sym st.others) sound.high_times;
        low_times = times.1;
        few = omega (arith, count_least facts lawful old.high.items, count_least facts lawful old.low.items);
      }

  -- the turn's end
  pub ends_soon : (facts : X → Facts) (old mid : PortState X) (time moment : ℕ) (c : Priority)
      (w : Waiting X) (n : ℕ) (d : Due) → Begins facts old mid time moment c w n d →
      (d.time ≤ moment + 1230400) × (moment ≤ max w.time old.free)
  ends_soon facts old mid time moment c w n d b =
      let st = stays c old mid b.changes in
      let law = b.lawful w.item in
      let rate : mid.byte_ns ≤ 800 = let e = st.byte_ns in let r = b.sound.rate in omega arith in
      let is : moment ≡ max w.time old.free = start_is old c moment w (queue_of c mid) b.chosen b.front in
      let end : d.time ≡ moment + lasting mid.byte_ns (is_too_old facts w moment)
      (facts w.item).bytes = ap (λ z. z.time) b.due in (
        omega (
          arith,
          lasting_short mid.byte_ns (facts w.item).bytes (is_too_old facts w moment)
              law.most rate,
        ),
        omega arith,
      )

  pub begun_sound : (facts : X → Facts) (old mid : PortState X) (time moment : ℕ) (c : Priority)
      (w : Waiting X) (n : ℕ) (d : Due) → Begins facts old mid time moment c w n d
      → IsPortSound facts (begun mid c w.item n d)
  begun_sound facts old mid time moment c w n d b =
      let st = stays c old mid b.changes in
      let k = counts facts old mid c w b.lawful b.sound b.front b.changes in
      let soon = ends_soon facts old mid time moment c w n d b in
      let bytes : n ≡ (facts w.item).bytes = b.bytes in
      let waits : mid.waiting ≡ old.waiting = st.waiting in
      let sums = k.sums in
      let lengths = k.lengths in
      let few = k.few in
      let came = k.time in
      let buffer : mid.buffer ≡ old.buffer = st.buffer in
      let within : old.waiting ≤ old.buffer = b.sound.within in
      let clock : mid.clock ≡ time = st.clock ∙ b.clock in
      let before : moment < time = b.before in
      let ends : old.free + (length old.high.items + length old.low.items) * 1230400
      ≤ 1100000000000000 = b.sound.ends in
      record {
        rate = subst (λ (r : ℕ). (1 ≤ r) × (r ≤ 800)) (sym st.byte_ns) b.sound.rate;
        buffer = subst (λ (r : ℕ). r ≤ 4194304) (sym st.buffer) b.sound.buffer;
        waiting = omega arith;
        within = omega arith;
        high_room = let r = b.sound.high_room in let s = st.high_room in omega arith;
        low_room = let r = b.sound.low_room in let s = st.low_room in omega arith;
        high_times = k.high_times;
        low_times = k.low_times;
        soon = omega (arith, soon.0);
        ends = omega (arith, soon.0, soon.1);
      }

  pub begun_stands : (facts : X → Facts) (old mid : PortState X) (time moment : ℕ) (c : Priority)
      (w : Waiting X) (n : ℕ) (d : Due) → Begins facts old mid time moment c w n d → (h : PortHistory X)
      → h.time ≤ time → StandsFor facts old h → StandsFor facts (begun mid c w.item n d) (at h time)
  begun_stands facts old mid time moment c w n d b h le s =
      let st = stays c old mid b.changes in
      let k = counts facts old mid c w b.lawful b.sound b.front b.changes in
      let bytes : n ≡ (facts w.item).bytes = b.bytes in
      let waits : mid.waiting ≡ old.waiting = st.waiting in
      let sums = k.sums in
      let due : d ≡ due_from facts h.byte_ns w moment = b.due
      ∙ ap (λ m. due_from facts m w moment) (st.byte_ns ∙ s.byte_ns) in
      begin_stands facts old (begun mid c w.item n d) h time moment c w s le b.before b.idle
      b.chosen (front_is c b.front) (others_is c st.others)
      st.byte_ns st.buffer (st.clock ∙ b.clock) (ap (λ z. z.time) due)
      (ap (λ z. Some (left w.item c z)) due) (omega arith)
    where
      front_is : (e : Priority) → queue_of e old ≡ w ∷ queue_of e mid
          → queue_of e old ≡ w ∷ queue_of e (begun mid c w.item n d)
      front_is High e = e
      front_is Low e = e

      others_is : (e : Priority) → queue_of (other e) mid ≡ queue_of (other e) old
          → queue_of (other e) (begun mid c w.item n d) ≡ queue_of (other e) old
      others_is High e = e
      others_is Low e = e

  -- a turn that begins stays the one that is due
  pub begun_due : (facts : X → Facts) (old mid : PortState X) (time moment : ℕ) (c : Priority)
      (w : Waiting X) (n : ℕ) (d : Due) → Begins facts old mid time moment c w n d
      → due_of facts (begun mid c w.item n d) ≡ due_of facts old
  begun_due facts old mid time moment c w n d b =
      let st = stays c old mid b.changes in
      let first : slice_get (queue_of c old) 0 ≡ Some w = ap (λ ws. slice_get ws 0) b.front in
      let due : d ≡ due_from facts old.byte_ns w moment = b.due ∙ ap (λ m. due_from facts m w moment) st.byte_ns in
      due_busy facts (begun mid c w.item n d) (left w.item c d) refl
      ∙ (ap (λ z. Some z) due ∙ sym (due_idle facts old c moment w b.idle b.chosen first))

  pub begun_held : (facts : X → Facts) (old mid : PortState X) (time moment : ℕ) (c : Priority)
      (w : Waiting X) (n : ℕ) (d : Due) → Begins facts old mid time moment c w n d
      → frames_held (begun mid c w.item n d) ≡ frames_held old
  begun_held facts old mid time moment c w n d b =
      let k = counts facts old mid c w b.lawful b.sound b.front b.changes in
      let lengths = k.lengths in
      let none : sending_count old.sending ≡ 0 = ap (λ o. sending_count o) b.idle in
      omega arith

  -- the turn that is due is that of the front of the class that goes next
  due_is : (facts : X → Facts) (old mid : PortState X) (moment : ℕ) (c : Priority) (w : Waiting X)
      (d : Due) → old.sending ≡ None → choice_of old ≡ Some (c, moment)
      → queue_of c old ≡ w ∷ queue_of c mid → ChangesQueue c old mid → due_of facts old ≡ Some d
      → d ≡ due_from facts mid.byte_ns w moment
  due_is facts old mid moment c w d idle chosen front changes is =
      let first : slice_get (queue_of c old) 0 ≡ Some w = ap (λ ws. slice_get ws 0) front in
      let due = due_idle facts old c moment w idle chosen first in
      same_some d (due_from facts old.byte_ns w moment) (sym is ∙ due)
      ∙ ap (λ m. due_from facts m w moment) (sym (stays c old mid changes).byte_ns)
    where
      same_some : (a b : Due) → Some a ≡ Some b → a ≡ b
      same_some a b e = cc e

  -- a turn begins
  pub begun_advances : (facts : X → Facts) (old mid : PortState X) (c : Priority) (w : Waiting X)
      (n : ℕ) (d : Due) → ((x : X) → AreLawful (facts x)) → IsPortSound facts old
      → old.sending ≡ None → BeginsBefore old old.clock c → due_of facts old ≡ Some d
      → queue_of c old ≡ w ∷ queue_of c mid → ChangesQueue c old mid → n ≡ (facts w.item).bytes
      → Advances facts old (begun mid c w.item n d) old.clock
  begun_advances facts old mid c w n d lawful sound idle begins due front changes bytes =
      let moment = begins.0 in
      let b : Begins facts old mid old.clock moment c w n d = record {
        lawful = lawful;
        sound = sound;
        clock = refl;
        before = begins.2;
        idle = idle;
        chosen = begins.1;
        front = front;
        changes = changes;
        bytes = bytes;
        due = due_is facts old mid moment c w d idle begins.1 front changes due;
      } in
      record {
        sound = begun_sound facts old mid old.clock moment c w n d b;
        clock = (stays c old mid changes).clock;
        stands = λ h s. begun_stands facts old mid old.clock moment c w n d b h
            (let e = s.clock in omega arith) s;
        chosen = λ e m none is. absurd (cc none);
        due = begun_due facts old mid old.clock moment c w n d b;
        held = begun_held facts old mid old.clock moment c w n d b;
      }

  -- time passes, in which no turn begins
  pub clock_advances : (facts : X → Facts) (old : PortState X) (time : ℕ) → IsPortSound facts old
      → old.clock ≤ time
      → ((c : Priority) (moment : ℕ) → old.sending ≡ None → choice_of old ≡ Some (c, moment)
      → time ≤ moment) → Advances facts old (record old { clock = time }) time
  clock_advances facts old time sound later chosen = record {
    sound = clock_sound facts old time sound later;
    clock = refl;
    stands = λ h s. idle_stands facts old h time s (let e = s.clock in omega arith);
    chosen = chosen;
    due = clock_due facts old time;
    held = refl;
  }

  -- time passes, and then a turn begins
  pub later_advances : (facts : X → Facts) (old new : PortState X) (time : ℕ) → old.clock ≤ time
      → Advances facts (record old { clock = time }) new time → Advances facts old new time
  later_advances facts old new time later a = record {
    sound = a.sound;
    clock = a.clock;
    stands = λ h s. a.stands (at h time)
        (idle_stands facts old h time s (let e = s.clock in omega arith));
    chosen = a.chosen;
    due = a.due ∙ clock_due facts old time;
    held = a.held;
  }
