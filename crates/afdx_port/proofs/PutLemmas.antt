-- A frame is put.
use Rattle.std.proofs.Common.{IfSome, ◌≡◌, ℕ, ◌+◌, ◌≤◌, List, [], ◌∷◌, ◌++◌, length, Option, Some}
use Rattle.std.proofs.Common.{None, sum_by, inl, inr, refl, sym, ap, subst, arith, ◌∙◌, max}
use Rattle.std.proofs.Common.{length-append, is_some, true, ◌<◌}
use Rattle.std.specs.Prelude.{Ok, Err}
use Rattle.std.specs.List.{AllByRecursion}
use Rattle.std.proofs.lemmas.List.Sums.{sum_by_push}
use Rattle.std.proofs.lemmas.Bool.{cases_lt}
use Rattle.afdx_frame.specs.declared.link.Priority.{Priority}
use Rattle.afdx_frame.specs.declared.link.Priority.TheVariants.{High, Low}
use Rattle.afdx_port.specs.declared.left.Left.{Left}
use Rattle.afdx_port.specs.declared.left.Due.{Due}
use Rattle.afdx_port.specs.declared.port_state.Waiting.{Waiting}
use Rattle.afdx_port.specs.declared.port_state.PortState.{PortState}
use Rattle.afdx_port.specs.Facts.{Facts, AreLawful}
use Rattle.afdx_port.specs.Due.{IsAfter}
use Rattle.afdx_port.specs.Held.{frames_held, sending_count, ready, choice, choice_of, queue_of, due_of, IsQuiet}
use Rattle.afdx_port.specs.Sound.{HasRoom, ChangesQueue, IsPortSound}
use Rattle.afdx_port.specs.History.{PortHistory, at, with_put, entry_of, StandsFor}
use Rattle.afdx_port.specs.Calls.{Advances, Puts}
use Rattle.afdx_port.specs.Schedule.{Turn, IsSchedule, IsLost}
use Rattle.afdx_port.specs.ScheduleOf.{schedule_of}
use Rattle.afdx_port.proofs.TurnLemmas.{nat_lt-true, nat_lt-false}
use Rattle.afdx_port.proofs.QueueLemmas.{pair_same}
use Rattle.afdx_port.proofs.DueLemmas.{due, due_busy, quiet_stays}
use Rattle.afdx_port.proofs.HistoryLemmas.{other, put_stands, lost_from, not_lost}
use Rattle.afdx_port.proofs.ScheduleLemmas.{schedule_of_is}
use Rattle.afdx_port.proofs.SoundLemmas.{count_least, stays, idle_quiet}

pub late_high : (hi lo : Option ℕ) (t m : ℕ)
    → ((c : Priority) (moment : ℕ) → choice hi lo ≡ Some (c, moment) → t ≤ moment) → hi ≡ Some m → t ≤ m
late_high None lo t m late e = absurd (cc e)
late_high (Some h) None t m late e = let same : h ≡ m = cc e in let k = late High h refl in omega arith
late_high (Some h) (Some l) t m late e =
    let same : h ≡ m = cc e in
    elim (cases_lt l h) [
      | inl lt ↦ (let c = nat_lt-true l h lt in let k = late Low l (rw c refl) in omega arith)
      | inr ge ↦ (let c = nat_lt-false l h ge in let k = late High h (rw c refl) in omega arith)
    ]

pub late_low : (hi lo : Option ℕ) (t m : ℕ)
    → ((c : Priority) (moment : ℕ) → choice hi lo ≡ Some (c, moment) → t ≤ moment) → lo ≡ Some m → t ≤ m
late_low hi None t m late e = absurd (cc e)
late_low None (Some l) t m late e = let same : l ≡ m = cc e in let k = late Low l refl in omega arith
late_low (Some h) (Some l) t m late e =
    let same : l ≡ m = cc e in
    elim (cases_lt l h) [
      | inl lt ↦ (let c = nat_lt-true l h lt in let k = late Low l (rw c refl) in omega arith)
      | inr ge ↦ (let c = nat_lt-false l h ge in let k = late High h (rw c refl) in omega arith)
    ]

pub one_of : (hi lo : Option ℕ) (t : ℕ) (c : Priority) (moment : ℕ)
    → ((m : ℕ) → hi ≡ Some m → t ≤ m) → ((m : ℕ) → lo ≡ Some m → t ≤ m)
    → choice hi lo ≡ Some (c, moment) → t ≤ moment
one_of None None t c moment high low e = absurd (cc e)
one_of (Some h) None t c moment high low e = let k = (pair_same (High, h) (c, moment) e).1 in
    let b = high h refl in omega (arith, k)
one_of None (Some l) t c moment high low e = let k = (pair_same (Low, l) (c, moment) e).1 in let b =
    low l refl in omega (arith, k)
one_of (Some h) (Some l) t c moment high low e = elim (cases_lt l h) [
  | inl lt ↦ (let d = nat_lt-true l h lt in let f = rw d at e in let k =
      (pair_same (Low, l) (c, moment) f).1 in let b = low l refl in omega (arith, k))
  | inr ge ↦ (let d = nat_lt-false l h ge in let f = rw d at e in let k =
      (pair_same (High, h) (c, moment) f).1 in let b = high h refl in omega (arith, k))
]

module _ {X : Type 0} where
  pub times_push : (t : ℕ) (ws : List (Waiting X)) (w : Waiting X)
      → AllByRecursion (λ v. v.time ≤ t) ws → w.time ≤ t → AllByRecursion (λ v. v.time ≤ t) (ws ++ w ∷ [])
  times_push t [] w h le = (le, tt)
  times_push t (v ∷ vs) w h le = (h.0, times_push t vs w h.1 le)

  pub has_room : (facts : X → Facts) (p : PortState X) (c : Priority) (n : ℕ)
      → ((x : X) → AreLawful (facts x)) → IsPortSound facts p → p.waiting + n ≤ p.buffer → 64 ≤ n
      → HasRoom c p
  has_room facts p High n lawful s fits least =
      let all = s.waiting in
      let room = s.high_room in
      let count = count_least facts lawful p.high.items in
      omega arith
  has_room facts p Low n lawful s fits least =
      let all = s.waiting in
      let room = s.low_room in
      let count = count_least facts lawful p.low.items in
      omega arith

  -- what is known where a frame is put
  pub record Pushes (facts : X → Facts) (old mid : PortState X) (time : ℕ) (c : Priority) (x : X) (n : ℕ) : Type 0 where
    pub lawful : (y : X) → AreLawful (facts y)
    pub sound : IsPortSound facts old
    pub clock : old.clock ≡ time
    pub limit : time ≤ 1000032768000000
    pub fits : old.waiting + n ≤ old.buffer
    pub queue : queue_of c mid ≡ queue_of c old ++ record { time = time; item = x } ∷ []
    pub changes : ChangesQueue c old mid
    pub bytes : n ≡ (facts x).bytes

  pub record Pushed (facts : X → Facts) (old mid : PortState X) (n : ℕ) : Type 0 where
    pub sums : sum_by (λ v. (facts v.item).bytes) mid.high.items + sum_by
        (λ v. (facts v.item).bytes) mid.low.items ≡ old.waiting + n
    pub lengths : length mid.high.items + length mid.low.items ≡ (length old.high.items + length old.low.items) + 1
    pub high_times : AllByRecursion (λ v. v.time ≤ 1000032768000000) mid.high.items
    pub low_times : AllByRecursion (λ v. v.time ≤ 1000032768000000) mid.low.items

  pub pushed : (facts : X → Facts) (old mid : PortState X) (time : ℕ) (c : Priority) (x : X) (n : ℕ)
      → Pushes facts old mid time c x n → Pushed facts old mid n
  pushed facts old mid time High x n p =
      let st = stays High old mid p.changes in
      let P : List (Waiting X) → Type 0 = λ ws. AllByRecursion (λ v. v.time ≤ 1000032768000000) ws in
      let w : Waiting X = record { time = time; item = x } in
      let own : mid.high.items ≡ old.high.items ++ record { time = time; item = x } ∷ [] = p.queue in
      let sum_own : sum_by (λ v. (facts v.item).bytes) mid.high.items
      ≡ sum_by (λ v. (facts v.item).bytes) old.high.items + (facts x).bytes =
      ap (λ ws. sum_by (λ v. (facts v.item).bytes) ws) own
      ∙ sum_by_push (λ v. (facts v.item).bytes) old.high.items (record { time = time; item = x }) in
      let sum_other : sum_by (λ v. (facts v.item).bytes) mid.low.items
      ≡ sum_by (λ v. (facts v.item).bytes) old.low.items =
      ap (λ ws. sum_by (λ v. (facts v.item).bytes) ws) st.others in
      let all = p.sound.waiting in
      let bytes = p.bytes in
      let one : length mid.high.items ≡ length old.high.items + 1 =
      omega (
        arith,
        ap length own,
        length-append old.high.items
            (record { time = time; item = x } ∷ []),
      ) in
      let same : length mid.low.items ≡ length old.low.items = ap length st.others in
      record {
        sums = omega arith;
        lengths = omega arith;
        high_times = subst P (sym own)
            (times_push 1000032768000000 old.high.items (record { time = time; item = x })
            p.sound.high_times p.limit);
        low_times = subst P (sym st.others) p.sound.low_times;
      }
  pushed facts old mid time Low x n p =
      let st = stays Low old mid p.changes in
      let P : List (Waiting X) → Type 0 = λ ws. AllByRecursion (λ v. v.time ≤ 1000032768000000) ws in
      let own : mid.low.items ≡ old.low.items ++ record { time = time; item = x } ∷ [] = p.queue in
      let sum_own : sum_by (λ v. (facts v.item).bytes) mid.low.items
      ≡ sum_by (λ v. (facts v.item).bytes) old.low.items + (facts x).bytes =
      ap (λ ws. sum_by (λ v. (facts v.item).bytes) ws) own
      ∙ sum_by_push (λ v. (facts v.item).bytes) old.low.items (record { time = time; item = x }) in
      let sum_other : sum_by (λ v. (facts v.item).bytes) mid.high.items
      ≡ sum_by (λ v. (facts v.item).bytes) old.high.items =
      ap (λ ws. sum_by (λ v. (facts v.item).bytes) ws) st.others in
      let all = p.sound.waiting in
      let bytes = p.bytes in
      let one : length mid.low.items ≡ length old.low.items + 1 =
      omega (
        arith,
        ap length own,
        length-append old.low.items
            (record { time = time; item = x } ∷ []),
      ) in
      let same : length mid.high.items ≡ length old.high.items = ap length st.others in
      record {
        sums = omega arith;
        lengths = omega arith;
        high_times = subst P (sym st.others) p.sound.high_times;
        low_times = subst P (sym own)
            (times_push 1000032768000000 old.low.items (record { time = time; item = x })
            p.sound.low_times p.limit);
      }

  pub pushed_sound : (facts : X → Facts) (old mid : PortState X) (time : ℕ) (c : Priority) (x : X)
      (n : ℕ) → Pushes facts old mid time c x n → IsPortSound facts (record mid { waiting = mid.waiting + n })
  pushed_sound facts old mid time c x n p =
      let st = stays c old mid p.changes in
      let k = pushed facts old mid time c x n p in
      let sums = k.sums in
      let lengths = k.lengths in
      let waits : mid.waiting ≡ old.waiting = st.waiting in
      let all = p.sound.waiting in
      let fits = p.fits in
      let limit = p.limit in
      let buffer = p.sound.buffer in
      let free : mid.free ≡ old.free = st.free in
      let soon : old.free ≤ old.clock + 1230400 = p.sound.soon in
      let clock : old.clock ≡ time = p.clock in
      let same : mid.clock ≡ old.clock = st.clock in
      let room : mid.buffer ≡ old.buffer = st.buffer in
      record {
        rate = subst (λ (r : ℕ). (1 ≤ r) × (r ≤ 800)) (sym st.byte_ns) p.sound.rate;
        buffer = omega arith;
        waiting = omega arith;
        within = omega arith;
        high_room = let r = p.sound.high_room in let s = st.high_room in omega arith;
        low_room = let r = p.sound.low_room in let s = st.low_room in omega arith;
        high_times = k.high_times;
        low_times = k.low_times;
        soon = omega arith;
        ends = omega (arith, count_least facts p.lawful old.high.items, count_least facts p.lawful old.low.items);
      }

  pub pushed_stands : (facts : X → Facts) (old mid : PortState X) (time : ℕ) (c : Priority) (x : X)
      (n : ℕ) → Pushes facts old mid time c x n → (h : PortHistory X) → StandsFor facts old (at h time) →
      StandsFor facts (record mid { waiting = mid.waiting + n }) (with_put h (entry_of facts time c x))
  pushed_stands facts old mid time c x n p h s =
      let st = stays c old mid p.changes in
      let waits : mid.waiting ≡ old.waiting = st.waiting in
      let bytes : n ≡ (facts x).bytes = p.bytes in
      put_stands facts old (record mid { waiting = mid.waiting + n }) (at h time) c
      (record { time = time; item = x }) s refl (own_is c p.queue) (others_is c st.others)
      st.byte_ns st.buffer st.clock st.free st.sending (omega arith)
    where
      own_is : (d : Priority) → queue_of d mid ≡ queue_of d old ++ record { time = time; item = x }
          ∷ [] → queue_of d (record mid { waiting = mid.waiting + n }) ≡ queue_of d old
          ++ record { time = time; item = x } ∷ []
      own_is High e = e
      own_is Low e = e

      others_is : (d : Priority) → queue_of (other d) mid ≡ queue_of (other d) old
          → queue_of (other d) (record mid { waiting = mid.waiting + n }) ≡ queue_of (other d) old
      others_is High e = e
      others_is Low e = e

  -- both fronts can be sent no sooner than what is chosen
  pub fronts_late : (p : PortState X) (t : ℕ)
      → ((c : Priority) (moment : ℕ) → choice_of p ≡ Some (c, moment) → t ≤ moment)
      → (c : Priority) (m : ℕ) → ready p.free (queue_of c p) ≡ Some m → t ≤ m
  fronts_late p t late High m e = late_high (ready p.free p.high.items) (ready p.free p.low.items) t m late e
  fronts_late p t late Low m e = late_low (ready p.free p.high.items) (ready p.free p.low.items) t m late e

  pub choice_late : (p : PortState X) (t : ℕ)
      → ((c : Priority) (m : ℕ) → ready p.free (queue_of c p) ≡ Some m → t ≤ m)
      → (c : Priority) (moment : ℕ) → choice_of p ≡ Some (c, moment) → t ≤ moment
  choice_late p t late c moment e = one_of (ready p.free p.high.items) (ready p.free p.low.items) t
      c moment (λ m k. late High m k) (λ m k. late Low m k) e

  pub ready_push : (free t : ℕ) (ws : List (Waiting X)) (x : X) (m : ℕ)
      → ((k : ℕ) → ready free ws ≡ Some k → t ≤ k)
      → ready free (ws ++ record { time = t; item = x } ∷ []) ≡ Some m → t ≤ m
  ready_push free t [] x m late e = let same : max t free ≡ m = cc e in omega arith
  ready_push free t (w ∷ ws) x m late e = late m e

  pub pushed_quiet : (facts : X → Facts) (old mid : PortState X) (time : ℕ) (c : Priority) (x : X)
      (n : ℕ) → Pushes facts old mid time c x n → IsQuiet facts old time →
      ((d : Priority) (moment : ℕ) → old.sending ≡ None → choice_of old ≡ Some (d, moment)
      → time ≤ moment) → IsQuiet facts (record mid { waiting = mid.waiting + n }) time
  pushed_quiet facts old mid time c x n p q late = by_sending old.sending refl
    where
      queues : (b : Priority) → queue_of b mid ≡ queue_of b old ++ record { time = time; item = x }
          ∷ [] → queue_of (other b) mid ≡ queue_of (other b) old → mid.free ≡ old.free →
          ((d : Priority) (m : ℕ) → ready old.free (queue_of d old) ≡ Some m → time ≤ m)
          → (d : Priority) (m : ℕ) → ready mid.free (queue_of d mid) ≡ Some m → time ≤ m
      queues High own others free below High m e =
          ready_push old.free time old.high.items x m (λ k f. below High k f)
          (sym (ap (λ f. ready f (old.high.items ++ record { time = time; item = x } ∷ [])) free)
          ∙ (sym (ap (λ ws. ready mid.free ws) own) ∙ e))
      queues High own others free below Low m e =
          below Low m (sym (ap (λ f. ready f old.low.items) free)
          ∙ (sym (ap (λ ws. ready mid.free ws) others) ∙ e))
      queues Low own others free below Low m e =
          ready_push old.free time old.low.items x m (λ k f. below Low k f)
          (sym (ap (λ f. ready f (old.low.items ++ record { time = time; item = x } ∷ [])) free)
          ∙ (sym (ap (λ ws. ready mid.free ws) own) ∙ e))
      queues Low own others free below High m e =
          below High m (sym (ap (λ f. ready f old.high.items) free)
          ∙ (sym (ap (λ ws. ready mid.free ws) others) ∙ e))

      by_sending : (o : Option (Left X)) → old.sending ≡ o
          → IfSome (due_of facts (record mid { waiting = mid.waiting + n })) (λ d. IsAfter time d)
      by_sending None e =
          let st = stays c old mid p.changes in
          let rate : 1 ≤ mid.byte_ns = let k = st.byte_ns in let r = p.sound.rate in omega arith in
          idle_quiet facts (record mid { waiting = mid.waiting + n }) time rate (st.sending ∙ e)
          (λ d moment none chosen.
          choice_late mid time (queues c p.queue st.others st.free
          (fronts_late old time (λ b s k. late b s e k))) d moment chosen)
      by_sending (Some l) e =
          let st = stays c old mid p.changes in
          let P : Option Due → Type 0 = λ o. IfSome o (λ d. IsAfter time d) in
          let before = due_busy facts old l e in
          let after = due_busy facts (record mid { waiting = mid.waiting + n }) l (st.sending ∙ e) in
          let same : due_of facts (record mid { waiting = mid.waiting + n }) ≡ due_of facts old =
          after ∙ (ap (λ m. Some (due m l.too_old)) st.free ∙ sym before) in
          subst P (sym same) q

  pub pushed_held : (facts : X → Facts) (old mid : PortState X) (time : ℕ) (c : Priority) (x : X)
      (n : ℕ) → Pushes facts old mid time c x n
      → frames_held (record mid { waiting = mid.waiting + n }) ≡ frames_held old + 1
  pushed_held facts old mid time c x n p =
      let st = stays c old mid p.changes in
      let k = pushed facts old mid time c x n p in
      let lengths = k.lengths in
      let same : sending_count mid.sending ≡ sending_count old.sending = ap (λ o. sending_count o) st.sending in
      omega arith

  -- while a turn has begun, no put changes what is due
  pub pushed_due : (facts : X → Facts) (old mid : PortState X) (time : ℕ) (c : Priority) (x : X)
      (n : ℕ) → Pushes facts old mid time c x n → is_some mid.sending ≡ true
      → due_of facts (record mid { waiting = mid.waiting + n }) ≡ due_of facts old
  pushed_due facts old mid time c x n p busy = by mid.sending refl busy
    where
      by : (o : Option (Left X)) → mid.sending ≡ o → is_some o ≡ true
          → due_of facts (record mid { waiting = mid.waiting + n }) ≡ due_of facts old
      by None e none = absurd (cc none)
      by (Some l) e some =
          let st = stays c old mid p.changes in
          due_busy facts (record mid { waiting = mid.waiting + n }) l e
          ∙ ap (λ t. Some (due t l.too_old)) st.free
          ∙ sym (due_busy facts old l (sym st.sending ∙ e))

  -- a frame that has room is taken
  pub taken_puts : {E : Type 0} (facts : X → Facts) (old p mid : PortState X) (time : ℕ) (c : Priority)
      (x : X) (n : ℕ) (e : E) → Advances facts old p time → IsQuiet facts old time
      → Pushes facts p mid time c x n →
      Puts facts old (record mid { waiting = mid.waiting + n }) time c x (Ok e)
  taken_puts facts old p mid time c x n e a quiet q = record {
    ok = λ h st. pushed_stands facts p mid time c x n q h (a.stands h st);
    err = λ h st. tt;
    back = tt;
    lost = λ h st. (
      λ err. cc err,
      λ lost. absurd (fits h (schedule_of h.byte_ns h.entries) st
          (schedule_of_is h.byte_ns h.entries st.in_order) lost),
    );
    lost_by_any = λ h turns st all. (λ err. cc err, λ lost. absurd (fits h turns st all lost));
    quiet = pushed_quiet facts p mid time c x n q (quiet_stays facts old p time a.due quiet) a.chosen;
    held = let held = pushed_held facts p mid time c x n q in let before = a.held in omega (arith, held, before);
    clock = (stays c p mid q.changes).clock ∙ a.clock;
  }
    where
      fits : (h : PortHistory X) (turns : List (Turn X)) → StandsFor facts old h
          → IsSchedule h.byte_ns h.entries turns
          → IsLost h.buffer h.entries turns time (facts x).bytes → ⊥
      fits h turns st all lost =
          not_lost facts p h time (facts x).bytes turns (a.stands h st)
          (quiet_stays facts old p time a.due quiet) a.chosen all
          (let e = q.bytes in let fit = q.fits in omega (arith, e, fit)) lost

  -- one that hasn't is lost
  pub lost_puts : {E : Type 0} (facts : X → Facts) (old p : PortState X) (time : ℕ) (c : Priority) (x : X)
      → Advances facts old p time → IsQuiet facts old time → p.buffer < p.waiting + (facts x).bytes →
      Puts {E = E} facts old p time c x (Err x)
  lost_puts facts old p time c x a quiet over = record {
    ok = λ h st. tt;
    err = a.stands;
    back = refl;
    lost = λ h st. (
      λ err. overflows h (schedule_of h.byte_ns h.entries) st (schedule_of_is h.byte_ns h.entries st.in_order),
      λ lost. refl,
    );
    lost_by_any = λ h turns st all. (λ err. overflows h turns st all, λ lost. refl);
    quiet = quiet_stays facts old p time a.due quiet;
    held = a.held;
    clock = a.clock;
  }
    where
      overflows : (h : PortHistory X) (turns : List (Turn X)) → StandsFor facts old h
          → IsSchedule h.byte_ns h.entries turns → IsLost h.buffer h.entries turns time (facts x).bytes
      overflows h turns st all =
          lost_from facts p h time (facts x).bytes turns (a.stands h st)
          (quiet_stays facts old p time a.due quiet) a.chosen all over
