-- The times of a sound port fit.
use Rattle.std.proofs.Common.{IfSome, Bool, true, false, if◌then◌else◌, is_some, ◌≡◌, ℕ, ◌+◌, ◌*◌}
use Rattle.std.proofs.Common.{◌<◌, ◌≤◌, ◌^◌, List, [], ◌∷◌, length, Option, Some, None, sum_by}
use Rattle.std.proofs.Common.{refl, sym, ap, subst, arith, max}
use Rattle.std.specs.List.{AllByRecursion, slice_get}
use Rattle.std.proofs.lemmas.List.Sums.{sum_by-cons}
use Rattle.std.proofs.Math.Nat.{mul-le-mul, mul-le-mul_left}
use Rattle.afdx_frame.specs.declared.link.Priority.{Priority}
use Rattle.afdx_frame.specs.declared.link.Priority.TheVariants.{High, Low}
use Rattle.afdx_port.specs.declared.left.Due.{Due}
use Rattle.afdx_port.specs.declared.port_state.Waiting.{Waiting}
use Rattle.afdx_port.specs.declared.port_state.PortState.{PortState}
use Rattle.afdx_port.specs.Facts.{Facts, AreLawful}
use Rattle.afdx_port.specs.Schedule.{lasting}
use Rattle.afdx_port.specs.Due.{IsAfter}
use Rattle.afdx_port.specs.Held.{ready, choice, choice_of, queue_of, is_too_old, due_of, IsQuiet}
use Rattle.afdx_port.specs.Sound.{ChangesQueue, IsPortSound}
use Rattle.afdx_port.proofs.QueueLemmas.{choice_high, choice_low}
use Rattle.afdx_port.proofs.DueLemmas.{due_idle, due_nothing, has_front, not_empty}
use Rattle.afdx_port.proofs.HistoryLemmas.{other}

-- a turn takes at most 1,230,400 ns
pub lasting_short : (byte_ns bytes : ℕ) (o : Bool) → bytes ≤ 1518 → byte_ns ≤ 800 → lasting byte_ns o bytes ≤ 1230400
lasting_short byte_ns bytes true b n = omega arith
lasting_short byte_ns bytes false b n = let h : (bytes + 20) * byte_ns ≤ (bytes + 20) * 800 =
    mul-le-mul_left (bytes + 20) n in omega arith

-- a slot takes some time, and a drop is given after its moment
pub given_later : (byte_ns bytes t : ℕ) (o : Bool) → 1 ≤ byte_ns
    → t < t + lasting byte_ns o bytes + (if o then 1 else 0)
given_later byte_ns bytes t true rate = omega arith
given_later byte_ns bytes t false rate =
    let a : 1 ≤ bytes + 20 = omega arith in
    let some : 1 * 1 ≤ (bytes + 20) * byte_ns = mul-le-mul a rate in
    omega arith

pub busy_from_test : {Y : Type 0} (o : Option Y) (b : Bool) → b ≡ is_some o → b ≡ true → o ≡ None
    → ⊥
busy_from_test None b e f none = cc
busy_from_test (Some y) b e f none = cc none

module _ {X : Type 0} where
  -- frames have at least 64 bytes
  pub count_least : (facts : X → Facts) → ((x : X) → AreLawful (facts x)) → (ws : List (Waiting X))
      → 64 * length ws ≤ sum_by (λ w. (facts w.item).bytes) ws
  count_least facts lawful [] = omega arith
  count_least facts lawful (w ∷ ws) = let l = lawful w.item in
      omega (arith, count_least facts lawful ws, l.least, sum_by-cons (λ v. (facts v.item).bytes) w ws)

  -- the class that is chosen has a frame, and its turn begins when the frame has come and the line is free
  pub start_is : (p : PortState X) (c : Priority) (moment : ℕ) (w : Waiting X) (ws : List (Waiting X))
      → choice_of p ≡ Some (c, moment) → queue_of c p ≡ w ∷ ws → moment ≡ max w.time p.free
  start_is p High moment w ws e q =
      let P : List (Waiting X) → Type 0 = λ vs. choice (ready p.free vs) (ready p.free p.low.items)
      ≡ Some (High, moment) in
      (choice_high (max w.time p.free) (ready p.free p.low.items) moment (subst P q e)).0
  start_is p Low moment w ws e q =
      let P : List (Waiting X) → Type 0 = λ vs. choice (ready p.free p.high.items) (ready p.free vs)
      ≡ Some (Low, moment) in
      (choice_low (ready p.free p.high.items) (max w.time p.free) moment (subst P q e)).0

  -- what stays where one queue changes
  pub record Stays (c : Priority) (old new : PortState X) : Type 0 where
    pub byte_ns : new.byte_ns ≡ old.byte_ns
    pub buffer : new.buffer ≡ old.buffer
    pub clock : new.clock ≡ old.clock
    pub free : new.free ≡ old.free
    pub sending : new.sending ≡ old.sending
    pub waiting : new.waiting ≡ old.waiting
    pub others : queue_of (other c) new ≡ queue_of (other c) old
    pub high_room : new.high.capacity ≡ old.high.capacity
    pub low_room : new.low.capacity ≡ old.low.capacity

  pub stays : (c : Priority) (old new : PortState X) → ChangesQueue c old new → Stays c old new
  stays High old new h = record {
    byte_ns = ap (λ z. z.byte_ns) h.0;
    buffer = ap (λ z. z.buffer) h.0;
    clock = ap (λ z. z.clock) h.0;
    free = ap (λ z. z.free) h.0;
    sending = ap (λ z. z.sending) h.0;
    waiting = ap (λ z. z.waiting) h.0;
    others = ap (λ z. z.low.items) h.0;
    high_room = h.1;
    low_room = ap (λ z. z.low.capacity) h.0;
  }
  stays Low old new h = record {
    byte_ns = ap (λ z. z.byte_ns) h.0;
    buffer = ap (λ z. z.buffer) h.0;
    clock = ap (λ z. z.clock) h.0;
    free = ap (λ z. z.free) h.0;
    sending = ap (λ z. z.sending) h.0;
    waiting = ap (λ z. z.waiting) h.0;
    others = ap (λ z. z.high.items) h.0;
    high_room = ap (λ z. z.high.capacity) h.0;
    low_room = h.1;
  }

  pub clock_sound : (facts : X → Facts) (p : PortState X) (t : ℕ) → IsPortSound facts p → p.clock ≤ t
      → IsPortSound facts (record p { clock = t })
  clock_sound facts p t s le = record {
    rate = s.rate;
    buffer = s.buffer;
    waiting = s.waiting;
    within = s.within;
    high_room = s.high_room;
    low_room = s.low_room;
    high_times = s.high_times;
    low_times = s.low_times;
    soon = let k = s.soon in omega arith;
    ends = s.ends;
  }

  -- the next turn's moment, and its frame
  pub record IsTimely (p : PortState X) (w : Waiting X) (moment : ℕ) : Type 0 where
    pub came : w.time ≤ moment
    pub rate : p.byte_ns ≤ 800
    pub soon : moment ≤ 1100000000000000
    pub fits : moment + 1230400 < 2 ^ 64

  pub times_of : (facts : X → Facts) (p : PortState X) (c : Priority) → IsPortSound facts p
      → AllByRecursion (λ w. w.time ≤ 1000032768000000) (queue_of c p)
  times_of facts p High s = s.high_times
  times_of facts p Low s = s.low_times

  pub timely : (facts : X → Facts) (p : PortState X) (c : Priority) (moment : ℕ) (w : Waiting X)
      → IsPortSound facts p → choice_of p ≡ Some (c, moment) → slice_get (queue_of c p) 0 ≡ Some w
      → IsTimely p w moment
  timely facts p c moment w s chosen front = by_queue (queue_of c p) refl
    where
      by_queue : (ws : List (Waiting X)) → queue_of c p ≡ ws → IsTimely p w moment
      by_queue [] q = absurd (not_empty p c moment chosen q)
      by_queue (v ∷ vs) q =
          let same : v ≡ w = cc (q, front) in
          let is : moment ≡ max v.time p.free = start_is p c moment v vs chosen q in
          let time : v.time ≡ w.time = ap (λ z. z.time) same in
          let P : List (Waiting X) → Type 0 = λ ws. AllByRecursion (λ z. z.time ≤ 1000032768000000) ws in
          let times = subst P q (times_of facts p c s) in
          let early : v.time ≤ 1000032768000000 = times.0 in
          let ends = s.ends in
          record { came = omega arith; rate = s.rate.1; soon = omega arith; fits = omega arith }

  -- where nothing has begun and what is chosen begins at t or later, nothing is given by t
  pub idle_quiet : (facts : X → Facts) (p : PortState X) (t : ℕ) → 1 ≤ p.byte_ns → p.sending ≡ None
      → ((c : Priority) (moment : ℕ) → p.sending ≡ None → choice_of p ≡ Some (c, moment)
      → t ≤ moment) → IsQuiet facts p t
  idle_quiet facts p t rate none late = by_choice (choice_of p) refl
    where
      by_choice : (o : Option (Priority × ℕ)) → choice_of p ≡ o → IfSome (due_of facts p) (λ d. IsAfter t d)
      by_choice None chosen =
          let P : Option Due → Type 0 = λ o. IfSome o (λ d. IsAfter t d) in
          subst P (sym (due_nothing facts p none chosen)) tt
      by_choice (Some (c, moment)) chosen =
          let before : t ≤ moment = late c moment none chosen in
          let w = has_front p c moment chosen in
          let P : Option Due → Type 0 = λ o. IfSome o (λ d. IsAfter t d) in
          subst P (sym (due_idle facts p c moment w.0 none chosen (ap (λ ws. slice_get ws 0) w.2)))
          (omega (arith, given_later p.byte_ns (facts w.0.item).bytes moment (is_too_old facts w.0 moment) rate))
