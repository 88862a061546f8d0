-- A frame is taken, or none.
use Rattle.std.proofs.Common.{IfSome, IfNone, Bool, true, false, if◌then◌else◌, ◌≡◌, ℕ, ◌+◌, ◌<◌}
use Rattle.std.proofs.Common.{◌≤◌, List, [], ◌∷◌, Option, Some, None, inl, inr, refl, sym, ap}
use Rattle.std.proofs.Common.{subst, arith, ◌∙◌, max}
use Rattle.std.specs.Prelude.{MatchOption, is_some}
use Rattle.std.specs.List.{AllByRecursion, slice_get}
use Rattle.std.proofs.lemmas.Option.{slice_get_cases}
use Rattle.std.proofs.lemmas.Bool.{cases_lt}
use Rattle.afdx_frame.specs.declared.link.Priority.{Priority}
use Rattle.afdx_frame.specs.declared.link.Priority.TheVariants.{High, Low}
use Rattle.afdx_port.specs.declared.left.Left.{Left}
use Rattle.afdx_port.specs.declared.left.Due.{Due}
use Rattle.afdx_port.specs.declared.port_state.Waiting.{Waiting}
use Rattle.afdx_port.specs.declared.port_state.PortState.{PortState}
use Rattle.afdx_port.specs.Facts.{Facts, AreLawful}
use Rattle.afdx_port.specs.Schedule.{Entry, Turn, has_turn, end_of, lasting, IsWithoutTurn, IsNext}
use Rattle.afdx_port.specs.Schedule.{AreTurns, IsSchedule}
use Rattle.afdx_port.specs.Due.{given_at, IsAfter, IsBy}
use Rattle.afdx_port.specs.Held.{ready, choice, choice_of, queue_of, is_too_old, due_from, due_of, IsQuiet}
use Rattle.afdx_port.specs.Held.{frames_held, sending_count}
use Rattle.afdx_port.specs.Sound.{IsPortSound}
use Rattle.afdx_port.specs.History.{PortHistory, at, due_at, IsQueue, HasBegun, StandsFor, Gives}
use Rattle.afdx_port.specs.Calls.{Advances, Takes}
use Rattle.afdx_port.proofs.TurnLemmas.{priority_cases, nat_lt-true, nat_lt-false}
use Rattle.afdx_port.proofs.DueLemmas.{due, due_idle, due_busy, due_nothing, has_front, quiet_after, quiet_stays, clock_due}
use Rattle.afdx_port.proofs.HistoryLemmas.{taken_turns, waited_stands}
use Rattle.afdx_port.proofs.BeginLemmas.{clock_advances}
use Rattle.afdx_port.proofs.SoundLemmas.{lasting_short, timely, idle_quiet}

choice_some_high : (n : ℕ) (lo : Option ℕ) → choice (Some n) lo ≡ None → ⊥
choice_some_high n None e = cc e
choice_some_high n (Some l) e = elim (cases_lt l n) [
  | inl lt ↦ (let c = nat_lt-true l n lt in let f = rw c at e in cc f)
  | inr ge ↦ (let c = nat_lt-false l n ge in let f = rw c at e in cc f)
]

choice_some_low : (hi : Option ℕ) (n : ℕ) → choice hi (Some n) ≡ None → ⊥
choice_some_low None n e = cc e
choice_some_low (Some h) n e = choice_some_high h (Some n) e

module _ {X : Type 0} where
  -- the frame of the turn that has begun is taken
  pub take_gives : (facts : X → Facts) (p : PortState X) (h : PortHistory X) (until : ℕ) (l : Left X)
      → StandsFor facts p (at h until) → p.sending ≡ Some l → p.free ≤ until
      → Gives facts h until l (record p { sending = None })
  take_gives facts p h until l st is le =
      let P : Option (Left X) → Type 0 = λ o. HasBegun o h.taken st.begun in
      let b : HasBegun (Some l) h.taken st.begun = subst P is st.has_begun in
      let Q : List (Turn X) → Type 0 = λ zs. AreTurns h.byte_ns h.entries zs in
      let are : AreTurns h.byte_ns h.entries (b.0 ∷ h.taken) = subst Q b.1 st.are_turns in
      let S : List (Turn X) → Type 0 = λ zs. AllByRecursion (λ s. s.moment < until) zs in
      let started : AllByRecursion (λ s. s.moment < until) (b.0 ∷ h.taken) = subst S b.1 st.started in
      let end : p.free ≡ b.0.end = st.free ∙ ap (λ zs. end_of zs) b.1 in
      record {
        turn = b.0;
        next = are.0;
        in_time = by_kind b.0.too_old b.0.moment b.0.end b.0.entry.bytes are.0.lasts started.0 (omega arith);
        is = b.2;
        stands = record {
          byte_ns = st.byte_ns;
          buffer = st.buffer;
          clock = st.clock;
          begun = st.begun;
          has_begun = b.1;
          are_turns = st.are_turns;
          started = st.started;
          free = st.free;
          high = st.high;
          low = st.low;
          waiting = st.waiting;
          in_order = st.in_order;
          come = st.come;
        };
      }
    where
      by_kind : (o : Bool) (moment end bytes : ℕ) → end ≡ moment + lasting h.byte_ns o bytes
          → moment < until → end ≤ until → end + (if o then 1 else 0) ≤ until
      by_kind true moment end bytes lasts before le = omega arith
      by_kind false moment end bytes lasts before le = omega arith

  -- the clauses of a take, by what was being sent
  take_some : (facts : X → Facts) (p : PortState X) (h : PortHistory X) (until : ℕ)
      (o after : Option (Left X)) → StandsFor facts p (at h until) → p.free ≤ until → o ≡ p.sending
      → after ≡ None →
      IfSome o (λ l. Gives facts h until l (record p { sending = after }))
  take_some facts p h until None after st le is gone = tt
  take_some facts p h until (Some l) after st le is gone =
      let P : Option (Left X) → Type 0 = λ a. Gives facts h until l (record p { sending = a }) in
      subst P (sym gone) (take_gives facts p h until l st (sym is) le)

  take_kept : (facts : X → Facts) (p : PortState X) (h : PortHistory X) (until : ℕ)
      (o after : Option (Left X)) → StandsFor facts p (at h until) → o ≡ p.sending → after ≡ None →
      IfNone o (StandsFor facts (record p { sending = after }) (at h until))
  take_kept facts p h until None after st is gone =
      let P : Option (Left X) → Type 0 = λ a. StandsFor facts (record p { sending = a }) (at h until) in
      subst P (sym is ∙ sym gone) st
  take_kept facts p h until (Some l) after st is gone = tt

  take_due : (facts : X → Facts) (old p : PortState X) (o after : Option (Left X))
      → due_of facts p ≡ due_of facts old → o ≡ p.sending → after ≡ None →
      IfNone o (due_of facts (record p { sending = after }) ≡ due_of facts old)
  take_due facts old p None after due is gone =
      let P : Option (Left X) → Type 0 = λ a. due_of facts (record p { sending = a }) ≡ due_of facts old in
      subst P (sym is ∙ sym gone) due
  take_due facts old p (Some l) after due is gone = tt

  take_held : (old p : PortState X) (o after : Option (Left X)) → frames_held p ≡ frames_held old
      → o ≡ p.sending → after ≡ None →
      MatchOption o (frames_held (record p { sending = after }) ≡ frames_held old)
      (λ _. frames_held (record p { sending = after }) + 1 ≡ frames_held old)
  take_held old p None after same is gone =
      let none = ap (λ z. sending_count z) (sym is) in
      let left = ap (λ z. sending_count z) gone in
      omega (arith, same, none, left)
  take_held old p (Some l) after same is gone =
      let one = ap (λ z. sending_count z) (sym is) in
      let left = ap (λ z. sending_count z) gone in
      omega (arith, same, one, left)

  take_quiet : (facts : X → Facts) (p : PortState X) (t : ℕ) (o after : Option (Left X))
      → 1 ≤ p.byte_ns → o ≡ p.sending → after ≡ None →
      ((c : Priority) (moment : ℕ) → p.sending ≡ None → choice_of p ≡ Some (c, moment) → t ≤ moment)
      → IfNone o (IsQuiet facts (record p { sending = after }) t)
  take_quiet facts p t None after rate is gone late =
      let P : Option (Left X) → Type 0 = λ a. IsQuiet facts (record p { sending = a }) t in
      subst P (sym is ∙ sym gone) (idle_quiet facts p t rate (sym is) late)
  take_quiet facts p t (Some l) after rate is gone late = tt

  take_no_more : (facts : X → Facts) (p : PortState X) (h : PortHistory X) (t : ℕ) (s : Turn X)
      (o : Option (Left X)) → 1 ≤ p.byte_ns → StandsFor facts p (at h t) → o ≡ p.sending →
      ((c : Priority) (moment : ℕ) → p.sending ≡ None → choice_of p ≡ Some (c, moment) → t ≤ moment)
      → IsNext h.byte_ns h.entries h.taken s → IfNone o (IsAfter t (due_at s))
  take_no_more facts p h t s None rate st is late n =
      quiet_after facts p (at h t) t s st (idle_quiet facts p t rate (sym is) late) n
  take_no_more facts p h t s (Some l) rate st is late n = tt

  -- nothing is due only where nothing is held
  nothing_held : (facts : X → Facts) (p : PortState X) → due_of facts p ≡ None → (p.sending ≡ None)
      × (p.high.items ≡ []) × (p.low.items ≡ [])
  nothing_held facts p none = by_parts p.sending p.high.items p.low.items refl refl refl
    where
      by_choice : (o : Option (Priority × ℕ)) → choice_of p ≡ o → p.sending ≡ None → choice_of p ≡ None
      by_choice None chosen e = chosen
      by_choice (Some (c, moment)) chosen e =
          let w = has_front p c moment chosen in
          let due = due_idle facts p c moment w.0 e chosen (ap (λ ws. slice_get ws 0) w.2) in
          absurd (cc (none, due))

      by_parts : (o : Option (Left X)) (highs lows : List (Waiting X)) → p.sending ≡ o
          → p.high.items ≡ highs → p.low.items ≡ lows → (p.sending ≡ None) × (p.high.items ≡ [])
          × (p.low.items ≡ [])
      by_parts (Some l) highs lows e h k = absurd (let due = due_busy facts p l e in cc (none, due))
      by_parts None [] [] e h k = (e, h, k)
      by_parts None (w ∷ ws) lows e h k =
          let P : List (Waiting X) → Type 0 = λ vs. choice (ready p.free vs) (ready p.free p.low.items) ≡ None in
          absurd (choice_some_high (max w.time p.free) (ready p.free p.low.items)
          (subst P h (by_choice (choice_of p) refl e)))
      by_parts None [] (w ∷ ws) e h k =
          let P : List (Waiting X) → Type 0 = λ vs. choice (ready p.free p.high.items) (ready p.free vs) ≡ None in
          absurd (choice_some_low (ready p.free p.high.items) (max w.time p.free)
          (subst P k (by_choice (choice_of p) refl e)))

  -- all that is held has its turn by this time
  due_bounded : (facts : X → Facts) (p : PortState X) (d : Due) → ((x : X) → AreLawful (facts x))
      → IsPortSound facts p → due_of facts p ≡ Some d → given_at d ≤ 1200000000000000
  due_bounded facts p d lawful s is = by_sending p.sending refl
    where
      by_kind : (o : Bool) (n : ℕ) → n ≤ 1100000001230400 → n + (if o then 1 else 0) ≤ 1200000000000000
      by_kind true n le = omega arith
      by_kind false n le = omega arith

      given_same : (e : Due) → due_of facts p ≡ Some e → given_at e ≤ 1200000000000000 → given_at d ≤ 1200000000000000
      given_same e due le = let same : e ≡ d = cc (is, due) in let P : Due
          → Type 0 = λ z. given_at z ≤ 1200000000000000 in subst P same le

      by_choice : (o : Option (Priority × ℕ)) → choice_of p ≡ o → p.sending ≡ None → given_at d ≤ 1200000000000000
      by_choice None chosen e = absurd (let due = due_nothing facts p e chosen in cc (is, due))
      by_choice (Some (c, moment)) chosen e =
          let w = has_front p c moment chosen in
          let front : slice_get (queue_of c p) 0 ≡ Some w.0 = ap (λ ws. slice_get ws 0) w.2 in
          let law = lawful w.0.item in
          let k = timely facts p c moment w.0 s chosen front in
          let soon : moment ≤ 1100000000000000 = k.soon in
          let short = lasting_short p.byte_ns (facts w.0.item).bytes (is_too_old facts w.0 moment) law.most k.rate in
          given_same (due_from facts p.byte_ns w.0 moment) (due_idle facts p c moment w.0 e chosen front)
          (by_kind (is_too_old facts w.0 moment)
          (moment + lasting p.byte_ns (is_too_old facts w.0 moment) (facts w.0.item).bytes)
          (omega (arith, short)))

      by_sending : (o : Option (Left X)) → p.sending ≡ o → given_at d ≤ 1200000000000000
      by_sending None e = by_choice (choice_of p) refl e
      by_sending (Some l) e =
          let ends = s.ends in
          given_same (record { time = p.free; too_old = l.too_old }) (due_busy facts p l e)
          (by_kind l.too_old p.free (omega arith))

  pub due_limit : (facts : X → Facts) (p : PortState X) → ((x : X) → AreLawful (facts x))
      → IsPortSound facts p → IfSome (due_of facts p) (λ d. given_at d ≤ 1200000000000000)
  due_limit facts p lawful s = by_due (due_of facts p) refl
    where
      by_due : (o : Option Due) → due_of facts p ≡ o → IfSome o (λ d. given_at d ≤ 1200000000000000)
      by_due None e = tt
      by_due (Some d) e = due_bounded facts p d lawful s e

  -- where nothing is held, no entry is without a turn
  none_left : (facts : X → Facts) (p : PortState X) (h : PortHistory X) (place : ℕ) (e : Entry X)
      → StandsFor facts p h → due_of facts p ≡ None → slice_get h.entries place ≡ Some e
      → has_turn h.taken place ≡ false → ⊥
  none_left facts p h place e st none stands without =
      let held = nothing_held facts p none in
      let P : Option (Left X) → Type 0 = λ o. HasBegun o h.taken st.begun in
      let taken : st.begun ≡ h.taken = subst P held.0 st.has_begun in
      let own : IsWithoutTurn h.entries st.begun place e =
      record { stands = stands; without = ap (λ zs. has_turn zs place) taken ∙ without } in
      let H : List (Waiting X) → Type 0 = λ ws. IsQueue facts h.entries st.begun High 0 ws in
      let L : List (Waiting X) → Type 0 = λ ws. IsQueue facts h.entries st.begun Low 0 ws in
      elim (priority_cases e.priority) [
        | inl c ↦ (subst H held.1 st.high) place e (omega arith) own c
        | inr c ↦ (subst L held.2 st.low) place e (omega arith) own c
      ]

  -- nothing is due where no further turn is given by then
  none_due : (facts : X → Facts) (p : PortState X) (t : ℕ) → ((x : X) → AreLawful (facts x))
      → IsPortSound facts p → 1200000000000000 ≤ t → IsQuiet facts p t → due_of facts p ≡ None
  none_due facts p t lawful s late quiet = by_due (due_of facts p) refl
    where
      by_due : (o : Option Due) → due_of facts p ≡ o → due_of facts p ≡ None
      by_due None e = e
      by_due (Some d) e =
          let P : Option Due → Type 0 = λ o. IfSome o (λ z. IsAfter t z) in
          let after : t < given_at d = subst P e quiet in
          let soon = due_bounded facts p d lawful s e in
          absurd (omega (arith, after, soon))

  -- where nothing is due, each entry has had its turn
  pub all_done : (facts : X → Facts) (p : PortState X) (h : PortHistory X) → StandsFor facts p h
      → due_of facts p ≡ None → IsSchedule h.byte_ns h.entries h.taken
  all_done facts p h st none = record {
    each_next = taken_turns facts p h st;
    all_have_turns = λ place lt. elim (slice_get_cases h.entries place).1 [
      | inl found ↦ has place found.0 found.2 (has_turn h.taken place) refl
      | inr past ↦ absurd (let le = past.0 in omega arith)
    ];
  }
    where
      has : (place : ℕ) (e : Entry X) → slice_get h.entries place ≡ Some e → (b : Bool)
          → has_turn h.taken place ≡ b → has_turn h.taken place ≡ true
      has place e stands true is = is
      has place e stands false is = absurd (none_left facts p h place e st none stands is)

  pub if_all_done : (facts : X → Facts) (p : PortState X) (h : PortHistory X) (o : Option Due)
      → StandsFor facts p h → o ≡ due_of facts p → IfNone o (IsSchedule h.byte_ns h.entries h.taken)
  if_all_done facts p h None st is = all_done facts p h st (sym is)
  if_all_done facts p h (Some d) st is = tt

  -- nor is one left where no turn is given by then
  quiet_all_done : (facts : X → Facts) (p : PortState X) (h : PortHistory X) (t : ℕ)
      → ((x : X) → AreLawful (facts x)) → IsPortSound facts p → StandsFor facts p h
      → 1200000000000000 ≤ t → IsQuiet facts p t → IsSchedule h.byte_ns h.entries h.taken
  quiet_all_done facts p h t lawful s st late quiet = all_done facts p h st (none_due facts p t lawful s late quiet)

  take_all_done : (facts : X → Facts) (p : PortState X) (h : PortHistory X) (t : ℕ)
      (o : Option (Left X)) → ((x : X) → AreLawful (facts x)) → IsPortSound facts p
      → StandsFor facts p (at h t) → o ≡ p.sending → 1200000000000000 ≤ t →
      ((c : Priority) (moment : ℕ) → p.sending ≡ None → choice_of p ≡ Some (c, moment) → t ≤ moment)
      → IfNone o (IsSchedule h.byte_ns h.entries h.taken)
  take_all_done facts p h t None lawful s st is late idle =
      quiet_all_done facts p (at h t) t lawful s st late (idle_quiet facts p t s.rate.0 (sym is) idle)
  take_all_done facts p h t (Some l) lawful s st is late idle = tt

  -- a port that gives nothing by then, and waits until then
  pub waits : (facts : X → Facts) (p : PortState X) (until : ℕ) → ((x : X) → AreLawful (facts x))
      → IsPortSound facts p → p.clock ≤ until → IsQuiet facts p until →
      Takes facts p (record p { clock = until }) until None
  waits facts p until lawful sound later quiet = record {
    given = λ h st. tt;
    none = λ h st. (let clock = st.clock in
        waited_stands facts p (record p { clock = until }) h until refl st (omega (arith, later, clock)));
    no_more = λ h s st n. quiet_after facts p h until s st quiet n;
    all_done = λ h st late. quiet_all_done facts p h until lawful sound st late quiet;
    quiet = quiet_stays facts p (record p { clock = until }) until (clock_due facts p until) quiet;
    due = clock_due facts p until;
    held = refl;
    clock = refl;
  }

  -- the turn that has begun is taken, if there is one
  pub over_takes : (facts : X → Facts) (old p : PortState X) (until : ℕ) (o after : Option (Left X))
      → ((x : X) → AreLawful (facts x)) → Advances facts old p until → p.free ≤ until → o ≡ p.sending
      → after ≡ None → Takes facts old (record p { sending = after }) until o
  over_takes facts old p until o after lawful a over is gone = record {
    given = λ h st. take_some facts p h until o after (a.stands h st) over is gone;
    none = λ h st. take_kept facts p h until o after (a.stands h st) is gone;
    no_more = λ h s st n. take_no_more facts p h until s o a.sound.rate.0 (a.stands h st) is a.chosen n;
    all_done = λ h st late. take_all_done facts p h until o lawful a.sound (a.stands h st) is late a.chosen;
    quiet = take_quiet facts p until o after a.sound.rate.0 is gone a.chosen;
    due = take_due facts old p o after a.due is gone;
    held = take_held old p o after a.held is gone;
    clock = a.clock;
  }

  -- a turn that has begun and is given by then is over by then
  busy_over : (facts : X → Facts) (p : PortState X) (until : ℕ) (d : Due) (l : Left X)
      → p.sending ≡ Some l → due_of facts p ≡ Some d → IsBy until d → p.free ≤ until
  busy_over facts p until d l is due given =
      let same : Some (record { time = p.free; too_old = l.too_old }) ≡ Some d =
      sym (due_busy facts p l is) ∙ due in
      let time : p.free ≡ d.time = time_same p.free l.too_old d same in
      by_kind d.too_old d.time (omega arith) given
    where
      time_same : (n : ℕ) (b : Bool) (e : Due) → Some (record { time = n; too_old = b }) ≡ Some e
          → n ≡ e.time
      time_same n b e same = cc same

      by_kind : (o : Bool) (n : ℕ) → p.free ≤ n → n + (if o then 1 else 0) ≤ until → p.free ≤ until
      by_kind true n le given = omega arith
      by_kind false n le given = omega arith

  -- the turn that had begun is taken
  pub sending_takes : (facts : X → Facts) (old : PortState X) (until : ℕ) (d : Due)
      (o after : Option (Left X)) (b : Bool) → ((x : X) → AreLawful (facts x))
      → IsPortSound facts old → old.clock ≤ until → b ≡ is_some old.sending → b ≡ true
      → due_of facts old ≡ Some d → IsBy until d → o ≡ old.sending → after ≡ None →
      Takes facts old (record old { clock = until; sending = after }) until o
  sending_takes facts old until d o after b lawful sound later test true_ due given is gone =
      by_sending old.sending refl
    where
      by_sending : (z : Option (Left X)) → old.sending ≡ z →
          Takes facts old (record old { clock = until; sending = after }) until o
      by_sending None e = absurd (let f : is_some old.sending ≡ false = ap (λ y. is_some y) e in
          cc (f, test, true_))
      by_sending (Some l) e =
          over_takes facts old (record old { clock = until }) until o after lawful
          (clock_advances facts old until sound later (λ c m none chosen. absurd (cc (none, e))))
          (busy_over facts old until d l e due given) is gone

  -- the next turn begins, and is taken
  pub begun_takes : (facts : X → Facts) (old new : PortState X) (until : ℕ) (d : Due) (l : Left X)
      → ((x : X) → AreLawful (facts x)) → Advances facts old (record new { sending = Some l }) until
      → new.sending ≡ None → due_of facts old ≡ Some d → IsBy until d →
      Takes facts old new until (Some l)
  begun_takes facts old new until d l lawful a idle due given =
      over_takes facts old (record new { sending = Some l }) until (Some l) new.sending lawful a
      (busy_over facts (record new { sending = Some l }) until d l refl (a.due ∙ due) given) refl idle
