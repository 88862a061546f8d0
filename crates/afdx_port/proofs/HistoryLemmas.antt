-- What the steps of a port do to the calls that it stands for.
use Rattle.std.proofs.Common.{IfSome, Bool, true, false, if◌then◌else◌, ◌≡◌, ℕ, ◌+◌, ◌<◌, ◌≤◌, List}
use Rattle.std.proofs.Common.{[], ◌∷◌, ◌++◌, length, Option, Some, None, inl, inr, refl, sym, ap}
use Rattle.std.proofs.Common.{subst, arith, ◌∙◌}
use Rattle.std.specs.List.{AllByRecursion}
use Rattle.std.proofs.lemmas.Option.{slice_get_within}
use Rattle.afdx_frame.specs.declared.link.Priority.{Priority}
use Rattle.afdx_frame.specs.declared.link.Priority.TheVariants.{High, Low}
use Rattle.afdx_frame.proofs.ListLemmas.{slice_get-push_cases}
use Rattle.afdx_port.specs.declared.left.Left.{Left}
use Rattle.afdx_port.specs.declared.left.Due.{Due}
use Rattle.afdx_port.specs.declared.port_state.Waiting.{Waiting}
use Rattle.afdx_port.specs.declared.port_state.PortState.{PortState}
use Rattle.afdx_port.specs.Facts.{Facts}
use Rattle.afdx_port.specs.Schedule.{Turn, has_turn, end_of, IsNext, AreTurns, IsSchedule}
use Rattle.afdx_port.specs.Schedule.{bytes_without_turn, waiting_bytes, IsLost}
use Rattle.afdx_port.specs.Due.{given_at, IsAfter}
use Rattle.afdx_port.specs.Held.{ready, choice, choice_of, queue_of, due_from, IsQuiet}
use Rattle.afdx_port.specs.History.{PortHistory, at, with_put, waiting_entry, IsQueue, HasBegun, StandsFor}
use Rattle.afdx_port.proofs.TurnLemmas.{turns_stay, no_turn_past, bytes_served, bytes_longer, waiting_is}
use Rattle.afdx_port.proofs.QueueLemmas.{Chosen, front_turn, high_next, low_next, next_chosen, queue_push, queue_other}
use Rattle.afdx_port.proofs.DueLemmas.{due_busy}

abbrev pub other : Priority → Priority
other High = Low
other Low = High

pub drop_small : (n : ℕ) (b : Bool) → n + (if b then 1 else 0) ≤ n + 1
drop_small n true = omega arith
drop_small n false = omega arith

module _ {X : Type 0} where
  abbrev pub left : X → Priority → Due → Left X
  left x c d = record { item = x; priority = c; end = d.time; too_old = d.too_old }

  pub started_longer : (t u : ℕ) (turns : List (Turn X)) → t ≤ u
      → AllByRecursion (λ s. s.moment < t) turns → AllByRecursion (λ s. s.moment < u) turns
  started_longer t u [] le h = tt
  started_longer t u (s ∷ ss) le h = (let lt : s.moment < t = h.0 in omega arith, started_longer t u ss le h.1)

  -- time passes and no turn begins
  pub idle_stands : (facts : X → Facts) (old : PortState X) (h : PortHistory X) (time : ℕ)
      → StandsFor facts old h → h.time ≤ time → StandsFor facts (record old { clock = time }) (at h time)
  idle_stands facts old h time st le = record {
    byte_ns = st.byte_ns;
    buffer = st.buffer;
    clock = refl;
    begun = st.begun;
    has_begun = st.has_begun;
    are_turns = st.are_turns;
    started = started_longer h.time time st.begun le st.started;
    free = st.free;
    high = st.high;
    low = st.low;
    waiting = st.waiting;
    in_order = st.in_order;
    come = λ i e g. let k = st.come i e g in omega arith;
  }

  pub waited_stands : (facts : X → Facts) (old new : PortState X) (h : PortHistory X) (time : ℕ)
      → new ≡ record old { clock = time } → StandsFor facts old h → h.time ≤ time
      → StandsFor facts new (at h time)
  waited_stands facts old new h time same st le =
      let P : PortState X → Type 0 = λ p. StandsFor facts p (at h time) in
      subst P (sym same) (idle_stands facts old h time st le)

  -- a turn begins
  pub begin_with : (facts : X → Facts) (old new : PortState X) (h : PortHistory X) (time moment : ℕ)
      (c : Priority) (w : Waiting X) (st : StandsFor facts old h) → h.time ≤ time → moment < time
      → old.sending ≡ None →
      Chosen facts h.byte_ns h.entries st.begun c moment w new.high.items new.low.items →
      new.byte_ns ≡ old.byte_ns → new.buffer ≡ old.buffer → new.clock ≡ time →
      new.free ≡ (due_from facts h.byte_ns w moment).time →
      new.sending ≡ Some (left w.item c (due_from facts h.byte_ns w moment))
      → new.waiting + (facts w.item).bytes ≡ old.waiting →
      StandsFor facts new (at h time)
  begin_with facts old new h time moment c w st le lt none r byte_ns buffer now free sending waiting =
      let s : Turn X = front_turn facts h.byte_ns c r.place moment w in
      let taken : st.begun ≡ h.taken =
      (let P : Option (Left X) → Type 0 = λ o. HasBegun o h.taken st.begun in
      subst P none st.has_begun) in
      let Q : Option (Left X) → Type 0 = λ o. HasBegun o h.taken (s ∷ st.begun) in
      let served = bytes_served s st.begun 0 r.place (waiting_entry facts c w) h.entries
      r.next.own.stands (omega arith) r.next.own.without in
      let before : old.waiting ≡ bytes_without_turn st.begun 0 h.entries = st.waiting in
      record {
        byte_ns = byte_ns ∙ st.byte_ns;
        buffer = buffer ∙ st.buffer;
        clock = now;
        begun = s ∷ st.begun;
        has_begun = subst Q (sym sending) (s, ap (λ zs. s ∷ zs) taken, refl);
        are_turns = (r.next, st.are_turns);
        started = (lt, started_longer h.time time st.begun le st.started);
        free = free;
        high = r.high;
        low = r.low;
        waiting = omega (arith, served);
        in_order = st.in_order;
        come = λ i e g. let k = st.come i e g in omega arith;
      }

  pub begin_stands : (facts : X → Facts) (old new : PortState X) (h : PortHistory X) (time moment : ℕ)
      (c : Priority) (w : Waiting X) → StandsFor facts old h → h.time ≤ time → moment < time
      → old.sending ≡ None →
      choice_of old ≡ Some (c, moment) → queue_of c old ≡ w ∷ queue_of c new
      → queue_of (other c) new ≡ queue_of (other c) old →
      new.byte_ns ≡ old.byte_ns → new.buffer ≡ old.buffer → new.clock ≡ time →
      new.free ≡ (due_from facts h.byte_ns w moment).time →
      new.sending ≡ Some (left w.item c (due_from facts h.byte_ns w moment))
      → new.waiting + (facts w.item).bytes ≡ old.waiting →
      StandsFor facts new (at h time)
  begin_stands facts old new h time moment High w st le lt none chosen own others byte_ns buffer now
      free sending waiting =
      let P : List (Waiting X) → Type 0 = λ ws. IsQueue facts h.entries st.begun High 0 ws in
      let Q : List (Waiting X) → Type 0 = λ ws. IsQueue facts h.entries st.begun Low 0 ws in
      let R : ℕ → Type 0 = λ n. choice (ready n old.high.items) (ready n old.low.items) ≡ Some (High, moment) in
      let S : List (Waiting X)
      → Type 0 = λ ws. choice (ready (end_of st.begun) ws)
      (ready (end_of st.begun) old.low.items) ≡ Some (High, moment) in
      let T : List (Waiting X)
      → Type 0 = λ ws. choice (ready (end_of st.begun) (w ∷ new.high.items))
      (ready (end_of st.begun) ws) ≡ Some (High, moment) in
      begin_with facts old new h time moment High w st le lt none
      (high_next facts h.byte_ns h.entries st.begun moment w new.high.items new.low.items
      st.in_order (subst P own st.high) (subst Q (sym others) st.low)
      (subst T (sym others) (subst S own (subst R st.free chosen))))
      byte_ns buffer now free sending waiting
  begin_stands facts old new h time moment Low w st le lt none chosen own others byte_ns buffer now
      free sending waiting =
      let P : List (Waiting X) → Type 0 = λ ws. IsQueue facts h.entries st.begun Low 0 ws in
      let Q : List (Waiting X) → Type 0 = λ ws. IsQueue facts h.entries st.begun High 0 ws in
      let R : ℕ → Type 0 = λ n. choice (ready n old.high.items) (ready n old.low.items) ≡ Some (Low, moment) in
      let S : List (Waiting X)
      → Type 0 = λ ws. choice (ready (end_of st.begun) old.high.items)
      (ready (end_of st.begun) ws) ≡ Some (Low, moment) in
      let T : List (Waiting X)
      → Type 0 = λ ws. choice (ready (end_of st.begun) ws)
      (ready (end_of st.begun) (w ∷ new.low.items)) ≡ Some (Low, moment) in
      begin_with facts old new h time moment Low w st le lt none
      (low_next facts h.byte_ns h.entries st.begun moment w new.high.items new.low.items st.in_order
      (subst Q (sym others) st.high) (subst P own st.low)
      (subst T (sym others) (subst S own (subst R st.free chosen))))
      byte_ns buffer now free sending waiting

  -- a frame is put
  pub put_stands : (facts : X → Facts) (old new : PortState X) (h : PortHistory X) (c : Priority)
      (w : Waiting X) → StandsFor facts old h → w.time ≡ h.time →
      queue_of c new ≡ queue_of c old ++ w ∷ [] → queue_of (other c) new ≡ queue_of (other c) old →
      new.byte_ns ≡ old.byte_ns → new.buffer ≡ old.buffer → new.clock ≡ old.clock
      → new.free ≡ old.free → new.sending ≡ old.sending →
      new.waiting ≡ old.waiting + (facts w.item).bytes →
      StandsFor facts new (with_put h (waiting_entry facts c w))
  put_stands facts old new h c w st time own others byte_ns buffer now free sending waiting =
      let e = waiting_entry facts c w in
      let room : has_turn st.begun (length h.entries) ≡ false =
      no_turn_past h.byte_ns h.entries st.begun st.are_turns in
      let P : Option (Left X) → Type 0 = λ o. HasBegun o h.taken st.begun in
      let started = started_longer h.time w.time st.begun (omega arith) st.started in
      let queues = put_queues c own others in
      let before : old.waiting ≡ bytes_without_turn st.begun 0 h.entries = st.waiting in
      record {
        byte_ns = byte_ns ∙ st.byte_ns;
        buffer = buffer ∙ st.buffer;
        clock = now ∙ st.clock ∙ sym time;
        begun = st.begun;
        has_begun = subst P (sym sending) st.has_begun;
        are_turns = turns_stay h.byte_ns h.entries (waiting_entry facts c w) st.begun started st.are_turns;
        started = started;
        free = free ∙ st.free;
        high = queues.0;
        low = queues.1;
        waiting = omega (
          arith,
          bytes_longer st.begun 0 h.entries (waiting_entry facts c w)
              (subst (λ (n : ℕ). has_turn st.begun n ≡ false) (omega arith) room),
        );
        in_order = λ i j d f le g k. elim (slice_get-push_cases h.entries (waiting_entry facts c w) j f k) [
          | inl old_j ↦ elim (slice_get-push_cases h.entries (waiting_entry facts c w) i d g) [
            | inl old_i ↦ st.in_order i j d f le old_i old_j
            | inr new_i ↦ absurd (let within = slice_get_within h.entries j f old_j in omega (arith, new_i.0))
          ]
          | inr new_j ↦ (let late : f.time ≡ w.time = ap (λ z. z.time) new_j.1 in
              elim (slice_get-push_cases h.entries (waiting_entry facts c w) i d g) [
                | inl old_i ↦ (let came = st.come i d old_i in omega arith)
                | inr new_i ↦ (let same : d.time ≡ w.time = ap (λ z. z.time) new_i.1 in omega arith)
              ])
        ];
        come = λ i f g. elim (slice_get-push_cases h.entries (waiting_entry facts c w) i f g) [
          | inl old_i ↦ (let came = st.come i f old_i in omega arith)
          | inr new_i ↦ (let same : f.time ≡ w.time = ap (λ z. z.time) new_i.1 in omega arith)
        ];
      }
    where
      put_queues : (b : Priority) → queue_of b new ≡ queue_of b old ++ w ∷ []
          → queue_of (other b) new ≡ queue_of (other b) old →
          IsQueue facts (h.entries ++ waiting_entry facts b w ∷ []) st.begun High 0 new.high.items
          × IsQueue facts (h.entries ++ waiting_entry facts b w ∷ []) st.begun Low 0 new.low.items
      put_queues High own others =
          let room : has_turn st.begun (length h.entries) ≡ false =
          no_turn_past h.byte_ns h.entries st.begun st.are_turns in
          let P : List (Waiting X)
          → Type 0 = λ ws. IsQueue facts (h.entries ++ waiting_entry facts High w ∷ []) st.begun
          High 0 ws in
          let Q : List (Waiting X)
          → Type 0 = λ ws. IsQueue facts (h.entries ++ waiting_entry facts High w ∷ []) st.begun
          Low 0 ws in (
            subst P (sym own) (queue_push facts h.entries st.begun High 0 w old.high.items room (omega arith) st.high),
            subst Q (sym others) (queue_other facts h.entries (waiting_entry facts High w) st.begun
                Low 0 old.low.items (λ k. cc k) st.low),
          )
      put_queues Low own others =
          let room : has_turn st.begun (length h.entries) ≡ false =
          no_turn_past h.byte_ns h.entries st.begun st.are_turns in
          let P : List (Waiting X)
          → Type 0 = λ ws. IsQueue facts (h.entries ++ waiting_entry facts Low w ∷ []) st.begun
          Low 0 ws in
          let Q : List (Waiting X)
          → Type 0 = λ ws. IsQueue facts (h.entries ++ waiting_entry facts Low w ∷ []) st.begun
          High 0 ws in (
            subst Q (sym others) (queue_other facts h.entries (waiting_entry facts Low w) st.begun
                High 0 old.high.items (λ k. cc k) st.high),
            subst P (sym own) (queue_push facts h.entries st.begun Low 0 w old.low.items room (omega arith) st.low),
          )

  -- no further turn has a moment before t, where none is given by t and what isn't begun begins no sooner
  pub next_later : (facts : X → Facts) (p : PortState X) (h : PortHistory X) (t : ℕ)
      (st : StandsFor facts p h) → IsQuiet facts p t →
      ((c : Priority) (moment : ℕ) → p.sending ≡ None → choice_of p ≡ Some (c, moment) → t ≤ moment)
      → (s : Turn X) → IsNext h.byte_ns h.entries st.begun s → t ≤ s.moment
  next_later facts p h t st quiet idle s n =
      let r = next_chosen facts h.byte_ns h.entries st.begun p.high.items p.low.items s st.in_order st.high st.low n in
      let R : ℕ → Type 0 = λ m. choice (ready m p.high.items) (ready m p.low.items) ≡ Some (r.c, s.moment) in
      let chosen : choice_of p ≡ Some (r.c, s.moment) = subst R (sym st.free) r.chosen in
      by_sending p.sending refl r.c chosen
    where
      by_sending : (o : Option (Left X)) → p.sending ≡ o → (c : Priority)
          → choice_of p ≡ Some (c, s.moment) → t ≤ s.moment
      by_sending None e c chosen = idle c s.moment e chosen
      by_sending (Some l) e c chosen =
          let P : Option Due → Type 0 = λ o. IfSome o (λ d. IsAfter t d) in
          let over : t < given_at (record { time = p.free; too_old = l.too_old }) =
          subst P (due_busy facts p l e) quiet in
          let after : end_of st.begun ≤ s.moment = n.after in
          let free : p.free ≡ end_of st.begun = st.free in
          let late : p.free + (if l.too_old then 1 else 0) ≤ p.free + 1 = drop_small p.free l.too_old in
          omega arith

  -- what was taken is a list of turns
  pub taken_turns : (facts : X → Facts) (p : PortState X) (h : PortHistory X) → StandsFor facts p h
      → AreTurns h.byte_ns h.entries h.taken
  taken_turns facts p h st = by_sending p.sending st.has_begun
    where
      by_sending : (o : Option (Left X)) → HasBegun o h.taken st.begun → AreTurns h.byte_ns h.entries h.taken
      by_sending None b = let Q : List (Turn X) → Type 0 = λ zs. AreTurns h.byte_ns h.entries zs in
          subst Q b st.are_turns
      by_sending (Some l) b =
          let Q : List (Turn X) → Type 0 = λ zs. AreTurns h.byte_ns h.entries zs in
          let are : AreTurns h.byte_ns h.entries (b.0 ∷ h.taken) = subst Q b.1 st.are_turns in
          are.1

  -- what the port counts is what waits
  pub waiting_counted : (facts : X → Facts) (p : PortState X) (h : PortHistory X) (t : ℕ)
      (turns : List (Turn X)) → StandsFor facts p (at h t) → IsQuiet facts p t →
      ((c : Priority) (moment : ℕ) → p.sending ≡ None → choice_of p ≡ Some (c, moment) → t ≤ moment) →
      IsSchedule h.byte_ns h.entries turns → waiting_bytes h.entries turns t ≡ p.waiting
  waiting_counted facts p h t turns st quiet idle all =
      waiting_is h.byte_ns h.entries t turns st.begun all st.are_turns st.started
      (next_later facts p (at h t) t st quiet idle) ∙ sym st.waiting

  -- a frame is lost exactly if it doesn't fit beside those that the port counts
  pub lost_from : (facts : X → Facts) (p : PortState X) (h : PortHistory X) (t n : ℕ)
      (turns : List (Turn X)) → StandsFor facts p (at h t) → IsQuiet facts p t →
      ((c : Priority) (moment : ℕ) → p.sending ≡ None → choice_of p ≡ Some (c, moment) → t ≤ moment)
      → IsSchedule h.byte_ns h.entries turns → p.buffer < p.waiting + n
      → IsLost h.buffer h.entries turns t n
  lost_from facts p h t n turns st quiet idle all over =
      let counted = waiting_counted facts p h t turns st quiet idle all in
      let buffer : p.buffer ≡ h.buffer = st.buffer in
      omega arith

  pub not_lost : (facts : X → Facts) (p : PortState X) (h : PortHistory X) (t n : ℕ)
      (turns : List (Turn X)) → StandsFor facts p (at h t) → IsQuiet facts p t →
      ((c : Priority) (moment : ℕ) → p.sending ≡ None → choice_of p ≡ Some (c, moment) → t ≤ moment)
      → IsSchedule h.byte_ns h.entries turns → p.waiting + n ≤ p.buffer
      → IsLost h.buffer h.entries turns t n → ⊥
  not_lost facts p h t n turns st quiet idle all fits lost =
      let counted = waiting_counted facts p h t turns st quiet idle all in
      let buffer : p.buffer ≡ h.buffer = st.buffer in
      omega arith
