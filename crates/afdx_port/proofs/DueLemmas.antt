-- What is due is the turn of the next frame.
use Rattle.std.proofs.Common.{IfSome, Bool, option_map, ◌≡◌, ℕ, ◌≤◌, List, [], ◌∷◌, length, Option}
use Rattle.std.proofs.Common.{Some, None, refl, sym, ap, subst, arith, ◌∙◌}
use Rattle.std.specs.List.{slice_get}
use Rattle.afdx_frame.specs.declared.link.Priority.{Priority}
use Rattle.afdx_frame.specs.declared.link.Priority.TheVariants.{High, Low}
use Rattle.afdx_port.specs.declared.left.Left.{Left}
use Rattle.afdx_port.specs.declared.left.Due.{Due}
use Rattle.afdx_port.specs.declared.port_state.Waiting.{Waiting}
use Rattle.afdx_port.specs.declared.port_state.PortState.{PortState}
use Rattle.afdx_port.specs.Facts.{Facts}
use Rattle.afdx_port.specs.Schedule.{Entry, Turn, end_of, IsNext, AreTurns}
use Rattle.afdx_port.specs.Due.{IsAfter}
use Rattle.afdx_port.specs.Held.{frames_held, sending_count, ready, choice, choice_of, queue_of}
use Rattle.afdx_port.specs.Held.{due_from, due_next, due_first, due_of, IsQuiet}
use Rattle.afdx_port.specs.History.{PortHistory, due_at, IsQueue, HasBegun, StandsFor}
use Rattle.afdx_port.proofs.TurnLemmas.{same_next}
use Rattle.afdx_port.proofs.QueueLemmas.{front_turn, by_class, high_next, low_next, next_chosen, pair_same}

abbrev pub due : ℕ → Bool → Due
due n b = record { time = n; too_old = b }

pub due_same : (m n : ℕ) (a b : Bool) → m ≡ n → a ≡ b → Some (due m a) ≡ Some (due n b)
due_same m n a b e f = ap (λ z. Some (due z a)) e ∙ ap (λ z. Some (due n z)) f

pub not_high : (o : Option ℕ) (moment : ℕ) → choice None o ≡ Some (High, moment) → ⊥
not_high None moment e = cc e
not_high (Some l) moment e = let k = (pair_same (Low, l) (High, moment) e).0 in cc k

pub not_low : (o : Option ℕ) (moment : ℕ) → choice o None ≡ Some (Low, moment) → ⊥
not_low None moment e = cc e
not_low (Some l) moment e = let k = (pair_same (High, l) (Low, moment) e).0 in cc k

module _ {X : Type 0} where
  -- what is due, by cases
  pub due_idle : (facts : X → Facts) (p : PortState X) (c : Priority) (moment : ℕ) (w : Waiting X)
      → p.sending ≡ None → choice_of p ≡ Some (c, moment) → slice_get (queue_of c p) 0 ≡ Some w
      → due_of facts p ≡ Some (due_from facts p.byte_ns w moment)
  due_idle facts p c moment w none chosen front =
      ap (λ o. due_first p.free o (due_next facts p (choice_of p))) none
      ∙ (ap (λ o. due_next facts p o) chosen
      ∙ ap (λ o. option_map (λ v. due_from facts p.byte_ns v moment) o) front)

  pub due_busy : (facts : X → Facts) (p : PortState X) (l : Left X) → p.sending ≡ Some l
      → due_of facts p ≡ Some (record { time = p.free; too_old = l.too_old })
  due_busy facts p l e = ap (λ o. due_first p.free o (due_next facts p (choice_of p))) e

  pub due_nothing : (facts : X → Facts) (p : PortState X) → p.sending ≡ None → choice_of p ≡ None
      → due_of facts p ≡ None
  due_nothing facts p none chosen = ap (λ o. due_first p.free o (due_next facts p (choice_of p)))
      none ∙ ap (λ o. due_next facts p o) chosen

  -- the class that is chosen has a frame
  pub has_front : (p : PortState X) (c : Priority) (moment : ℕ) → choice_of p ≡ Some (c, moment)
      → (w : Waiting X) × (ws : List (Waiting X)) × (queue_of c p ≡ w ∷ ws)
  has_front p High moment e = by_queue p.high.items refl
    where
      by_queue : (vs : List (Waiting X)) → p.high.items ≡ vs → (w : Waiting X)
          × (ws : List (Waiting X)) × (p.high.items ≡ w ∷ ws)
      by_queue [] q = absurd (let P : List (Waiting X)
          → Type 0 = λ ws. choice (ready p.free ws) (ready p.free p.low.items) ≡ Some (High, moment)
          in not_high (ready p.free p.low.items) moment (subst P q e))
      by_queue (w ∷ ws) q = (w, ws, q)
  has_front p Low moment e = by_queue p.low.items refl
    where
      by_queue : (vs : List (Waiting X)) → p.low.items ≡ vs → (w : Waiting X)
          × (ws : List (Waiting X)) × (p.low.items ≡ w ∷ ws)
      by_queue [] q = absurd (let P : List (Waiting X)
          → Type 0 = λ ws. choice (ready p.free p.high.items) (ready p.free ws) ≡ Some (Low, moment)
          in not_low (ready p.free p.high.items) moment (subst P q e))
      by_queue (w ∷ ws) q = (w, ws, q)

  -- the class that is chosen has a frame
  pub not_empty : (p : PortState X) (c : Priority) (moment : ℕ) → choice_of p ≡ Some (c, moment) → queue_of c p ≡ [] → ⊥
  not_empty p c moment e q = let r = has_front p c moment e in cc (q, r.2)

  -- the turn of its front comes next
  pub front_next : (facts : X → Facts) (byte_ns : ℕ) (entries : List (Entry X))
      (turns : List (Turn X)) (p : PortState X) (c : Priority) (moment : ℕ) (w : Waiting X)
      (ws : List (Waiting X)) →
      ((i j : ℕ) (d e : Entry X) → i ≤ j → slice_get entries i ≡ Some d
      → slice_get entries j ≡ Some e → d.time ≤ e.time) →
      IsQueue facts entries turns High 0 p.high.items
      → IsQueue facts entries turns Low 0 p.low.items → queue_of c p ≡ w ∷ ws →
      choice (ready (end_of turns) p.high.items) (ready (end_of turns) p.low.items)
      ≡ Some (c, moment) → (place : ℕ)
      × IsNext byte_ns entries turns (front_turn facts byte_ns c place moment w)
  front_next facts byte_ns entries turns p High moment w ws order high low q chosen =
      let P : List (Waiting X) → Type 0 = λ vs. IsQueue facts entries turns High 0 vs in
      let S : List (Waiting X)
      → Type 0 = λ vs. choice (ready (end_of turns) vs) (ready (end_of turns) p.low.items)
      ≡ Some (High, moment) in
      let r = high_next facts byte_ns entries turns moment w ws p.low.items order (subst P q high)
      low (subst S q chosen) in
      (r.place, r.next)
  front_next facts byte_ns entries turns p Low moment w ws order high low q chosen =
      let P : List (Waiting X) → Type 0 = λ vs. IsQueue facts entries turns Low 0 vs in
      let S : List (Waiting X)
      → Type 0 = λ vs. choice (ready (end_of turns) p.high.items) (ready (end_of turns) vs)
      ≡ Some (Low, moment) in
      let r = low_next facts byte_ns entries turns moment w p.high.items ws order high
      (subst P q low) (subst S q chosen) in
      (r.place, r.next)

  -- the turn that comes next is that which is due
  pub next_due : (facts : X → Facts) (p : PortState X) (h : PortHistory X) (s : Turn X)
      → StandsFor facts p h → IsNext h.byte_ns h.entries h.taken s → due_of facts p ≡ Some (due_at s)
  next_due facts p h s st n = by_sending p.sending refl st.has_begun
    where
      front_due : (c : Priority) (w : Waiting X) → slice_get (by_class c p.high.items p.low.items) 0
          ≡ Some w → slice_get (queue_of c p) 0 ≡ Some w
      front_due High w e = e
      front_due Low w e = e

      by_sending : (o : Option (Left X)) → p.sending ≡ o → HasBegun o h.taken st.begun
          → due_of facts p ≡ Some (due_at s)
      by_sending None e b =
          let P : List (Turn X) → Type 0 = λ zs. IsNext h.byte_ns h.entries zs s in
          let r = next_chosen facts h.byte_ns h.entries st.begun p.high.items p.low.items s
          st.in_order st.high st.low (subst P (sym b) n) in
          let R : ℕ → Type 0 = λ m. choice (ready m p.high.items) (ready m p.low.items) ≡ Some (r.c, s.moment) in
          let chosen : choice_of p ≡ Some (r.c, s.moment) = subst R (sym st.free) r.chosen in
          let due : due_at s ≡ due_from facts p.byte_ns r.w s.moment = r.due
          ∙ ap (λ m. due_from facts m r.w s.moment) (sym st.byte_ns) in
          due_idle facts p r.c s.moment r.w e chosen (front_due r.c r.w r.front) ∙ ap (λ d. Some d) (sym due)
      by_sending (Some l) e b =
          let Q : List (Turn X) → Type 0 = λ zs. AreTurns h.byte_ns h.entries zs in
          let are : AreTurns h.byte_ns h.entries (b.0 ∷ h.taken) = subst Q b.1 st.are_turns in
          let same : s ≡ b.0 = same_next h.byte_ns h.entries h.taken s b.0 n are.0 in
          let end : p.free ≡ b.0.end = st.free ∙ ap (λ zs. end_of zs) b.1 in
          let old : l.too_old ≡ b.0.too_old = ap (λ z. z.too_old) b.2 in
          due_busy facts p l e ∙ (due_same p.free b.0.end l.too_old b.0.too_old end old
          ∙ ap (λ z. Some (due_at z)) (sym same))

  -- what is due is the turn of the next frame
  pub due_comes : (facts : X → Facts) (p : PortState X) (h : PortHistory X) (d : Due)
      → StandsFor facts p h → due_of facts p ≡ Some d → (s : Turn X)
      × IsNext h.byte_ns h.entries h.taken s × (d ≡ due_at s)
  due_comes facts p h d st is = by_sending p.sending refl st.has_begun
    where
      same_some : (a b : Due) → Some a ≡ Some b → a ≡ b
      same_some a b e = cc e

      by_choice : (o : Option (Priority × ℕ)) → choice_of p ≡ o → p.sending ≡ None
          → st.begun ≡ h.taken → (s : Turn X) × IsNext h.byte_ns h.entries h.taken s × (d ≡ due_at s)
      by_choice None e none b = absurd (let k = due_nothing facts p none e in cc)
      by_choice (Some (c, moment)) e none b =
          let w = has_front p c moment e in
          let R : ℕ → Type 0 = λ m. choice (ready m p.high.items) (ready m p.low.items) ≡ Some (c, moment) in
          let n = front_next facts h.byte_ns h.entries st.begun p c moment w.0 w.1 st.in_order
          st.high st.low w.2 (subst R st.free e) in
          let P : List (Turn X) → Type 0 =
          λ zs. IsNext h.byte_ns h.entries zs (front_turn facts h.byte_ns c n.0 moment w.0) in
          let due : due_of facts p ≡ Some (due_from facts p.byte_ns w.0 moment) =
          due_idle facts p c moment w.0 none e (ap (λ ws. slice_get ws 0) w.2) in
          let line : due_from facts p.byte_ns w.0 moment ≡ due_from facts h.byte_ns w.0 moment =
          ap (λ m. due_from facts m w.0 moment) st.byte_ns in (
            front_turn facts h.byte_ns c n.0 moment w.0,
            subst P b n.1,
            same_some d (due_from facts p.byte_ns w.0 moment) (sym is ∙ due) ∙ line,
          )

      by_sending : (o : Option (Left X)) → p.sending ≡ o → HasBegun o h.taken st.begun
          → (s : Turn X) × IsNext h.byte_ns h.entries h.taken s × (d ≡ due_at s)
      by_sending None e b = by_choice (choice_of p) refl e b
      by_sending (Some l) e b =
          let Q : List (Turn X) → Type 0 = λ zs. AreTurns h.byte_ns h.entries zs in
          let are : AreTurns h.byte_ns h.entries (b.0 ∷ h.taken) = subst Q b.1 st.are_turns in
          let end : p.free ≡ b.0.end = st.free ∙ ap (λ zs. end_of zs) b.1 in
          let old : l.too_old ≡ b.0.too_old = ap (λ z. z.too_old) b.2 in (
            b.0,
            are.0,
            same_some d (due_at b.0)
                (sym is ∙ (due_busy facts p l e ∙ due_same p.free b.0.end l.too_old b.0.too_old end old)),
          )

  pub if_due_comes : (facts : X → Facts) (p : PortState X) (h : PortHistory X) (o : Option Due)
      → StandsFor facts p h → o ≡ due_of facts p
      → IfSome o (λ d. (s : Turn X) × IsNext h.byte_ns h.entries h.taken s × (d ≡ due_at s))
  if_due_comes facts p h None st is = tt
  if_due_comes facts p h (Some d) st is = due_comes facts p h d st (sym is)

  -- no further turn is given by t exactly where the next one is given after t
  pub quiet_after : (facts : X → Facts) (p : PortState X) (h : PortHistory X) (t : ℕ) (s : Turn X)
      → StandsFor facts p h → IsQuiet facts p t → IsNext h.byte_ns h.entries h.taken s
      → IsAfter t (due_at s)
  quiet_after facts p h t s st quiet n =
      let P : Option Due → Type 0 = λ o. IfSome o (λ d. IsAfter t d) in
      subst P (next_due facts p h s st n) quiet

  pub after_quiet : (facts : X → Facts) (p : PortState X) (h : PortHistory X) (t : ℕ)
      → StandsFor facts p h → ((s : Turn X) → IsNext h.byte_ns h.entries h.taken s
      → IsAfter t (due_at s)) → IsQuiet facts p t
  after_quiet facts p h t st after = by_due (due_of facts p) refl
    where
      by_due : (o : Option Due) → due_of facts p ≡ o → IfSome o (λ d. IsAfter t d)
      by_due None e = tt
      by_due (Some d) e =
          let r = due_comes facts p h d st e in
          let Q : Due → Type 0 = λ z. IsAfter t z in
          subst Q (sym r.2) (after r.0 r.1)

  -- what is due doesn't hang on the clock
  pub clock_due : (facts : X → Facts) (p : PortState X) (t : ℕ) → due_of facts (record p { clock = t }) ≡ due_of facts p
  clock_due facts p t = by_choice (choice_of p)
    where
      by_front : (c : Priority) (moment : ℕ)
          → due_next facts (record p { clock = t }) (Some (c, moment))
          ≡ due_next facts p (Some (c, moment))
      by_front High moment = refl
      by_front Low moment = refl

      by_choice : (o : Option (Priority × ℕ))
          → due_first p.free p.sending (due_next facts (record p { clock = t }) o)
          ≡ due_first p.free p.sending (due_next facts p o)
      by_choice None = refl
      by_choice (Some (c, moment)) = ap (λ o. due_first p.free p.sending o) (by_front c moment)

  -- where what is due stays, no more is given
  pub quiet_stays : (facts : X → Facts) (old new : PortState X) (t : ℕ)
      → due_of facts new ≡ due_of facts old → IsQuiet facts old t → IsQuiet facts new t
  quiet_stays facts old new t same q = let P : Option Due
      → Type 0 = λ o. IfSome o (λ d. IsAfter t d) in subst P (sym same) q

  -- a port that holds nothing gives nothing
  pub empty_quiet : (facts : X → Facts) (p : PortState X) (t : ℕ) → frames_held p ≡ 0 → IsQuiet facts p t
  empty_quiet facts p t none = by_parts p.sending p.high.items p.low.items refl refl refl
    where
      by_parts : (o : Option (Left X)) (highs lows : List (Waiting X)) → p.sending ≡ o
          → p.high.items ≡ highs → p.low.items ≡ lows → IfSome (due_of facts p) (λ d. IsAfter t d)
      by_parts (Some l) highs lows e h k =
          absurd (let one : sending_count p.sending ≡ 1 = ap (λ o. sending_count o) e in omega arith)
      by_parts None (w ∷ ws) lows e h k =
          absurd (let some : length p.high.items ≡ length (w ∷ ws) = ap length h in omega arith)
      by_parts None [] (w ∷ ws) e h k =
          absurd (let some : length p.low.items ≡ length (w ∷ ws) = ap length k in omega arith)
      by_parts None [] [] e h k =
          let chosen : choice_of p ≡ None =
          ap (λ ws. choice (ready p.free ws) (ready p.free p.low.items)) h
          ∙ ap (λ ws. choice None (ready p.free ws)) k in
          let P : Option Due → Type 0 = λ o. IfSome o (λ d. IsAfter t d) in
          subst P (sym (due_nothing facts p e chosen)) tt
