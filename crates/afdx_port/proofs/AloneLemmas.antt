-- A frame is put at a port that holds none.
use Rattle.std.proofs.Common.{◌≡◌, ℕ, ◌+◌, ◌≤◌, List, [], ◌∷◌, ◌++◌, Option, Some, None, Bool, true, false}
use Rattle.std.proofs.Common.{IfSome, refl, sym, ap, ◌∙◌, max, subst, if◌then◌else◌}
use Rattle.std.specs.Prelude.{nat_lt, Ok}
use Rattle.std.specs.List.{slice_get}
use Rattle.afdx_frame.specs.declared.link.Priority.{Priority}
use Rattle.afdx_frame.specs.declared.link.Priority.TheVariants.{High, Low}
use Rattle.afdx_port.specs.declared.left.Left.{Left}
use Rattle.afdx_port.specs.declared.left.Due.{Due}
use Rattle.afdx_port.specs.declared.port_state.Waiting.{Waiting}
use Rattle.afdx_port.specs.declared.port_state.PortState.{PortState}
use Rattle.afdx_port.specs.Facts.{Facts, AreLawful}
use Rattle.afdx_port.specs.Held.{IsQuiet, IsNextClass, ready, choice, choice_of, queue_of, due_from, due_of}
use Rattle.afdx_port.specs.Times.{drain_end}
use Rattle.afdx_port.specs.Due.{IsAfter, given_at}
use Rattle.afdx_port.specs.Calls.{Advances, Puts}
use Rattle.afdx_port.specs.Sound.{IsPortSound}
use Rattle.afdx_port.proofs.QueueLemmas.{pair_same}
use Rattle.afdx_port.proofs.DueLemmas.{due_busy, due_idle, has_front}
use Rattle.afdx_port.proofs.BeginLemmas.{clock_advances}
use Rattle.afdx_port.proofs.SoundLemmas.{Stays, stays}
use Rattle.afdx_port.proofs.HistoryLemmas.{other}
use Rattle.afdx_port.proofs.PutLemmas.{Pushes}
use Rattle.afdx_port.proofs.TakeLemmas.{due_limit}

module _ {X : Type 0} where
  -- a port of which nothing is due sends nothing
  pub alone-idle : (facts : X → Facts) (p : PortState X) → due_of facts p ≡ None → p.sending ≡ None
  alone-idle facts p alone = by p.sending refl
    where
      by : (o : Option (Left X)) → p.sending ≡ o → o ≡ None
      by None e = refl
      by (Some l) e = absurd (let busy = due_busy facts p l e in cc (busy, alone))

  -- and none of its frames goes next
  pub alone-chosen : (facts : X → Facts) (p : PortState X) (c : Priority) (moment : ℕ) → due_of facts p ≡ None
      → choice_of p ≡ Some (c, moment) → ⊥
  alone-chosen facts p c moment alone chosen =
      let f = has_front p c moment chosen in
      let first : slice_get (queue_of c p) 0 ≡ Some f.0 = ap (λ ws. slice_get ws 0) f.2 in
      let some = due_idle facts p c moment f.0 (alone-idle facts p alone) chosen first in
      cc (some, alone)

  -- so none waits
  none-chosen : (free : ℕ) (hs ls : List (Waiting X))
      → ((c : Priority) (moment : ℕ) → choice (ready free hs) (ready free ls) ≡ Some (c, moment) → ⊥)
      → (hs ≡ []) × (ls ≡ [])
  none-chosen free [] [] none = (refl, refl)
  none-chosen free (h ∷ hs) [] none = absurd (none High (max h.time free) refl)
  none-chosen free [] (l ∷ ls) none = absurd (none Low (max l.time free) refl)
  none-chosen free (h ∷ hs) (l ∷ ls) none = absurd (by (nat_lt (max l.time free) (max h.time free)) none)
    where
      by : (b : Bool) → ((c : Priority) (moment : ℕ) →
          if◌then◌else◌ {A = Option (Priority × ℕ)} b (Some (Low, max l.time free)) (Some (High, max h.time free))
          ≡ Some (c, moment) → ⊥) → ⊥
      by true some = some Low (max l.time free) refl
      by false some = some High (max h.time free) refl

  pub alone-queue : (facts : X → Facts) (p : PortState X) (c : Priority) → due_of facts p ≡ None → queue_of c p ≡ []
  alone-queue facts p c alone = by c
    where
      both : (p.high.items ≡ []) × (p.low.items ≡ [])
      both = none-chosen p.free p.high.items p.low.items (λ d moment. alone-chosen facts p d moment alone)

      by : (d : Priority) → queue_of d p ≡ []
      by High = both.0
      by Low = both.1

  -- time passes at such a port
  pub alone-advances : (facts : X → Facts) (p : PortState X) (time : ℕ) → IsPortSound facts p → p.clock ≤ time
      → due_of facts p ≡ None → Advances facts p (record p { clock = time }) time
  alone-advances facts p time sound clock alone = clock_advances facts p time sound clock
      (λ c moment idle chosen. absurd (alone-chosen facts p c moment alone chosen))

  -- then it goes next
  pub alone-next : (facts : X → Facts) (old mid : PortState X) (time : ℕ) (c : Priority) (x : X) (n : ℕ)
      → Pushes facts old mid time c x n → due_of facts old ≡ None →
      choice_of (record mid { waiting = mid.waiting + n }) ≡ Some (c, max time mid.free)
  alone-next facts old mid time c x n p alone = chosen c own others
    where
      own : queue_of c mid ≡ record { time = time; item = x } ∷ []
      own = p.queue ∙ ap (λ ws. ws ++ record { time = time; item = x } ∷ []) (alone-queue facts old c alone)

      others : queue_of (other c) mid ≡ []
      others = (stays c old mid p.changes).others ∙ alone-queue facts old (other c) alone

      chosen : (d : Priority) → queue_of d mid ≡ record { time = time; item = x } ∷ [] → queue_of (other d) mid ≡ []
          → choice (ready mid.free mid.high.items) (ready mid.free mid.low.items) ≡ Some (d, max time mid.free)
      chosen High e f = ap (λ ws. choice (ready mid.free ws) (ready mid.free mid.low.items)) e
          ∙ ap (λ ws. choice (Some (max time mid.free)) (ready mid.free ws)) f
      chosen Low e f = ap (λ ws. choice (ready mid.free mid.high.items) (ready mid.free ws)) e
          ∙ ap (λ ws. choice (ready mid.free ws) (Some (max time mid.free))) f

  -- and its class is the next one
  pub alone-class : (facts : X → Facts) (old mid : PortState X) (time : ℕ) (c : Priority) (x : X) (n : ℕ)
      → Pushes facts old mid time c x n → due_of facts old ≡ None →
      IsNextClass c (record mid { waiting = mid.waiting + n })
  alone-class facts old mid time c x n p alone d moment idle is =
      (pair_same (c, max time mid.free) (d, moment) (sym (alone-next facts old mid time c x n p alone) ∙ is)).0

  -- its turn is then due
  pub alone-pushed : (facts : X → Facts) (old mid : PortState X) (time : ℕ) (c : Priority) (x : X) (n : ℕ)
      → Pushes facts old mid time c x n → due_of facts old ≡ None →
      due_of facts (record mid { waiting = mid.waiting + n })
      ≡ Some (due_from facts old.byte_ns (record { time = time; item = x }) (max time old.free))
  alone-pushed facts old mid time c x n p alone =
      due_idle facts (record mid { waiting = mid.waiting + n }) c (max time mid.free)
      (record { time = time; item = x }) (st.sending ∙ alone-idle facts old alone)
      (alone-next facts old mid time c x n p alone) (front c own)
      ∙ (ap (λ b. Some (due_from facts b (record { time = time; item = x }) (max time mid.free))) st.byte_ns
      ∙ ap (λ f. Some (due_from facts old.byte_ns (record { time = time; item = x }) (max time f))) st.free)
    where
      st : Stays c old mid
      st = stays c old mid p.changes

      own : queue_of c mid ≡ record { time = time; item = x } ∷ []
      own = p.queue ∙ ap (λ ws. ws ++ record { time = time; item = x } ∷ []) (alone-queue facts old c alone)

      front : (d : Priority) → queue_of d mid ≡ record { time = time; item = x } ∷ []
          → slice_get (queue_of d (record mid { waiting = mid.waiting + n })) 0
          ≡ Some (record { time = time; item = x })
      front High e = ap (λ ws. slice_get ws 0) e
      front Low e = ap (λ ws. slice_get ws 0) e

  -- nothing is given by any time
  pub alone-quiet : (facts : X → Facts) (p : PortState X) (t : ℕ) → due_of facts p ≡ None → IsQuiet facts p t
  alone-quiet facts p t alone = subst (λ o. IfSome o (λ d. IsAfter t d)) (sym alone) tt

  -- what is due is given by 1.2e15 ns
  pub due-given : (facts : X → Facts) (p : PortState X) (d : Due) → ((x : X) → AreLawful (facts x))
      → IsPortSound facts p → due_of facts p ≡ Some d → given_at d ≤ drain_end
  due-given facts p d lawful sound is =
      subst (λ o. IfSome o (λ d. given_at d ≤ drain_end)) is (due_limit facts p lawful sound)

  -- what the answer of a put says beside, is no matter
  pub puts-alike : {E F : Type 0} (facts : X → Facts) (old new : PortState X) (time : ℕ) (c : Priority) (x : X)
      (e : E) (f : F) → Puts facts old new time c x (Ok e) → Puts facts old new time c x (Ok f)
  puts-alike facts old new time c x e f p = record {
    ok = p.ok;
    err = p.err;
    back = p.back;
    lost = p.lost;
    lost_by_any = p.lost_by_any;
    quiet = p.quiet;
    held = p.held;
    clock = p.clock;
  }
