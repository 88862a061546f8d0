-- The class of the frame that goes next is known.
use Rattle.std.proofs.Common.{Bool, true, ◌≡◌, ℕ, ◌≤◌, Option}
use Rattle.std.proofs.Common.{Some, None, refl, sym, ap, subst, arith, ◌∙◌, max, inl, inr}
use Rattle.std.specs.Prelude.{IfSome, is_some}
use Rattle.std.specs.List.{slice_get}
use Rattle.std.proofs.lemmas.Bool.{cases_lt}
use Rattle.afdx_frame.specs.declared.link.Priority.{Priority}
use Rattle.afdx_port.specs.declared.left.Left.{Left}
use Rattle.afdx_port.specs.declared.left.Due.{Due}
use Rattle.afdx_port.specs.declared.port_state.Waiting.{Waiting}
use Rattle.afdx_port.specs.declared.port_state.PortState.{PortState}
use Rattle.afdx_port.specs.Facts.{Facts, AreLawful}
use Rattle.afdx_port.specs.Due.{given_at, order_of, IsAfter, IsBy}
use Rattle.afdx_port.specs.Held.{choice_of, queue_of, due_from, due_of, IsNextClass, IsQuiet}
use Rattle.afdx_port.specs.Ports.{order_at, IsGivenBy}
use Rattle.afdx_port.specs.Sound.{IsPortSound}
use Rattle.afdx_port.specs.Calls.{Takes}
use Rattle.afdx_port.proofs.QueueLemmas.{pair_same}
use Rattle.afdx_port.proofs.DueLemmas.{due_idle, due_nothing, has_front}
use Rattle.afdx_port.proofs.SoundLemmas.{start_is}
use Rattle.afdx_port.proofs.TakeLemmas.{sending_takes}
use Rattle.afdx_port.proofs.AloneLemmas.{alone-queue}

-- a number that is the order of what is due tells it
pub due-told : (order : ℕ) (o : Option Due) (d told : Due) → order ≡ order_at o → o ≡ Some d
    → ((z : Due) → order ≡ order_of z → told ≡ z) → o ≡ Some told
due-told order o d told at is tells =
    is ∙ ap (λ (z : Due). Some z) (sym (tells d (at ∙ ap (λ z. order_at z) is)))

-- also where all that is known is that a turn is due and given by then
pub given-told : (order t : ℕ) (o : Option Due) (told : Due) → order ≡ order_at o → IsGivenBy t o
    → ((z : Due) → order ≡ order_of z → told ≡ z) → (o ≡ Some told) × IsBy t told
given-told order t None told at given tells = absurd given
given-told order t (Some d) told at given tells =
    let same : told ≡ d = tells d at in
    (ap (λ (z : Due). Some z) (sym same), subst (λ (z : Due). IsBy t z) (sym same) given)

module _ {X : Type 0} where
  -- a port that isn't quiet gives a turn by then
  pub not-quiet : (facts : X → Facts) (p : PortState X) (t : ℕ) → (IsQuiet facts p t → ⊥)
      → IsGivenBy t (due_of facts p)
  not-quiet facts p t some = by (due_of facts p) refl
    where
      by : (o : Option Due) → due_of facts p ≡ o → IsGivenBy t (due_of facts p)
      by None e = absurd (some (subst (λ (o : Option Due). IfSome o (λ d. IsAfter t d)) (sym e) tt))
      by (Some d) e = elim (cases_lt t (given_at d)) [
        | inl lt ↦ absurd (some (subst (λ (o : Option Due). IfSome o (λ d. IsAfter t d)) (sym e) lt))
        | inr ge ↦ subst (λ (o : Option Due). IsGivenBy t o) (sym e) (let le = ge in omega (arith, le))
      ]

  -- where the first frame of a class waits, a frame goes next
  some-chosen : (facts : X → Facts) (p : PortState X) (class : Priority) (w : Waiting X) → p.sending ≡ None
      → slice_get (queue_of class p) 0 ≡ Some w
      → (d : Priority) × (moment : ℕ) × (choice_of p ≡ Some (d, moment))
  some-chosen facts p class w idle first = by (choice_of p) refl
    where
      by : (o : Option (Priority × ℕ)) → choice_of p ≡ o
          → (d : Priority) × (moment : ℕ) × (choice_of p ≡ Some (d, moment))
      by (Some (d, moment)) e = (d, moment, e)
      by None e =
          let q = alone-queue facts p class (due_nothing facts p idle e) in
          absurd (let f : slice_get (queue_of class p) 0 ≡ None = ap (λ ws. slice_get ws 0) q in cc (f, first))

  -- the first frame of the class that goes next, and its turn
  pub record IsChosen (facts : X → Facts) (p : PortState X) (class : Priority) (w : Waiting X) : Type 0 where
    pub moment : ℕ
    pub chosen : choice_of p ≡ Some (class, moment)
    pub is : moment ≡ max w.time p.free
    pub due : due_of facts p ≡ Some (due_from facts p.byte_ns w moment)

  pub is-chosen : (facts : X → Facts) (p : PortState X) (class : Priority) (w : Waiting X) → p.sending ≡ None
      → IsNextClass class p → slice_get (queue_of class p) 0 ≡ Some w → IsChosen facts p class w
  is-chosen facts p class w idle next first =
      let s = some-chosen facts p class w idle first in
      let same : class ≡ s.0 = next s.0 s.1 idle s.2 in
      let chosen : choice_of p ≡ Some (class, s.1) =
      s.2 ∙ ap (λ (z : Priority). Some (z, s.1)) (sym same) in
      let f = has_front p class s.1 chosen in
      let front : slice_get (queue_of class p) 0 ≡ Some f.0 = ap (λ ws. slice_get ws 0) f.2 in
      let own : f.0 ≡ w = cc (front, first) in
      record {
        moment = s.1;
        chosen = chosen;
        is = start_is p class s.1 f.0 f.1 chosen f.2 ∙ ap (λ (z : Waiting X). max z.time p.free) own;
        due = due_idle facts p class s.1 w idle chosen first;
      }

  -- it goes at no other moment
  pub same-moment : (p : PortState X) (c d : Priority) (m n : ℕ) → choice_of p ≡ Some (c, m)
      → choice_of p ≡ Some (d, n) → m ≡ n
  same-moment p c d m n one other = (pair_same (c, m) (d, n) (sym one ∙ other)).1

  -- where no frame of that class waits, none goes next
  pub none-next : (p : PortState X) (class c : Priority) (moment : ℕ) → IsNextClass class p → p.sending ≡ None
      → choice_of p ≡ Some (c, moment) → slice_get (queue_of class p) 0 ≡ None → ⊥
  none-next p class c moment next idle chosen none =
      let same : class ≡ c = next c moment idle chosen in
      let f = has_front p class moment
      (chosen ∙ ap (λ (z : Priority). Some (z, moment)) (sym same)) in
      let front : slice_get (queue_of class p) 0 ≡ Some f.0 = ap (λ ws. slice_get ws 0) f.2 in
      cc (front, none)

  -- the turn that had begun is taken, and is this one
  pub begun-given : (facts : X → Facts) (old : PortState X) (until : ℕ) (d : Due)
      (o after : Option (Left X)) (b : Bool) (l : Left X) → ((x : X) → AreLawful (facts x))
      → IsPortSound facts old → old.clock ≤ until → b ≡ is_some old.sending → b ≡ true
      → due_of facts old ≡ Some d → IsBy until d → o ≡ old.sending → after ≡ None → o ≡ Some l →
      Takes facts old (record old { clock = until; sending = after }) until (Some l)
  begun-given facts old until d o after b l lawful sound later test true_ due given is gone left =
      subst (λ (z : Option (Left X)). Takes facts old (record old { clock = until; sending = after }) until z) left
      (sending_takes facts old until d o after b lawful sound later test true_ due given is gone)
