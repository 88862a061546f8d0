-- The weights of the entries without a turn.
use Rattle.std.proofs.Common.{◌≡◌, ◌≢◌, ℕ, ◌+◌, ◌<◌, ◌≤◌, ◌&&◌, ◌||◌, Bool, true, false, List, []}
use Rattle.std.proofs.Common.{◌∷◌, ◌++◌, Some, inl, inr, refl, ap, subst, arith}
use Rattle.std.proofs.Common.{if◌then◌else◌, suc, zero}
use Rattle.std.specs.Prelude.{nat_le}
use Rattle.std.specs.List.{slice_get}
use Rattle.std.proofs.lemmas.Bool.{cases_Bool, le-leb, leb-true}
use Rattle.afdx_frame.specs.declared.link.Priority.{Priority}
use Rattle.afdx_frame.specs.declared.link.Priority.TheVariants.{High, Low}
use Rattle.afdx_port.specs.Schedule.{Entry, Turn, has_turn, bytes_without_turn}
use Rattle.afdx_frame.specs.Flows.{is_class}
use Rattle.afdx_port.proofs.TurnLemmas.{eqb-same, eqb-other}
use Rattle.afdx_law_bounds.specs.Curve.{comes_between, wire_in, wire_between, left_over}

pub or-false : (a b : Bool) → (a || b) ≡ false → b ≡ false
or-false true b h = absurd (cc h)
or-false false b h = h

class_same : (c d : Priority) → c ≡ d → is_class d c ≡ true
class_same High High h = refl
class_same High Low h = absurd (cc h)
class_same Low High h = absurd (cc h)
class_same Low Low h = refl

class_other : (c d : Priority) → is_class d c ≡ true → c ≡ d
class_other High High h = refl
class_other High Low h = absurd (cc h)
class_other Low High h = absurd (cc h)
class_other Low Low h = refl

and_split : (a b : Bool) → (a && b) ≡ true → (a ≡ true) × (b ≡ true)
and_split true b h = (refl, h)
and_split false b h = absurd (cc h)

module _ {X : Type 0} where
  above : (weight : Entry X → ℕ) (s : Turn X) (turns : List (Turn X)) (place : ℕ) (es : List (Entry X)) →
      s.place < place → left_over weight (s ∷ turns) place es ≡ left_over weight turns place es
  above weight s turns place [] lt = refl
  above weight s turns place (e ∷ es) lt =
      let other : s.place ≢ place = λ q. omega arith in
      let rest = above weight s turns (place + 1) es (omega arith) in
      rw (eqb-other s.place place other) (ap (λ n. (if has_turn turns place then 0 else weight e) + n) rest)

  -- a turn takes its entry's weight
  pub served : (weight : Entry X → ℕ) (s : Turn X) (turns : List (Turn X)) (place i : ℕ) (e : Entry X)
      (es : List (Entry X)) → slice_get es i ≡ Some e → s.place ≡ place + i → has_turn turns s.place ≡ false →
      left_over weight (s ∷ turns) place es + weight e ≡ left_over weight turns place es
  served weight s turns place i e [] h at free = cc
  served weight s turns place zero e (d ∷ ds) h at free =
      let here : s.place ≡ place = omega arith in
      let same : d ≡ e = cc in
      let none : has_turn turns place ≡ false = subst (λ (p : ℕ). has_turn turns p ≡ false) here free in
      let rest = above weight s turns (place + 1) ds (omega arith) in
      let weights : weight d ≡ weight e = ap weight same in
      rw (eqb-same s.place place here, none, rest) (omega arith)
  served weight s turns place (suc i) e (d ∷ ds) h at free =
      let other : s.place ≢ place = λ q. omega arith in
      let rest = served weight s turns (place + 1) i e ds h (omega arith) free in
      rw (eqb-other s.place place other) (omega (arith, rest))

  -- the weights are at most what came of both classes, if that is so of each entry without a turn
  pub both_classes : (weight : Entry X → ℕ) (turns : List (Turn X)) (since u v place : ℕ) (es : List (Entry X)) →
      ((i : ℕ) (e : Entry X) → slice_get es i ≡ Some e → has_turn turns (place + i) ≡ false
      → weight e ≤ wire_in High since u e + wire_in Low since v e) →
      left_over weight turns place es ≤ wire_between High since u es + wire_between Low since v es
  both_classes weight turns since u v place [] each = omega arith
  both_classes weight turns since u v place (e ∷ es) each =
      let rest = both_classes weight turns since u v (place + 1) es
      (λ i d g free. each (suc i) d g (subst (λ (p : ℕ). has_turn turns p ≡ false) (omega arith) free)) in
      elim (cases_Bool (has_turn turns place)) [
        | inl has ↦ rw has (omega (arith, rest))
        | inr free ↦ (let here =
            each 0 e refl (subst (λ (p : ℕ). has_turn turns p ≡ false) (omega arith) free) in
            rw free (omega (arith, rest, here)))
      ]

  -- and of one class
  pub one_class : (weight : Entry X → ℕ) (turns : List (Turn X)) (class : Priority) (since until place : ℕ)
      (es : List (Entry X)) →
      ((i : ℕ) (e : Entry X) → slice_get es i ≡ Some e → has_turn turns (place + i) ≡ false
      → weight e ≤ wire_in class since until e) →
      left_over weight turns place es ≤ wire_between class since until es
  one_class weight turns class since until place [] each = omega arith
  one_class weight turns class since until place (e ∷ es) each =
      let rest = one_class weight turns class since until (place + 1) es
      (λ i d g free. each (suc i) d g (subst (λ (p : ℕ). has_turn turns p ≡ false) (omega arith) free)) in
      elim (cases_Bool (has_turn turns place)) [
        | inl has ↦ rw has (omega (arith, rest))
        | inr free ↦ (let here =
            each 0 e refl (subst (λ (p : ℕ). has_turn turns p ≡ false) (omega arith) free) in
            rw free (omega (arith, rest, here)))
      ]

  -- the lengths of the entries without a turn are at most their weights, if that is so of each
  pub bytes_weigh : (weight : Entry X → ℕ) (turns : List (Turn X)) (place : ℕ) (es : List (Entry X)) →
      ((i : ℕ) (e : Entry X) → slice_get es i ≡ Some e → e.bytes ≤ weight e) →
      bytes_without_turn turns place es ≤ left_over weight turns place es
  bytes_weigh weight turns place [] each = omega arith
  bytes_weigh weight turns place (e ∷ es) each =
      let rest = bytes_weigh weight turns (place + 1) es (λ i d g. each (suc i) d g) in
      let here = each 0 e refl in
      elim (cases_Bool (has_turn turns place))
      [ inl has ↦ rw has (omega (arith, rest)) | inr free ↦ rw free (omega (arith, rest, here)) ]

  pub same_left : (v w : Entry X → ℕ) (turns : List (Turn X)) (place : ℕ) (es : List (Entry X)) →
      ((i : ℕ) (e : Entry X) → slice_get es i ≡ Some e → v e ≡ w e) →
      left_over v turns place es ≡ left_over w turns place es
  same_left v w turns place [] each = refl
  same_left v w turns place (e ∷ es) each =
      let rest = same_left v w turns (place + 1) es (λ i d g. each (suc i) d g) in
      let here : v e ≡ w e = each 0 e refl in
      rw (rest, here) refl

  pub left_add : (v w : Entry X → ℕ) (turns : List (Turn X)) (place : ℕ) (es : List (Entry X)) →
      left_over (λ e. v e + w e) turns place es ≡ left_over v turns place es + left_over w turns place es
  left_add v w turns place [] = refl
  left_add v w turns place (e ∷ es) =
      let rest = left_add v w turns (place + 1) es in
      elim (cases_Bool (has_turn turns place))
      [ inl has ↦ rw has (omega (arith, rest)) | inr free ↦ rw free (omega (arith, rest)) ]

  -- a further entry
  pub between_push : (class : Priority) (since until : ℕ) (es : List (Entry X)) (e : Entry X) →
      wire_between class since until (es ++ e ∷ []) ≡ wire_between class since until es + wire_in class since until e
  between_push class since until [] e = omega arith
  between_push class since until (d ∷ ds) e = let rest = between_push class since until ds e in omega (arith, rest)

  -- an entry of the class in the interval counts in full
  pub wire_full : (class : Priority) (since until : ℕ) (e : Entry X) → e.priority ≡ class → since ≤ e.time →
      e.time ≤ until → wire_in class since until e ≡ e.bytes + 20
  wire_full class since until e same from to =
      rw (class_same e.priority class same, le-leb since e.time from, le-leb e.time until to) refl

  -- an interval that begins later misses nothing, if the class's entries come later
  pub wire_later : (class : Priority) (since until : ℕ) (e : Entry X) → (e.priority ≡ class → since ≤ e.time) →
      wire_in class 0 until e ≤ wire_in class since until e
  wire_later class since until e later =
      elim (cases_Bool (comes_between class 0 until e)) [
        | inr out ↦ rw out (omega arith)
        | inl counted ↦ (let both =
            and_split (is_class class e.priority) (nat_le 0 e.time && nat_le e.time until) counted in
            let same : e.priority ≡ class = class_other e.priority class both.0 in
            let times = and_split (nat_le 0 e.time) (nat_le e.time until) both.1 in
            let full = wire_full class since until e same (later same) (leb-true e.time until times.1) in
            rw (full, counted) (omega arith))
      ]
