-- Frames of one class have their turns in the order in which they came.
use Rattle.std.proofs.Common.{◌≡◌, ◌≢◌, ℕ, ◌+◌, ◌<◌, ◌≤◌, Bool, true, false, if◌then◌else◌, List}
use Rattle.std.proofs.Common.{[], ◌∷◌, ◌++◌, length, filter, Some, inl, inr, refl, sym, ap}
use Rattle.std.proofs.Common.{subst, arith, ◌∙◌, suc, zero}
use Rattle.std.specs.List.{slice_get}
use Rattle.std.proofs.lemmas.List.{append-nil, append_assoc}
use Rattle.std.proofs.lemmas.List.Elements.{filter-append}
use Rattle.std.proofs.lemmas.Bool.{cases_Bool}
use Rattle.afdx_port.specs.Schedule.{Entry, Turn, has_turn, AreTurns, IsSchedule}
use Rattle.afdx_port.specs.Classes.{entries_in, without_turn, AreOfOneClass, GoInOrder}
use Rattle.afdx_port.proofs.TurnLemmas.{eqb-same, eqb-other}

module _ {X : Type 0} where
  -- a turn of an earlier place takes nothing out
  out_above : (s : Turn X) (turns : List (Turn X)) (place : ℕ) (es : List (Entry X))
      → s.place < place → without_turn (s ∷ turns) place es ≡ without_turn turns place es
  out_above s turns place [] lt = refl
  out_above s turns place (e ∷ es) lt =
      let other : s.place ≢ place = λ q. omega arith in
      let rest = out_above s turns (place + 1) es (omega arith) in
      rw (eqb-other s.place place other) (ap (λ zs. if has_turn turns place then zs else e ∷ zs) rest)

  -- a turn takes out its entry, which is the first of those that pass the test and have no turn
  taken_out : (test : Entry X → Bool) (s : Turn X) (turns : List (Turn X)) (place i : ℕ)
      (e : Entry X) (es : List (Entry X)) → slice_get es i ≡ Some e → s.place ≡ place + i
      → has_turn turns s.place ≡ false →
      ((j : ℕ) (d : Entry X) → slice_get es j ≡ Some d → has_turn turns (place + j) ≡ false
      → test d ≡ true → test e ≡ true → i ≤ j) →
      filter test (without_turn turns place es) ≡ filter test (e ∷ [])
      ++ filter test (without_turn (s ∷ turns) place es)
  taken_out test s turns place i e [] h at free first = cc
  taken_out test s turns place zero e (d ∷ ds) h at free first =
      let here : s.place ≡ place = omega arith in
      let same : d ≡ e = cc h in
      let none : has_turn turns place ≡ false = subst (λ (p : ℕ). has_turn turns p ≡ false) here free in
      let rest = out_above s turns (place + 1) ds (omega arith) in
      rw (eqb-same s.place place here, none, rest, same)
      (filter-append test (e ∷ []) (without_turn turns (place + 1) ds))
  taken_out test s turns place (suc i) e (d ∷ ds) h at free first =
      let other : s.place ≢ place = λ q. omega arith in
      let rest = taken_out test s turns (place + 1) i e ds h (omega arith) free
      (λ j f g none passes own. let le =
      first (suc j) f g (subst (λ (p : ℕ). has_turn turns p ≡ false) (omega arith) none) passes
      own in omega arith) in
      elim (cases_Bool (has_turn turns place)) [
        | inl has ↦ rw (eqb-other s.place place other, has) rest
        | inr none ↦ elim (cases_Bool (test d)) [
          | inr fails ↦ rw (eqb-other s.place place other, none, fails) rest
          | inl passes ↦ elim (cases_Bool (test e)) [
            | inl own ↦ absurd (let le =
                first 0 d refl (subst (λ (p : ℕ). has_turn turns p ≡ false) (omega arith) none)
                passes own in omega arith)
            | inr not ↦ (let r = rw not at rest in
                rw (eqb-other s.place place other, none, passes, not) (ap (λ zs. d ∷ zs) r))
          ]
        ]
      ]

  -- none is without a turn where each has one
  none_without : (turns : List (Turn X)) (place : ℕ) (es : List (Entry X))
      → ((i : ℕ) → i < length es → has_turn turns (place + i) ≡ true) → without_turn turns place es ≡ []
  none_without turns place [] all = refl
  none_without turns place (e ∷ es) all =
      let here : has_turn turns place ≡ true =
      subst (λ (p : ℕ). has_turn turns p ≡ true) (omega arith) (all 0 (omega arith)) in
      rw here (none_without turns (place + 1) es
      (λ i lt. subst (λ (p : ℕ). has_turn turns p ≡ true) (omega arith) (all (suc i) (omega arith))))

  all_without : (place : ℕ) (es : List (Entry X)) → without_turn [] place es ≡ es
  all_without place [] = refl
  all_without place (e ∷ es) = ap (λ zs. e ∷ zs) (all_without (place + 1) es)

  pub go_in_order : (byte_ns : ℕ) (test : Entry X → Bool) (entries : List (Entry X))
      (turns : List (Turn X)) → AreOfOneClass test entries → AreTurns byte_ns entries turns
      → GoInOrder test entries turns
  go_in_order byte_ns test entries [] one are = ap (λ zs. filter test zs) (sym (all_without 0 entries))
  go_in_order byte_ns test entries (s ∷ earlier) one are =
      let n = are.0 in
      let before = go_in_order byte_ns test entries earlier one are.1 in
      let out = taken_out test s earlier 0 s.place s.entry entries n.own.stands (omega arith) n.own.without
      (λ j d g none passes own.
      n.in_order j d (record {
        stands = g;
        without = subst (λ (p : ℕ). has_turn earlier p ≡ false) (omega arith) none;
      })
      (one.1 j d g passes ∙ sym (one.1 s.place s.entry n.own.stands own))) in
      before ∙ (ap (λ zs. filter test (entries_in earlier) ++ zs) out
      ∙ (sym (append_assoc (filter test (entries_in earlier)) (filter test (s.entry ∷ []))
      (filter test (without_turn (s ∷ earlier) 0 entries)))
      ∙ ap (λ zs. zs ++ filter test (without_turn (s ∷ earlier) 0 entries))
      (sym (filter-append test (entries_in earlier) (s.entry ∷ [])))))

  pub all_go_in_order : (byte_ns : ℕ) (test : Entry X → Bool) (entries : List (Entry X))
      (turns : List (Turn X)) → AreOfOneClass test entries → IsSchedule byte_ns entries turns
      → filter test entries ≡ filter test (entries_in turns)
  all_go_in_order byte_ns test entries turns one all =
      let none = none_without turns 0 entries
      (λ i lt. subst (λ (p : ℕ). has_turn turns p ≡ true) (omega arith) (all.all_have_turns i lt)) in
      go_in_order byte_ns test entries turns one all.each_next
      ∙ (ap (λ zs. filter test (entries_in turns) ++ filter test zs) none ∙ append-nil (filter test (entries_in turns)))
