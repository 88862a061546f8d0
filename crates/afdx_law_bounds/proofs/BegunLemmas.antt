-- The turns that begin before a moment.
use Rattle.std.proofs.Common.{◌≡◌, ℕ, ◌+◌, ◌<◌, ◌≤◌, max, false, List, [], ◌∷◌, Some, inl, inr, refl, ap, arith}
use Rattle.std.specs.List.{slice_get, AllByRecursion}
use Rattle.std.proofs.lemmas.Bool.{cases_lt}
use Rattle.afdx_frame.specs.declared.link.Priority.{Priority}
use Rattle.afdx_frame.specs.declared.link.Priority.TheVariants.{High, Low}
use Rattle.afdx_frame.specs.Flows.{is_class}
use Rattle.afdx_port.specs.Schedule.{Entry, Turn, end_of, IsWithoutTurn, AreTurns, begun_before}
use Rattle.afdx_port.proofs.TurnLemmas.{priority_cases, nat_lt-true, nat_lt-false, ends_after}
use Rattle.afdx_law_bounds.specs.Curve.{wire_in}
use Rattle.afdx_law_bounds.proofs.WorkLemmas.{wire_full}

low-none : (c : Priority) → c ≡ High → is_class Low c ≡ false
low-none High h = refl
low-none Low h = absurd (cc h)

high-none : (c : Priority) → c ≡ Low → is_class High c ≡ false
high-none High h = absurd (cc h)
high-none Low h = refl

module _ {X : Type 0} where
  wire_none : (class : Priority) (since until : ℕ) (e : Entry X) → is_class class e.priority ≡ false →
      wire_in class since until e ≡ 0
  wire_none class since until e other = rw other refl

  -- an entry counts in full in its own class
  pub both_full : (since u v : ℕ) (e : Entry X) → since ≤ e.time → (e.priority ≡ High → e.time ≤ u) →
      (e.priority ≡ Low → e.time ≤ v) → wire_in High since u e + wire_in Low since v e ≡ e.bytes + 20
  both_full since u v e from high low =
      elim (priority_cases e.priority) [
        | inl is ↦ rw (
          wire_full High since u e is from (high is),
          wire_none Low since v e (low-none e.priority is),
        ) (omega arith)
        | inr is ↦ rw (
          wire_full Low since v e is from (low is),
          wire_none High since u e (high-none e.priority is),
        ) (omega arith)
      ]

  -- all turns began before t, if the last did
  started_all : (byte_ns : ℕ) (entries : List (Entry X)) (t : ℕ) (turns : List (Turn X)) →
      AreTurns byte_ns entries turns → end_of turns ≤ t → AllByRecursion (λ s. s.moment ≤ t) turns
  started_all byte_ns entries t [] h over = tt
  started_all byte_ns entries t (s ∷ rest) h over =
      let lasts : s.moment ≤ s.end = ends_after byte_ns entries rest s h.0 in
      let after : end_of rest ≤ s.moment = h.0.after in
      let first : s.moment ≤ t = omega (arith, lasts, over) in
      (first, started_all byte_ns entries t rest h.1 (omega arith))

  earlier_started : (t u : ℕ) (turns : List (Turn X)) → t < u → AllByRecursion (λ s. s.moment ≤ t) turns →
      AllByRecursion (λ s. s.moment < u) turns
  earlier_started t u [] lt h = tt
  earlier_started t u (s ∷ rest) lt h = (let first : s.moment ≤ t = h.0 in omega arith, earlier_started t u rest lt h.1)

  begun_alone : (t : ℕ) (begun : List (Turn X)) → AllByRecursion (λ s. s.moment < t) begun →
      begun_before t begun ≡ begun
  begun_alone t [] h = refl
  begun_alone t (x ∷ xs) h = let e = begun_alone t xs h.1 in let lt : x.moment < t = h.0 in
      rw (nat_lt-true x.moment t lt) (ap (λ zs. x ∷ zs) e)

  -- the turns that begin before t, after which nothing that came before t is left behind in a pause
  pub record Begun (byte_ns : ℕ) (entries : List (Entry X)) (turns : List (Turn X)) (t : ℕ) : Type 0 where
    pub begun : List (Turn X)
    pub is : begun_before t turns ≡ begun
    pub are : AreTurns byte_ns entries begun
    pub started : AllByRecursion (λ s. s.moment < t) begun
    pub left : end_of begun < t → (place : ℕ) (e : Entry X) → IsWithoutTurn entries begun place e → t ≤ e.time

  pub begun_at : (byte_ns : ℕ) (entries : List (Entry X)) (turns : List (Turn X)) (t : ℕ) →
      AreTurns byte_ns entries turns →
      (end_of turns < t → (place : ℕ) (e : Entry X) → IsWithoutTurn entries turns place e → t ≤ e.time) →
      Begun byte_ns entries turns t
  begun_at byte_ns entries [] t h left = record { begun = []; is = refl; are = tt; started = tt; left = left }
  begun_at byte_ns entries (s ∷ rest) t h left =
      elim (cases_lt s.moment t) [
        | inl before ↦ (let after : end_of rest ≤ s.moment = h.0.after in
            let all : AllByRecursion (λ x. x.moment < t) (s ∷ rest) = (
              before,
              earlier_started s.moment t rest before
                  (started_all byte_ns entries s.moment rest h.1 after),
            ) in
            record { begun = s ∷ rest; is = begun_alone t (s ∷ rest) all; are = h; started = all; left = left })
        | inr later ↦ (let r = begun_at byte_ns entries rest t h.1 (λ idle place e free. elim (cases_lt e.time t) [
          | inl early ↦ absurd (let least : s.moment ≤ max e.time (end_of rest) =
              h.0.least (max e.time (end_of rest)) place e free (omega arith)
              (omega arith) in omega arith)
          | inr late ↦ late
        ]) in
            record {
              begun = r.begun;
              is = rw (nat_lt-false s.moment t later) r.is;
              are = r.are;
              started = r.started;
              left = r.left;
            })
      ]

  pub each_turn : (P : Entry X → Type 0) (byte_ns : ℕ) (entries : List (Entry X)) (turns : List (Turn X)) →
      ((place : ℕ) (e : Entry X) → slice_get entries place ≡ Some e → P e) →
      AreTurns byte_ns entries turns → AllByRecursion (λ s. P s.entry) turns
  each_turn P byte_ns entries [] each h = tt
  each_turn P byte_ns entries (s ∷ rest) each h =
      (each s.place s.entry h.0.own.stands, each_turn P byte_ns entries rest each h.1)
