-- Every list of entries has a schedule, which a recursion gives.
use Rattle.std.proofs.Common.{◌-◌, option_map, true, false, ◌≡◌, ℕ, ◌+◌, ◌<◌, ◌≤◌, max}
use Rattle.std.proofs.Common.{nat_lt, List, [], ◌∷◌, length, map, Option, Some, None, inl, inr}
use Rattle.std.proofs.Common.{refl, sym, ap, subst, arith, ◌∙◌, suc, zero}
use Rattle.std.specs.List.{slice_get}
use Rattle.std.proofs.lemmas.Option.{slice_get_within, slice_get-map}
use Rattle.std.proofs.lemmas.Bool.{cases_Bool, cases_lt}
use Rattle.afdx_frame.specs.declared.link.Priority.{Priority}
use Rattle.afdx_frame.specs.declared.link.Priority.TheVariants.{High, Low}
use Rattle.afdx_port.specs.Schedule.{Entry, Turn, has_turn, end_of, IsWithoutTurn, IsNext, AreTurns}
use Rattle.afdx_port.specs.Schedule.{IsSchedule, bytes_without_turn}
use Rattle.afdx_port.specs.ScheduleOf.{class_of, rank, first_of, first_without, turn_at}
use Rattle.afdx_port.specs.ScheduleOf.{with_turn_of, first_turns, schedule_of, AreInOrder}
use Rattle.afdx_port.proofs.TurnLemmas.{nat_lt-true, nat_lt-false, bytes_served}

class_small : (c : Priority) → class_of c ≤ 1
class_small High = omega arith
class_small Low = omega arith

class_high : (b c : Priority) → class_of b ≤ class_of c → c ≡ High → b ≡ High
class_high High c le h = refl
class_high Low High le h = absurd (omega arith)
class_high Low Low le h = h

-- the first candidate goes before the second
record Le {X : Type 0} (free p : ℕ) (e : Entry X) (q : ℕ) (d : Entry X) : Type 0 where
  ranks : rank free e ≤ rank free d
  order : rank free d ≤ rank free e → p ≤ q

-- this entry without a turn goes before all others, the list beginning at `place`
record IsLeast {X : Type 0} (free : ℕ) (turns : List (Turn X)) (place : ℕ) (es : List (Entry X))
    (p : ℕ) (e : Entry X) : Type 0 where
  i : ℕ
  at : p ≡ place + i
  stands : slice_get es i ≡ Some e
  without : has_turn turns p ≡ false
  least : (j : ℕ) (d : Entry X) → slice_get es j ≡ Some d → has_turn turns (place + j) ≡ false
      → Le free p e (place + j) d

module _ {X : Type 0} where
  -- none is left exactly if each has a turn
  none_left : (free : ℕ) (turns : List (Turn X)) (place : ℕ) (es : List (Entry X))
      → first_without free turns place es ≡ None → (i : ℕ) → i < length es
      → has_turn turns (place + i) ≡ true
  none_left free turns place [] h i lt = absurd (omega arith)
  none_left free turns place (e ∷ es) h i lt =
      elim (cases_Bool (has_turn turns place)) [
        | inl has ↦ at_place i lt has (none_left free turns (place + 1) es (rw has at h))
        | inr has ↦ absurd (some_first (place, e) (first_without free turns (place + 1) es) (rw has at h))
      ]
    where
      some_first : (p : ℕ × Entry X) (o : Option (ℕ × Entry X)) → first_of free p o ≡ None → ⊥
      some_first p None k = cc k
      some_first p (Some q) k =
          elim (cases_Bool (nat_lt (rank free q.1) (rank free p.1)))
          [ inl b ↦ (let m = rw b at k in cc m) | inr b ↦ (let m = rw b at k in cc m) ]

      at_place : (k : ℕ) → k < length (e ∷ es) → has_turn turns place ≡ true
          → ((j : ℕ) → j < length es → has_turn turns (place + 1 + j) ≡ true)
          → has_turn turns (place + k) ≡ true
      at_place zero lt has rest = subst (λ (n : ℕ). has_turn turns n ≡ true) (omega arith) has
      at_place (suc k) lt has rest = subst (λ (n : ℕ). has_turn turns n ≡ true) (omega arith) (rest k (omega arith))

  -- the least of a longer list, whose first entry has a turn or goes later
  least_skips : (free : ℕ) (turns : List (Turn X)) (place : ℕ) (e : Entry X) (es : List (Entry X))
      (p : ℕ) (f : Entry X) → IsLeast free turns (place + 1) es p f →
      (has_turn turns place ≡ false → Le free p f place e) → IsLeast free turns place (e ∷ es) p f
  least_skips free turns place e es p f h first = record {
    i = suc h.i;
    at = let k = h.at in omega arith;
    stands = h.stands;
    without = h.without;
    least = others;
  }
    where
      others : (j : ℕ) (d : Entry X) → slice_get (e ∷ es) j ≡ Some d → has_turn turns (place + j)
          ≡ false → Le free p f (place + j) d
      others zero d g w =
          let same : e ≡ d = cc g in
          let zero_on : place ≡ place + zero = omega arith in
          let P : Entry X → Type 0 = λ z. Le free p f (place + zero) z in
          let Q : ℕ → Type 0 = λ n. Le free p f n e in
          subst P same (subst Q zero_on (first (subst (λ (n : ℕ). has_turn turns n ≡ false) (sym zero_on) w)))
      others (suc j) d g w =
          let moved : place + suc j ≡ place + 1 + j = omega arith in
          let Q : ℕ → Type 0 = λ n. Le free p f n d in
          subst Q (sym moved) (h.least j d g (subst (λ (n : ℕ). has_turn turns n ≡ false) moved w))

  -- the first entry is the least, where it goes before what is least of the rest, or the rest has none
  least_here : (free : ℕ) (turns : List (Turn X)) (place : ℕ) (e : Entry X) (es : List (Entry X))
      → has_turn turns place ≡ false →
      ((j : ℕ) (d : Entry X) → slice_get es j ≡ Some d → has_turn turns (place + 1 + j) ≡ false
      → rank free e ≤ rank free d) → IsLeast free turns place (e ∷ es) place e
  least_here free turns place e es w rest =
      record { i = 0; at = omega arith; stands = refl; without = w; least = others }
    where
      others : (j : ℕ) (d : Entry X) → slice_get (e ∷ es) j ≡ Some d → has_turn turns (place + j)
          ≡ false → Le free place e (place + j) d
      others zero d g v = let same : e ≡ d = cc g in
          record {
            ranks = let r : rank free e ≡ rank free d = ap (λ z. rank free z) same in
                omega arith;
            order = λ k. omega arith;
          }
      others (suc j) d g v =
          let moved : place + suc j ≡ place + 1 + j = omega arith in
          record { ranks = rest j d g (subst (λ (n : ℕ). has_turn turns n ≡ false) moved v); order = λ k. omega arith }

  same_place : (a b : ℕ × Entry X) → Some a ≡ Some b → a ≡ b
  same_place a b e = cc e

  first_is_least : (free : ℕ) (turns : List (Turn X)) (place : ℕ) (es : List (Entry X)) (p : ℕ)
      (f : Entry X) → first_without free turns place es ≡ Some (p, f) → IsLeast free turns place es p f
  first_is_least free turns place [] p f h = absurd (cc h)
  first_is_least free turns place (e ∷ es) p f h =
      elim (cases_Bool (has_turn turns place)) [
        | inl has ↦ least_skips free turns place e es p f
            (first_is_least free turns (place + 1) es p f (rw has at h)) (λ w. absurd (cc (has, w)))
        | inr has ↦ by_rest (first_without free turns (place + 1) es) refl
            (λ q is. first_is_least free turns (place + 1) es q.0 q.1 is) has (rw has at h)
      ]
    where
      by_rest : (o : Option (ℕ × Entry X)) → first_without free turns (place + 1) es ≡ o
          → ((q : ℕ × Entry X) → first_without free turns (place + 1) es ≡ Some q
          → IsLeast free turns (place + 1) es q.0 q.1) → has_turn turns place ≡ false
          → first_of free (place, e) o ≡ Some (p, f) → IsLeast free turns place (e ∷ es) p f
      by_rest None is below w k =
          let same = same_place (place, e) (p, f) k in
          let P : ℕ × Entry X → Type 0 = λ z. IsLeast free turns place (e ∷ es) z.0 z.1 in
          subst P same (least_here free turns place e es w
          (λ j d g v. absurd (let t = none_left free turns (place + 1) es is j
          (slice_get_within es j d g) in cc (t, v))))
      by_rest (Some q) is below w k =
          let r = below q is in
          elim (cases_lt (rank free q.1) (rank free e)) [
            | inl lt ↦ (let b = nat_lt-true (rank free q.1) (rank free e) lt in
                let m = rw b at k in
                let same = same_place q (p, f) m in
                let P : ℕ × Entry X → Type 0 = λ z. IsLeast free turns place (e ∷ es) z.0 z.1 in
                subst P same (least_skips free turns place e es q.0 q.1 r
                (λ v. record { ranks = omega arith; order = λ n. absurd (omega arith) })))
            | inr ge ↦ (let b = nat_lt-false (rank free q.1) (rank free e) ge in
                let m = rw b at k in
                let same = same_place (place, e) (p, f) m in
                let P : ℕ × Entry X → Type 0 = λ z. IsLeast free turns place (e ∷ es) z.0 z.1 in
                subst P same (least_here free turns place e es w
                (λ j d g v. let l = r.least j d g v in let lr = l.ranks in omega arith)))
          ]

  -- what is least comes next
  least_is_next : (byte_ns : ℕ) (entries : List (Entry X)) (turns : List (Turn X)) (p : ℕ)
      (f : Entry X) → AreInOrder entries → IsLeast (end_of turns) turns 0 entries p f →
      IsNext byte_ns entries turns (turn_at byte_ns p f (max f.time (end_of turns)))
  least_is_next byte_ns entries turns p f order h =
      let stands : slice_get entries p ≡ Some f =
      subst (λ (n : ℕ). slice_get entries n ≡ Some f) (let k = h.at in omega arith) h.stands in
      record {
        own = record { stands = stands; without = h.without };
        lasts = refl;
        drops = refl;
        come = omega arith;
        after = omega arith;
        least = λ t q d w came over. let l = goes q d w in let a = l.ranks in let b =
            class_small d.priority in omega arith;
        high_first = λ q d w came high. let l = goes q d w in let a = l.ranks in
            class_high f.priority d.priority (omega arith) high;
        in_order = λ q d w same. elim (cases_lt q p) [
          | inl lt ↦ (let l = goes q d w in
              let time : d.time ≤ f.time = order q p d f (omega arith) w.stands stands in
              let class : class_of d.priority ≡ class_of f.priority = ap (λ z. class_of z) same in
              l.order (omega arith))
          | inr ge ↦ ge
        ];
      }
    where
      goes : (q : ℕ) (d : Entry X) → IsWithoutTurn entries turns q d → Le (end_of turns) p f q d
      goes q d w =
          let zero_on : q ≡ 0 + q = omega arith in
          let Q : ℕ → Type 0 = λ n. Le (end_of turns) p f n d in
          subst Q (sym zero_on) (h.least q d w.stands (subst (λ (n : ℕ). has_turn turns n ≡ false) zero_on w.without))

  first_are_turns : (byte_ns : ℕ) (entries : List (Entry X)) → AreInOrder entries → (n : ℕ)
      → AreTurns byte_ns entries (first_turns byte_ns entries n)
  first_are_turns byte_ns entries order zero = tt
  first_are_turns byte_ns entries order (suc n) =
      with_next (first_turns byte_ns entries n) (first_are_turns byte_ns entries order n)
      (first_without (end_of (first_turns byte_ns entries n)) (first_turns byte_ns entries n) 0
      entries) refl
    where
      with_next : (turns : List (Turn X)) → AreTurns byte_ns entries turns
          → (o : Option (ℕ × Entry X)) → first_without (end_of turns) turns 0 entries ≡ o
          → AreTurns byte_ns entries (with_turn_of byte_ns turns o)
      with_next turns are None is = are
      with_next turns are (Some q) is = (
        least_is_next byte_ns entries turns q.0 q.1 order
            (first_is_least (end_of turns) turns 0 entries q.0 q.1 is),
        are,
      )

  -- an entry of one byte, to count entries by their bytes
  one : Entry X → Entry X
  one e = record { time = e.time; priority = e.priority; bytes = 1; longest_wait = e.longest_wait; item = e.item }

  count : List (Turn X) → ℕ → List (Entry X) → ℕ
  count turns place es = bytes_without_turn turns place (map one es)

  count_start : (place : ℕ) (es : List (Entry X)) → count [] place es ≡ length es
  unfolding count one
  count_start place [] = refl
  count_start place (e ∷ es) = omega (arith, count_start (place + 1) es)

  count_none : (turns : List (Turn X)) (place : ℕ) (es : List (Entry X))
      → ((i : ℕ) → i < length es → has_turn turns (place + i) ≡ true) → count turns place es ≡ 0
  unfolding count one
  count_none turns place [] h = refl
  count_none turns place (e ∷ es) h =
      let here : has_turn turns place ≡ true =
      subst (λ (n : ℕ). has_turn turns n ≡ true) (omega arith) (h 0 (omega arith)) in
      rw here (omega (
        arith,
        count_none turns (place + 1) es
            (λ i lt. subst (λ (n : ℕ). has_turn turns n ≡ true) (omega arith) (h (suc i) (omega arith))),
      ))

  count_all : (turns : List (Turn X)) (place : ℕ) (es : List (Entry X)) → count turns place es ≡ 0
      → (i : ℕ) → i < length es → has_turn turns (place + i) ≡ true
  unfolding count one
  count_all turns place [] h i lt = absurd (omega arith)
  count_all turns place (e ∷ es) h zero lt = elim (cases_Bool (has_turn turns place)) [
    | inl has ↦ subst (λ (n : ℕ). has_turn turns n ≡ true) (omega arith) has
    | inr has ↦ absurd (let k = rw has at h in omega arith)
  ]
  count_all turns place (e ∷ es) h (suc i) lt =
      let rest : count turns (place + 1) es ≡ 0 = omega arith in
      subst (λ (n : ℕ). has_turn turns n ≡ true) (omega arith) (count_all turns (place + 1) es rest i (omega arith))

  count_left : (byte_ns : ℕ) (entries : List (Entry X)) → AreInOrder entries → (n : ℕ)
      → count (first_turns byte_ns entries n) 0 entries ≤ length entries - n
  unfolding count one
  count_left byte_ns entries order zero = omega (arith, count_start 0 entries)
  count_left byte_ns entries order (suc n) =
      with_next (first_turns byte_ns entries n) (count_left byte_ns entries order n)
      (first_without (end_of (first_turns byte_ns entries n)) (first_turns byte_ns entries n) 0
      entries) refl
    where
      with_next : (turns : List (Turn X)) → count turns 0 entries ≤ length entries - n
          → (o : Option (ℕ × Entry X)) → first_without (end_of turns) turns 0 entries ≡ o
          → count (with_turn_of byte_ns turns o) 0 entries ≤ length entries - suc n
      with_next turns le None is = let all =
          count_none turns 0 entries (none_left (end_of turns) turns 0 entries is) in omega arith
      with_next turns le (Some q) is =
          let r = least_is_next byte_ns entries turns q.0 q.1 order
          (first_is_least (end_of turns) turns 0 entries q.0 q.1 is) in
          let stands : slice_get (map one entries) q.0 ≡ Some (one q.1) =
          slice_get-map one entries q.0 ∙ ap (λ o. option_map one o) r.own.stands in
          let served = bytes_served (turn_at byte_ns q.0 q.1 (max q.1.time (end_of turns))) turns 0
          q.0 (one q.1) (map one entries) stands (omega arith) r.own.without in
          omega (arith, served)

  -- the recursion gives the schedule of entries that stand in order
  pub schedule_of_is : (byte_ns : ℕ) (entries : List (Entry X)) → AreInOrder entries
      → IsSchedule byte_ns entries (schedule_of byte_ns entries)
  unfolding count one
  schedule_of_is byte_ns entries order = record {
    each_next = first_are_turns byte_ns entries order (length entries);
    all_have_turns = λ place lt.
        let left = count_left byte_ns entries order (length entries) in
        let none : count (schedule_of byte_ns entries) 0 entries ≡ 0 = omega arith in
        subst (λ (n : ℕ). has_turn (schedule_of byte_ns entries) n ≡ true) (omega arith)
        (count_all (schedule_of byte_ns entries) 0 entries none place lt);
  }
