-- What holds of the frames of a side that wait, once one more waits, or one is taken.
use Rattle.std.proofs.Common.{◌≡◌, ℕ, ◌+◌, ◌<◌, ◌≤◌, true, List, [], ◌∷◌, ◌++◌, refl, sym, ap, ◌∙◌, subst}
use Rattle.std.proofs.Common.{arith, length, drop, get_or, replicate, Option, Some, None, ◌⊎◌, inl, inr}
use Rattle.std.specs.Prelude.{find, slice_index_or, slice_set}
use Rattle.std.specs.List.{position_or_len}
use Rattle.std.specs.Option.{is_some}
use Rattle.std.proofs.lemmas.Bool.{cases_eq}
use Rattle.std.proofs.lemmas.List.{get_or-replicate, get_or-set_other, get_or_past, length-append}
use Rattle.std.proofs.lemmas.Grind.{get_or-set_at}
use Rattle.afdx_lawful.specs.Partners.{without_first}
use Rattle.afdx_lawful.specs.Rings.{AreWaiting, has_number, held_in, holds_number}
use Rattle.afdx_lawful.specs.declared.waits.Waits.{Waits}
use Rattle.afdx_lawful.proofs.SlotLemmas.{behind, cleared, held_few, held_more, more_later}
use Rattle.afdx_lawful.proofs.SlotLemmas.{more_passing, narrower, none_lost, none_taken, taken, within}

-- ---- of each number

zeros : (number : ℕ) → get_or {A = ℕ} (replicate 256 0) number 0 ≡ 0
zeros number = by (cases number)
  where
    cases : (n : ℕ) → (n < 256) ⊎ (256 ≤ n)
    cases n = grind arith

    by : (number < 256) ⊎ (256 ≤ number) → get_or {A = ℕ} (replicate 256 0) number 0 ≡ 0
    by (inl low) = get_or-replicate 256 number 0 0 low
    by (inr high) = get_or_past (replicate 256 0) number 0 high

waits_some : (number : ℕ) (slot : Option Waits) → holds_number number slot ≡ true → is_some slot ≡ true
waits_some number None e = absurd (cc e)
waits_some number (Some w) e = refl

-- ---- in slots

pub new_waiting : AreWaiting [] 0 (replicate 256 0) 0
new_waiting = record { oldest = refl; of_number = λ number. omega (arith, zeros number); many = refl }

module _ (slots : List (Option Waits)) (first : ℕ) (places : List ℕ) (count : ℕ)
    (h : AreWaiting slots first places count) where
  pub more_waiting : (w : Waits) → AreWaiting (slots ++ Some w ∷ []) first places (count + 1)
  more_waiting w = record {
    oldest = h.oldest ∙ more_passing is_some slots (Some w) refl;
    of_number = λ number. omega (arith, h.of_number number, more_later (holds_number number) slots (Some w));
    many = omega (arith, h.many, ap length (held_more slots w), length-append (held_in slots) (w ∷ []));
  }

  pub few : (first ≤ length slots) × (count ≤ length slots)
  few = (omega (arith, h.oldest, within is_some slots), omega (arith, h.many, held_few slots))

  pub none_gone : held_in (drop first slots) ≡ held_in slots
  none_gone =
      none_lost (λ (w : Waits). true) is_some refl (λ w. refl) (λ w. refl) slots first (omega (arith, h.oldest))

  pub shorter : AreWaiting (drop first slots) 0 (replicate 256 0) count
  shorter = record {
    oldest = omega (arith, behind is_some slots first (omega (arith, h.oldest)), h.oldest);
    of_number = λ number. omega (arith, zeros number);
    many = h.many ∙ ap length (sym none_gone);
  }

  -- from where one of a number is looked for
  pub none_before : (number : ℕ) → first ≤ position_or_len (holds_number number) slots
  none_before number = omega (arith, h.oldest, narrower is_some (holds_number number) (waits_some number) slots)

  -- the oldest
  pub none_first : length slots ≤ first → (None ≡ find (λ (w : Waits). true) (held_in slots))
      × (held_in slots ≡ without_first (λ (w : Waits). true) (held_in slots))
  none_first none =
      none_taken (λ (w : Waits). true) is_some refl (λ w. refl) slots (omega (arith, none, h.oldest))

  module _ (some : first < length slots) where
    pub first_there : (d : Option Waits) → (slice_index_or slots first d ≡ find (λ (w : Waits). true) (held_in slots))
        × (held_in (slice_set slots first None) ≡ without_first (λ (w : Waits). true) (held_in slots))
        × (length (held_in (slice_set slots first None)) + 1 ≡ length (held_in slots))
    first_there d =
        subst (λ (n : ℕ). (slice_index_or slots n d ≡ find (λ (w : Waits). true) (held_in slots))
        × (held_in (slice_set slots n None) ≡ without_first (λ (w : Waits). true) (held_in slots))
        × (length (held_in (slice_set slots n None)) + 1 ≡ length (held_in slots))) (sym h.oldest)
        (taken (λ (w : Waits). true) is_some refl (λ w. refl) slots d (omega (arith, some, h.oldest)))

    pub some_wait : 1 ≤ count
    some_wait = omega (arith, h.many, (first_there None).2)

    pub first_on : first ≤ position_or_len is_some (slice_set slots first None)
    first_on = omega (arith, h.oldest, cleared is_some slots first None refl)

    pub without_oldest : (next left : ℕ) → next ≡ position_or_len is_some (slice_set slots first None) →
        left + 1 ≡ count → AreWaiting (slice_set slots first None) next places left
    without_oldest next left e less = record {
      oldest = e;
      of_number = λ number.
          omega (arith, h.of_number number, cleared (holds_number number) slots first None refl);
      many = omega (arith, less, h.many, (first_there None).2);
    }

  -- the oldest of a number
  module _ (number place : ℕ) (at : place ≡ position_or_len (holds_number number) slots)
      (low : number < length places) where
    pub known_of : (m : ℕ) → get_or (slice_set places number place) m 0 ≤ position_or_len (holds_number m) slots
    known_of m = by (cases_eq m number)
      where
        by : (m ≡ number) ⊎ (m ≡ number → ⊥) →
            get_or (slice_set places number place) m 0 ≤ position_or_len (holds_number m) slots
        by (inl same) =
            omega (
              arith,
              get_or-set_at places number m place 0 same low,
              at,
              ap (λ (n : ℕ). position_or_len (holds_number n) slots) same,
            )
        by (inr other) = omega (arith, get_or-set_other places number m place 0 other, h.of_number m)

    pub none_there : length slots ≤ place → (None ≡ find (has_number number) (held_in slots))
        × (held_in slots ≡ without_first (has_number number) (held_in slots))
    none_there none =
        none_taken (has_number number) (holds_number number) refl (λ w. refl) slots (omega (arith, none, at))

    module _ (some : place < length slots) where
      pub one_there : (d : Option Waits) → (slice_index_or slots place d ≡ find (has_number number) (held_in slots))
          × (held_in (slice_set slots place None) ≡ without_first (has_number number) (held_in slots))
          × (length (held_in (slice_set slots place None)) + 1 ≡ length (held_in slots))
      one_there d =
          subst (λ (n : ℕ). (slice_index_or slots n d ≡ find (has_number number) (held_in slots))
          × (held_in (slice_set slots n None) ≡ without_first (has_number number) (held_in slots))
          × (length (held_in (slice_set slots n None)) + 1 ≡ length (held_in slots))) (sym at)
          (taken (has_number number) (holds_number number) refl (λ w. refl) slots d (omega (arith, some, at)))

      pub one_waits : 1 ≤ count
      one_waits = omega (arith, h.many, (one_there None).2)

      pub without_one : (next left : ℕ) → next ≡ position_or_len is_some (slice_set slots place None) →
          left + 1 ≡ count → AreWaiting (slice_set slots place None) next (slice_set places number place) left
      without_one next left e less = record {
        oldest = e;
        of_number = λ m. omega (arith, known_of m, cleared (holds_number m) slots place None refl);
        many = omega (arith, less, h.many, (one_there None).2);
      }

      pub oldest_on : first ≤ position_or_len is_some (slice_set slots place None)
      oldest_on = omega (arith, h.oldest, cleared is_some slots place None refl)
