-- Memories that are found by the identifiers of their links.
use Rattle.std.proofs.Common.{◌≡◌, ℕ, zero, suc, ◌+◌, ◌<◌, ◌≤◌, Bool, true, false, cond, inl, inr}
use Rattle.std.proofs.Common.{Option, Some, None, List, [], ◌∷◌, ◌++◌, length}
use Rattle.std.proofs.Common.{nat_eq, refl, sym, ◌∙◌, ap, arith}
use Rattle.std.specs.Prelude.{slice_get, slice_set, option_and_then, ◌⊎◌, ◌≢◌}
use Rattle.std.proofs.lemmas.Bool.{cases_eq, eqb-true, eqb-false, eq-eqb, ne_eqb}
use Rattle.std.proofs.lemmas.List.{length_push}
use Rattle.std.proofs.lemmas.Option.{slice_get_read, same_Some, slice_get_within}
use Rattle.std.proofs.Math.ListN.{get_or, length-set}
use Rattle.afdx_frame.proofs.ListLemmas.{slice_get-push_last, slice_get-set_here, slice_get-set_there}
use Rattle.afdx_frame.proofs.ListLemmas.{slice_get-push_cases, slice_get-one, slice_get-within}
use Rattle.afdx_frame.specs.declared.link.VlId.{VlId}
use Rattle.afdx_receive.specs.Places.{Paged, place_in}
use Rattle.afdx_receive.specs.Kept.{Kept, IsKept, memory_at}
use Rattle.afdx_receive.specs.declared.memory.LinkMemory.{LinkMemory}

module _ {X : Type 0} where
  push_before : (xs : List X) (y : X) (i : ℕ) → i < length xs → slice_get (xs ++ y ∷ []) i ≡ slice_get xs i
  push_before [] y i within = absurd (omega (arith, within))
  push_before (x ∷ xs) y zero within = refl
  push_before (x ∷ xs) y (suc i) within = push_before xs y i (omega (arith, within))

-- ---- no link

some_none : {X : Type 0} (a : X) → None ≡ Some a → ⊥
some_none a e = cc

none_at : (memories : List LinkMemory) (place : ℕ) (memory : LinkMemory) → memories ≡ []
    → slice_get memories place ≡ Some memory → ⊥
none_at memories place memory none e =
    some_none memory (sym (ap (λ (m : List LinkMemory). slice_get m place) none) ∙ e)

module _ (places : Paged) (memories : List LinkMemory) (none : (vl : ℕ) → place_in places vl ≡ None)
    (empty : length places.slots ≡ 0) (none_yet : memories ≡ []) where
  pub first_kept : IsKept (record { places = places; memories = memories })
  first_kept = record {
    within = λ vl place e. absurd (some_none place (sym (none vl) ∙ e));
    own = λ a b place e f. absurd (some_none place (sym (none a) ∙ e));
    named = λ place memory e. absurd (none_at memories place memory none_yet e);
    few = omega (arith, empty);
  }

  pub none_kept : (vl : ℕ) → memory_at (record { places = places; memories = memories }) vl ≡ None
  unfolding memory_at
  none_kept vl = ap (option_and_then (λ place. slice_get memories place)) (none vl)

-- ---- other places, where each is as it was

module _ (kept : Kept) (is : IsKept kept) (places : Paged)
    (room : length places.slots ≡ length kept.places.slots)
    (same : (q : ℕ) → place_in places q ≡ place_in kept.places q) where
  pub unplaced_kept : IsKept (record { places = places; memories = kept.memories })
  unplaced_kept = record {
    within = λ q place e. is.within q place (sym (same q) ∙ e);
    own = λ a b place e f. is.own a b place (sym (same a) ∙ e) (sym (same b) ∙ f);
    named = λ place memory e. same memory.vl.0 ∙ is.named place memory e;
    few = omega (arith, is.few, room);
  }

-- ---- a link more

-- a link that has no memory has no place
absent_place : (kept : Kept) → IsKept kept → (vl : ℕ) → memory_at kept vl ≡ None → place_in kept.places vl ≡ None
unfolding memory_at
absent_place kept is vl none = at (place_in kept.places vl) refl
  where
    at : (o : Option ℕ) → place_in kept.places vl ≡ o → place_in kept.places vl ≡ None
    at None e = e
    at (Some place) e =
        let found = slice_get-within kept.memories place (is.within vl place e) in
        absurd (some_none found.0 (sym none ∙ ap (option_and_then (λ p. slice_get kept.memories p)) e ∙ found.1))

module _ (kept : Kept) (is : IsKept kept) (vl : ℕ) (memory : LinkMemory) (known : memory.vl.0 ≡ vl)
    (absent : memory_at kept vl ≡ None) (places : Paged)
    (few : length places.slots ≤ length kept.places.slots + 16)
    (updates : (q : ℕ) → place_in places q
    ≡ cond (nat_eq vl q) (Some (length kept.memories)) (place_in kept.places q)) where
  abbrev pub with_link : Kept
  with_link = record { places = places; memories = kept.memories ++ memory ∷ [] }

  placed_here : place_in with_link.places vl ≡ Some (length kept.memories)
  placed_here = updates vl ∙ ap (λ b. cond b (Some (length kept.memories)) (place_in kept.places vl))
      (eq-eqb vl vl refl)

  placed_there : (q : ℕ) → (q ≡ vl → ⊥) → place_in with_link.places q ≡ place_in kept.places q
  placed_there q other = updates q ∙ ap (λ b. cond b (Some (length kept.memories)) (place_in kept.places q))
      (ne_eqb vl q (λ e. other (sym e)))

  pub link_kept : IsKept with_link
  link_kept = record {
    within = λ q place e. within q place e (cases_eq q vl);
    own = λ a b place e f. own a b place e f (cases_eq a vl) (cases_eq b vl);
    named = λ place m e. named place m (slice_get-push_cases kept.memories memory place m e);
    few = omega (arith, is.few, few, length_push kept.memories memory);
  }
    where
      within : (q place : ℕ) → place_in with_link.places q ≡ Some place → (q ≡ vl) ⊎ (q ≡ vl → ⊥)
          → place < length with_link.memories
      within q place e (inl same) =
          let last : length kept.memories ≡ place =
          same_Some (length kept.memories) place
          (sym placed_here ∙ ap (place_in with_link.places) (sym same) ∙ e) in
          omega (arith, last, length_push kept.memories memory)
      within q place e (inr other) =
          let old : place < length kept.memories = is.within q place (sym (placed_there q other) ∙ e) in
          omega (arith, old, length_push kept.memories memory)

      -- a place that was there before is not the new one
      apart : (q place : ℕ) → (q ≡ vl → ⊥) → place_in with_link.places q ≡ Some place
          → place_in with_link.places vl ≡ Some place → ⊥
      apart q place other e f =
          let old : place < length kept.memories = is.within q place (sym (placed_there q other) ∙ e) in
          let last : length kept.memories ≡ place = same_Some (length kept.memories) place (sym placed_here ∙ f) in
          omega (arith, old, last)

      own : (a b place : ℕ) → place_in with_link.places a ≡ Some place → place_in with_link.places b ≡ Some place →
          (a ≡ vl) ⊎ (a ≡ vl → ⊥) → (b ≡ vl) ⊎ (b ≡ vl → ⊥) → a ≡ b
      own a b place e f (inl x) (inl y) = x ∙ sym y
      own a b place e f (inl x) (inr y) = absurd (apart b place y f (ap (place_in with_link.places) (sym x) ∙ e))
      own a b place e f (inr x) (inl y) = absurd (apart a place x e (ap (place_in with_link.places) (sym y) ∙ f))
      own a b place e f (inr x) (inr y) = is.own a b place (sym (placed_there a x) ∙ e) (sym (placed_there b y) ∙ f)

      -- a memory that was there before is not the new link's
      named_before : (place : ℕ) (m : LinkMemory) → slice_get kept.memories place ≡ Some m → m.vl.0 ≡ vl → ⊥
      named_before place m e same = some_none place
          (sym (absent_place kept is vl absent) ∙ ap (place_in kept.places) (sym same) ∙ is.named place m e)

      named : (place : ℕ) (m : LinkMemory) →
          (slice_get kept.memories place ≡ Some m) ⊎ ((place ≡ length kept.memories) × (m ≡ memory)) →
          place_in with_link.places m.vl.0 ≡ Some place
      named place m (inl old) = placed_there m.vl.0 (named_before place m old) ∙ is.named place m old
      named place m (inr last) =
          ap (place_in with_link.places) (ap (λ (l : LinkMemory). l.vl.0) last.1 ∙ known)
          ∙ placed_here ∙ ap Some (sym last.0)

  pub link_updates : (q : ℕ) → memory_at with_link q ≡ cond (nat_eq vl q) (Some memory) (memory_at kept q)
  unfolding memory_at
  link_updates q = at (nat_eq vl q) refl
    where
      old : (o : Option ℕ) → ((place : ℕ) → o ≡ Some place → place < length kept.memories) →
          option_and_then (λ place. slice_get with_link.memories place) o
          ≡ option_and_then (λ place. slice_get kept.memories place) o
      old None within = refl
      old (Some place) within = push_before kept.memories memory place (within place refl)

      at : (b : Bool) → nat_eq vl q ≡ b →
          option_and_then (λ place. slice_get with_link.memories place) (place_in with_link.places q)
          ≡ cond b (Some memory) (option_and_then (λ place. slice_get kept.memories place) (place_in kept.places q))
      at true e =
          let here : place_in with_link.places q ≡ Some (length kept.memories) =
          ap (place_in with_link.places) (sym (eqb-true vl q e)) ∙ placed_here in
          ap (option_and_then (λ place. slice_get with_link.memories place)) here
          ∙ slice_get-push_last kept.memories memory
      at false e =
          ap (option_and_then (λ place. slice_get with_link.memories place))
          (placed_there q (λ same. eqb-false vl q e (sym same)))
          ∙ old (place_in kept.places q) (is.within q)

-- the same, where the memories are those that were pushed
module _ (kept : Kept) (is : IsKept kept) (vl place : ℕ) (memory : LinkMemory) (known : memory.vl.0 ≡ vl)
    (absent : memory_at kept vl ≡ None) (places : Paged)
    (few : length places.slots ≤ length kept.places.slots + 16) (last : place ≡ length kept.memories)
    (updates : (q : ℕ) → place_in places q ≡ cond (nat_eq vl q) (Some place) (place_in kept.places q))
    (memories : List LinkMemory) (pushed : memories ≡ kept.memories ++ memory ∷ []) where
  at_last : (q : ℕ) → place_in places q
      ≡ cond (nat_eq vl q) (Some (length kept.memories)) (place_in kept.places q)
  at_last q = rw (← last) (updates q)

  pub added_kept : IsKept (record { places = places; memories = memories })
  added_kept = rw pushed (link_kept kept is vl memory known absent places few at_last)

  pub added_updates : (q : ℕ) → memory_at (record { places = places; memories = memories }) q
      ≡ cond (nat_eq vl q) (Some memory) (memory_at kept q)
  added_updates q = rw pushed (link_updates kept is vl memory known absent places few at_last q)

-- ---- a frame of a link

module _ (kept : Kept) (is : IsKept kept) (vl place : ℕ)
    (placed : place_in kept.places vl ≡ Some place) (moved : LinkMemory) where
  abbrev pub with_memory : Kept
  with_memory = record kept { memories = slice_set kept.memories place moved }

  pub memory_kept : (memory : LinkMemory) → memory ≡ get_or kept.memories place memory
      → moved.vl ≡ memory.vl → IsKept with_memory
  memory_kept memory read same = record {
    within = λ q p e. rw (length-set kept.memories place moved) (is.within q p e);
    own = is.own;
    named = λ p m e. named p m e (cases_eq p place);
    few = rw (length-set kept.memories place moved) is.few;
  }
    where
      here : slice_get kept.memories place ≡ Some memory
      here = slice_get_read kept.memories (length kept.memories) place memory refl (is.within vl place placed) read

      named : (p : ℕ) (m : LinkMemory) → slice_get with_memory.memories p ≡ Some m → (p ≡ place) ⊎ (p ≡ place → ⊥)
          → place_in kept.places m.vl.0 ≡ Some p
      named p m e (inl at_place) =
          let one : m ≡ moved = slice_get-one with_memory.memories place m moved
          (ap (slice_get with_memory.memories) (sym at_place) ∙ e)
          (slice_get-set_here kept.memories place moved (is.within vl place placed)) in
          ap (λ (l : LinkMemory). place_in kept.places l.vl.0) one
          ∙ ap (λ (v : VlId). place_in kept.places v.0) same
          ∙ is.named place memory here ∙ ap Some (sym at_place)
      named p m e (inr other) =
          is.named p m (sym (slice_get-set_there kept.memories place p moved other) ∙ e)

  pub memory_updates : (q : ℕ) → memory_at with_memory q ≡ cond (nat_eq vl q) (Some moved) (memory_at kept q)
  unfolding memory_at
  memory_updates q = at (nat_eq vl q) refl
    where
      other : (o : Option ℕ) → ((p : ℕ) → o ≡ Some p → p ≡ place → ⊥) →
          option_and_then (λ p. slice_get with_memory.memories p) o ≡ option_and_then (λ p. slice_get kept.memories p) o
      other None apart = refl
      other (Some p) apart = slice_get-set_there kept.memories place p moved (apart p refl)

      at : (b : Bool) → nat_eq vl q ≡ b →
          option_and_then (λ p. slice_get with_memory.memories p) (place_in kept.places q)
          ≡ cond b (Some moved) (option_and_then (λ p. slice_get kept.memories p) (place_in kept.places q))
      at true e =
          let here : place_in kept.places q ≡ Some place = ap (place_in kept.places) (sym (eqb-true vl q e)) ∙ placed in
          ap (option_and_then (λ p. slice_get with_memory.memories p)) here
          ∙ slice_get-set_here kept.memories place moved (is.within vl place placed)
      at false e = other (place_in kept.places q) (λ p here same.
          eqb-false vl q e (is.own vl q place placed (here ∙ ap Some same)))

pub memory_found : (kept : Kept) → IsKept kept → (vl place : ℕ) → place_in kept.places vl
    ≡ Some place → (memory : LinkMemory) →
    memory ≡ get_or kept.memories place memory → memory_at kept vl ≡ Some memory
unfolding memory_at
memory_found kept is vl place placed memory read =
    ap (option_and_then (λ p. slice_get kept.memories p)) placed
    ∙ slice_get_read kept.memories (length kept.memories) place memory refl (is.within vl place placed) read

pub none_found : (kept : Kept) (vl : ℕ) → place_in kept.places vl ≡ None → memory_at kept vl ≡ None
unfolding memory_at
none_found kept vl none = ap (option_and_then (λ place. slice_get kept.memories place)) none
