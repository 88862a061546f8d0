-- The front of a stream's states, as the code finds it.
use Rattle.std.proofs.Common.{◌≡◌, ℕ, ◌-◌, ◌≤◌, Bool, true, false, List, [], ◌∷◌, ◌++◌, ◌⊎◌, inl, inr, map, drop, length, refl, sym, ap, ◌∙◌, arith}
use Rattle.std.proofs.lemmas.Bool.{ltb-true, ltb-false, eqb-true, eqb-false}
use Rattle.std.proofs.lemmas.List.{length-drop, drop_all}
use Rattle.std.proofs.lemmas.List.Elements.{All-from_recursion, All-contains, All-head, All-tail}
use Rattle.std.specs.Prelude.{if◌then◌else◌, nat_lt, nat_eq, All, Contains}
use Rattle.std.specs.List.{AllByRecursion, filter}
use Rattle.afdx_police.specs.Arrival.{Arrival}
use Rattle.afdx_conform.specs.Explanations.{levels_then}
use Rattle.afdx_conform.specs.Findings.{front_rest, lead, with_rest, aged}
use Rattle.afdx_conform.specs.HeldStates.{state_of, past}
use Rattle.afdx_conform.specs.States.{State, state_with, kept, led_by, states_at}
use Rattle.afdx_conform.specs.Streams.{Gone, Terms}
use Rattle.afdx_conform.specs.declared.states.StreamState.{StreamState}

-- no state has fewer frames left than the front
least : (states : List State) → AllByRecursion (λ s. length (front_rest states) ≤ length s.rest) states
unfolding front_rest
least [] = tt
least (s ∷ []) = (omega arith, tt)
least (s ∷ t ∷ more) = by (nat_lt (length s.rest) (length (front_rest (t ∷ more)))) refl (least (t ∷ more))
  where
    below : (n m : ℕ) → n ≤ m → (l : List State) → AllByRecursion (λ r. m ≤ length r.rest) l
        → AllByRecursion (λ r. n ≤ length r.rest) l
    below n m h [] all = tt
    below n m h (r ∷ l) all = (let one = all.0 in omega (arith, h, one), below n m h l all.1)

    by : (b : Bool) → nat_lt (length s.rest) (length (front_rest (t ∷ more))) ≡ b
        → AllByRecursion (λ r. length (front_rest (t ∷ more)) ≤ length r.rest) (t ∷ more)
        → AllByRecursion (λ r. length (if b then s.rest else front_rest (t ∷ more)) ≤ length r.rest) (s ∷ t ∷ more)
    by true e all = (
      omega arith,
      below (length s.rest) (length (front_rest (t ∷ more)))
          (let lt = ltb-true (length s.rest) (length (front_rest (t ∷ more))) e in omega (arith, lt)) (t ∷ more) all,
    )
    by false e all = (let le = ltb-false (length s.rest) (length (front_rest (t ∷ more))) e in omega (arith, le), all)

module _ (ys : List Gone) where
  -- the state of which the front's frames are
  record IsFrontOf (held : List StreamState) (rest : List Gone) (f : ℕ) : Type 0 where
    pub passed : ℕ
    pub rest_is : rest ≡ drop passed ys
    pub below : passed ≤ f

  front-of : (held : List StreamState) (h : StreamState) (f : ℕ) → All (λ k. k.passed ≤ f) (h ∷ held)
      → IsFrontOf (h ∷ held) (front_rest (map (state_of ys) (h ∷ held))) f
  unfolding front_rest
  front-of [] h f all = record { passed = h.passed; rest_is = refl; below = All-head (λ k. k.passed ≤ f) h [] all }
  front-of (k ∷ held) h f all =
      by (nat_lt (length (drop h.passed ys)) (length (front_rest (map (state_of ys) (k ∷ held)))))
      (front-of held k f (All-tail (λ k. k.passed ≤ f) h (k ∷ held) all))
    where
      by : (b : Bool) → IsFrontOf (k ∷ held) (front_rest (map (state_of ys) (k ∷ held))) f
          → IsFrontOf (h ∷ k ∷ held) (if b then drop h.passed ys else front_rest (map (state_of ys) (k ∷ held))) f
      by true more = record { passed = h.passed; rest_is = refl; below = All-head (λ k. k.passed ≤ f) h (k ∷ held) all }
      by false more = record { passed = more.passed; rest_is = more.rest_is; below = more.below }

  rests-of : (n : ℕ) (held : List StreamState) → AllByRecursion (λ s. n ≤ length s.rest) (map (state_of ys) held)
      → AllByRecursion (λ (h : StreamState). n ≤ length (drop h.passed ys)) held
  rests-of n [] all = tt
  rests-of n (h ∷ held) all = (all.0, rests-of n held all.1)

  pub front-drop : (held : List StreamState) (f none : ℕ) → All (λ h. h.passed ≤ length ys) held →
      All (λ h. h.passed ≤ f) held
      → ((held ≡ []) × (f ≡ none)) ⊎ ((h : StreamState) × Contains held h × (h.passed ≡ f)) → none ≡ length ys
      → drop f ys ≡ front_rest (map (state_of ys) held)
  unfolding front_rest
  front-drop held f none within greatest (inl e) is =
      let past : length ys ≤ f = (let a = e.1 in omega (arith, a, is)) in
      drop_all f ys past ∙ sym (ap (λ (l : List StreamState). front_rest (map (state_of ys) l)) e.0)
  front-drop [] f none within greatest (inr (h, c, e)) is =
      let past = All-contains (λ (k : StreamState). ⊥) [] h (λ i d lt. absurd (omega (arith, lt))) c in absurd past
  front-drop (k ∷ held) f none within greatest (inr (h, c, e)) is =
      let states = map (state_of ys) (k ∷ held) in
      let o = front-of held k f greatest in
      let shortest = All-contains (λ (m : StreamState). length (front_rest (map (state_of ys) (k ∷ held)))
      ≤ length (drop m.passed ys)) (k ∷
      held) h
      (All-from_recursion (λ (m : StreamState). length (front_rest (map (state_of ys) (k ∷ held)))
      ≤ length (drop m.passed ys)) (k ∷ held)
      (rests-of (length (front_rest (map (state_of ys) (k ∷ held)))) (k ∷ held)
      (least (map (state_of ys) (k ∷ held))))) c in
      let inside = All-contains (λ (m : StreamState). m.passed ≤ length ys) (k ∷ held) h within c in
      let one = ap (λ (l : List Gone). length l) o.rest_is ∙ length-drop o.passed ys in
      let two = length-drop h.passed ys in
      let below = o.below in
      let same : f ≡ o.passed = omega (arith, shortest, inside, one, two, below, e) in
      ap (λ (n : ℕ). drop n ys) same ∙ sym o.rest_is

  -- those of the front
  kept-some : (test : State → Bool) (told : StreamState → Bool) (P : StreamState → Type 0)
      → ((h : StreamState) → P h → test (state_of ys h) ≡ told h)
      → (xs : List StreamState) → All P xs → map (state_of ys) (filter told xs) ≡ kept test (map (state_of ys) xs)
  unfolding kept
  kept-some test told P same [] all = refl
  kept-some test told P same (x ∷ xs) all =
      by (test (state_of ys x)) (told x) (same x (All-head P x xs all))
      (kept-some test told P same xs (All-tail P x xs all))
    where
      by : (c b : Bool) → c ≡ b → map (state_of ys) (filter told xs) ≡ kept test (map (state_of ys) xs)
          → map (state_of ys) (if b then x ∷ filter told xs else filter told xs)
          ≡ (if c then state_of ys x ∷ kept test (map (state_of ys) xs) else kept test (map (state_of ys) xs))
      by true true e more = ap (λ (l : List State). state_of ys x ∷ l) more
      by false false e more = more
      by true false e more = absurd (cc)
      by false true e more = absurd (cc)

  same-test : (p f n : ℕ) → p ≤ length ys → f ≤ length ys → n ≡ length ys - f → nat_eq (length (drop p ys)) n
      ≡ nat_eq p f
  same-test p f n hp hf e = by (nat_eq (length (drop p ys)) n) (nat_eq p f) refl refl
    where
      by : (b c : Bool) → nat_eq (length (drop p ys)) n ≡ b → nat_eq p f ≡ c → nat_eq (length (drop p ys)) n
          ≡ nat_eq p f
      by true true k l = k ∙ sym l
      by false false k l = k ∙ sym l
      by true false k l =
          let a = eqb-true (length (drop p ys)) n k in
          let d = length-drop p ys in
          let is : p ≡ f = omega (arith, a, d, e, hp, hf) in
          absurd (eqb-false p f l is)
      by false true k l =
          let a = eqb-true p f l in
          let d = length-drop p ys in
          let is : length (drop p ys) ≡ n = omega (arith, a, d, e, hp, hf) in
          absurd (eqb-false (length (drop p ys)) n k is)

  pub lead-is : (held : List StreamState) (f : ℕ) → All (λ h. h.passed ≤ length ys) held → f ≤ length ys
      → drop f ys ≡ front_rest (map (state_of ys) held)
      → map (state_of ys) (filter (λ h. nat_eq h.passed f) held) ≡ lead (map (state_of ys) held)
  lead-is held f within hf front =
      kept-some (λ s. nat_eq (length s.rest) (length (front_rest (map (state_of ys) held)))) (λ h. nat_eq h.passed f)
      (λ h. h.passed ≤ length ys)
      (λ h w. same-test h.passed f (length (front_rest (map (state_of ys) held))) w hf
      (ap (λ (l : List Gone). length l) (sym front) ∙ length-drop f ys)) held within

  pub past-is : (to : ℕ) (held : List StreamState) → map (state_of ys) (map (λ h. past to h) held) ≡
      with_rest (drop to ys)
      (map (state_of ys)
      held)
  past-is to [] = refl
  past-is to (h ∷ held) = ap (λ (l : List State). state_with (drop to ys) h.levels h.waiting ∷ l) (past-is to held)

  -- what the code takes for the lead, with other frames left
  pub lead-past : (held out : List StreamState) (f to : ℕ) → All (λ h. h.passed ≤ length ys) held → f ≤ length ys
      → drop f ys ≡ front_rest (map (state_of ys) held)
      → out ≡ map (λ h. past to h) (filter (λ h. nat_eq h.passed f) held)
      → map (state_of ys) out ≡ with_rest (drop to ys) (lead (map (state_of ys) held))
  lead-past held out f to within hf front e =
      ap (λ (l : List StreamState). map (state_of ys) l) e
      ∙ past-is to (filter (λ h. nat_eq h.passed f) held)
      ∙ ap (λ (l : List State). with_rest (drop to ys) l) (lead-is held f within hf front)

-- ---- the states when an arrival comes

module _ (z : Terms) (last : ℕ) (x : Arrival) where
  pub aged-front : (states : List State) → front_rest (aged z last x states) ≡ front_rest states
  unfolding front_rest
  aged-front [] = refl
  aged-front (s ∷ []) = refl
  aged-front (s ∷ t ∷ more) =
      ap (λ (l : List Gone). if nat_lt (length s.rest) (length l) then s.rest else l) (aged-front (t ∷ more))

  aged-kept : (n : ℕ) (states : List State) → kept (λ s. nat_eq (length s.rest) n) (aged z last x states)
      ≡ aged z last x (kept (λ s. nat_eq (length s.rest) n) states)
  unfolding kept
  aged-kept n [] = refl
  aged-kept n (s ∷ states) = by (nat_eq (length s.rest) n) (aged-kept n states)
    where
      by : (b : Bool) → kept (λ s. nat_eq (length s.rest) n) (aged z last x states)
          ≡ aged z last x (kept (λ s. nat_eq (length s.rest) n) states)
          → (if b then state_with s.rest (levels_then z s.levels last x) s.waiting
          ∷ kept (λ s. nat_eq (length s.rest) n) (aged z last x states)
          else kept (λ s. nat_eq (length s.rest) n) (aged z last x states))
          ≡ aged z last x (if b then s ∷ kept (λ s. nat_eq (length s.rest) n) states
          else kept (λ s. nat_eq (length s.rest) n) states)
      by true more = ap (λ (l : List State). state_with s.rest (levels_then z s.levels last x) s.waiting ∷ l) more
      by false more = more

  pub aged-lead : (states : List State) → lead (aged z last x states) ≡ aged z last x (lead states)
  aged-lead states =
      ap (λ (l : List Gone). kept (λ s. nat_eq (length s.rest) (length l)) (aged z last x states)) (aged-front states)
      ∙ aged-kept (length (front_rest states)) states

  pub aged-rest : (rest : List Gone) (states : List State)
      → with_rest rest (aged z last x states) ≡ aged z last x (with_rest rest states)
  aged-rest rest [] = refl
  aged-rest rest (s ∷ states) =
      ap (λ (l : List State). state_with rest (levels_then z s.levels last x) s.waiting ∷ l) (aged-rest rest states)

  pub aged-led : (states : List State) → led_by (λ s. states_at z x s.levels s) (aged z last x states)
      ≡ led_by (λ s. states_at z x (levels_then z s.levels last x) s) states
  unfolding led_by states_at
  aged-led [] = refl
  aged-led (s ∷ states) =
      ap (λ (l : List State). states_at z x (levels_then z s.levels last x) s ++ l) (aged-led states)
