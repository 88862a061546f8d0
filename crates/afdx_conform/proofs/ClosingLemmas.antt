-- What a closing changes of how far a stream is judged.
use Rattle.std.proofs.Common.{◌≡◌, ℕ, zero, suc, ◌+◌, ◌-◌, ◌<◌, ◌≤◌, Bool, true, false, List, [], ◌∷◌, ◌⊎◌, inl, inr, map, drop, take, length, refl, sym, ap, ◌∙◌, subst, arith}
use Rattle.std.proofs.lemmas.Bool.{le-leb, le-ltb, leb-false}
use Rattle.std.proofs.lemmas.List.{length-drop, drop-drop}
use Rattle.std.proofs.lemmas.List.Elements.{All-contains, All-from_recursion}
use Rattle.std.specs.Prelude.{if◌then◌else◌, nat_le, ◌&&◌, ◌||◌, Contains}
use Rattle.std.specs.List.{AllByRecursion, list_any}
use Rattle.afdx_conform.specs.Findings.{Judged, with_states, has_some, lead, with_rest, front_rest, skipped, unexplained, closed_by, closed_to}
use Rattle.afdx_conform.specs.HeldStates.{AreClosed, state_of}
use Rattle.afdx_conform.specs.Leeway.{reach}
use Rattle.afdx_conform.specs.Naming.{unexplained_all}
use Rattle.afdx_conform.specs.States.{State, kept, are_behind}
use Rattle.afdx_conform.specs.Streams.{Gone, Terms}
use Rattle.afdx_conform.specs.declared.states.StreamState.{StreamState}
use Rattle.afdx_conform.proofs.HeldLemmas.{if-false}
use Rattle.afdx_conform.proofs.KeepLemmas.{closed-is}

-- ---- whether a state is left

kept-has : (ys : List Gone) (test : State → Bool) (told : StreamState → Bool) →
    ((h : StreamState) → test (state_of ys h) ≡ told h)
    → (xs : List StreamState) → has_some (kept test (map (state_of ys) xs)) ≡ list_any told xs
unfolding kept
kept-has ys test told same [] = refl
kept-has ys test told same (x ∷ xs) = by (test (state_of ys x)) (told x) (same x) (kept-has ys test told same xs)
  where
    by : (c b : Bool) → c ≡ b → has_some (kept test (map (state_of ys) xs)) ≡ list_any told xs
        → has_some (if c then state_of ys x ∷ kept test (map (state_of ys) xs) else kept test (map (state_of ys) xs))
        ≡ (b || list_any told xs)
    by true true e more = refl
    by false false e more = more
    by true false e more = absurd (cc)
    by false true e more = absurd (cc)

none-some : (l : List State) → has_some l ≡ false → l ≡ []
none-some [] e = refl
none-some (s ∷ l) e = absurd (cc)

by-some : (z : Terms) (time : ℕ) (l : List State) (j : Judged) → has_some l ≡ true
    → closed_by z time l j ≡ with_states l j
by-some z time [] j e = absurd (cc)
by-some z time (s ∷ l) j e = refl

kept-none : (test : State → Bool) → kept test [] ≡ []
unfolding kept
kept-none test = refl

kept-first : (test : State → Bool) (s : State) (l : List State) → test s ≡ true → kept test (s ∷ l) ≡ s ∷ kept test l
unfolding kept
kept-first test s l e = ap (λ (b : Bool). if b then s ∷ kept test l else kept test l) e

-- without states nothing is closed
nothing-closed : (z : Terms) (time : ℕ) (l : List State) (j : Judged) → j.states ≡ l → closed_by z time l j ≡ j
unfolding skipped front_rest kept
nothing-closed z time [] j e =
    ap (λ (l : List State). skipped z time (lead l) (front_rest l) j) e ∙ ap (λ (l : List State). with_states l j)
    (sym e)
nothing-closed z time (s ∷ l) j e = ap (λ (m : List State). with_states m j) (sym e)

module _ (z : Terms) (time passed : ℕ) (ys : List Gone) (held : List StreamState) (j : Judged)
    (closed : AreClosed time passed ys)
    (states : map (state_of ys) held ≡ j.states) (sure : j.is_unsure ≡ false) where
  abbrev left : List State
  left = kept (λ s. are_behind time s.rest) j.states

  some-left : has_some left ≡ list_any (λ h. nat_le passed h.passed) held
  some-left = ap (λ (l : List State). has_some (kept (λ s. are_behind time s.rest) l)) (sym states)
      ∙ kept-has ys (λ s. are_behind time s.rest) (λ h. nat_le passed h.passed)
      (λ h. closed-is time passed ys closed h.passed) held

  sure-is : closed_to z time j ≡ closed_by z time left j
  unfolding closed_to
  sure-is = if-false j.is_unsure j (closed_by z time left j) sure

  -- one is
  pub close-kept : (new : List StreamState) → list_any (λ h. nat_le passed h.passed) held ≡ true
      → map (state_of ys) new ≡ kept (λ s. are_behind time s.rest) (map (state_of ys) held)
      → with_states (map (state_of ys) new) j ≡ closed_to z time j
  close-kept new any e =
      ap (λ (l : List State). with_states l j)
      (e ∙ ap (λ (l : List State). kept (λ s. are_behind time s.rest) l) states)
      ∙ sym (by-some z time left j (some-left ∙ any))
      ∙ sym sure-is

  -- all are
  all-left : AllByRecursion (λ (h : StreamState). passed ≤ h.passed) held
      → kept (λ s. are_behind time s.rest) (map (state_of ys) held) ≡ map (state_of ys) held
  all-left all = by held all
    where
      by : (hs : List StreamState) → AllByRecursion (λ (h : StreamState). passed ≤ h.passed) hs
          → kept (λ s. are_behind time s.rest) (map (state_of ys) hs) ≡ map (state_of ys) hs
      by [] a = kept-none (λ s. are_behind time s.rest)
      by (h ∷ hs) a =
          kept-first (λ s. are_behind time s.rest) (state_of ys h) (map (state_of ys) hs)
          (closed-is time passed ys closed h.passed ∙ le-leb passed h.passed a.0)
          ∙ ap (λ (l : List State). state_of ys h ∷ l) (by hs a.1)

  pub close-all : AllByRecursion (λ (h : StreamState). passed ≤ h.passed) held → closed_to z time j ≡ j
  close-all all =
      sure-is
      ∙ ap (λ (l : List State). closed_by z time l j)
      (ap (λ (l : List State). kept (λ s. are_behind time s.rest) l) (sym states) ∙ all-left all ∙ states)
      ∙ nothing-closed z time j.states j refl

  -- none is
  pub close-none : list_any (λ h. nat_le passed h.passed) held ≡ false
      → closed_to z time j ≡ skipped z time (lead j.states) (front_rest j.states) j
  close-none any =
      sure-is ∙ ap (λ (l : List State). closed_by z time l j) (none-some left (some-left ∙ any))

-- ---- the frames that no arrival explains

module _ (z : Terms) (time : ℕ) (front : List State) where
  abbrev At : ℕ
  At = time + reach z.by

  behind-not : (y : Gone) (rest : List Gone) → y.time ≤ time → are_behind time (y ∷ rest) ≡ false
  unfolding are_behind
  behind-not y rest le = ap (λ (b : Bool). b && are_behind time rest) (le-ltb time y.time le)

  skip-on : (y : Gone) (rest : List Gone) (j : Judged) (b : Bool) → are_behind time rest ≡ b
      → skipped z time front (y ∷ rest) j
      ≡ (if b then with_states (with_rest rest front) (unexplained z At y j) else skipped z time front rest
      (unexplained z At y j))
  unfolding skipped
  skip-on y rest j b e =
      ap (λ (c : Bool). if c then with_states (with_rest rest front) (unexplained z At y j)
      else skipped z time front rest (unexplained z At y j)) e

  pub skip-first : (n : ℕ) (rest : List Gone) (j : Judged) → 0 < n → n ≤ length rest
      → AllByRecursion (λ y. y.time ≤ time) (take n rest) → are_behind time (drop n rest) ≡ true
      → skipped z time front rest j
      ≡ with_states (with_rest (drop n rest) front) (unexplained_all z At (take n rest) j)
  unfolding unexplained_all
  skip-first zero rest j some within all behind = absurd (omega (arith, some))
  skip-first (suc n) [] j some within all behind = absurd (omega (arith, within))
  skip-first (suc zero) (y ∷ rest) j some within all behind = skip-on y rest j true behind
  skip-first (suc (suc n)) (y ∷ []) j some within all behind = absurd (omega (arith, within))
  skip-first (suc (suc n)) (y ∷ w ∷ rest) j some within all behind =
      skip-on y (w ∷ rest) j false (behind-not w rest all.1.0)
      ∙ skip-first (suc n) (w ∷ rest) (unexplained z At y j) (omega arith) (omega (arith, within)) all.1 behind

take-between : (P : Gone → Type 0) (ys : List Gone) (from to : ℕ) → from ≤ to → AllByRecursion P (take to ys)
    → AllByRecursion P (take (to - from) (drop from ys))
take-between P ys zero to h all = subst (λ (n : ℕ). AllByRecursion P (take n ys)) (let e : to ≡ to - 0 =
    omega arith in e) all
take-between P ys (suc from) zero h all = absurd (omega (arith, h))
take-between P [] (suc from) (suc to) h all = none (suc to - suc from)
  where
    none : (n : ℕ) → AllByRecursion P (take n [])
    none zero = tt
    none (suc n) = tt
take-between P (y ∷ ys) (suc from) (suc to) h all =
    subst (λ (n : ℕ). AllByRecursion P (take n (drop from ys))) (let e : to - from ≡ suc to - suc from =
    omega arith in e)
    (take-between P ys from to (omega (arith, h)) all.1)

-- what is skipped from a place on
pub skip-from : (z : Terms) (time passed from : ℕ) (ys : List Gone) (states : List State) (j : Judged)
    → AreClosed time passed ys
    → from < passed → drop from ys ≡ front_rest states
    → skipped z time (lead states) (front_rest states) j
    ≡ with_states (with_rest (drop passed ys) (lead states))
    (unexplained_all z (time + reach z.by) (take (passed - from) (drop from ys)) j)
skip-from z time passed from ys states j closed lt front =
    let within = closed.within in
    let size = length-drop from ys in
    let less : passed - from ≤ length (drop from ys) = omega (arith, within, size, lt) in
    let some : 0 < passed - from = omega (arith, lt) in
    let sum : from + (passed - from) ≡ passed = omega (arith, lt) in
    let rest : drop (passed - from) (drop from ys) ≡ drop passed ys =
    drop-drop (passed - from) from ys ∙ ap (λ (n : ℕ). drop n ys) sum in
    ap (λ (l : List Gone). skipped z time (lead states) l j) (sym front)
    ∙ skip-first z time (lead states) (passed - from) (drop from ys) j some less
    (take-between (λ y. y.time ≤ time) ys from passed (omega (arith, lt)) closed.closed)
    (ap (λ (l : List Gone). are_behind time l) rest ∙ closed.behind)
    ∙ ap (λ (l : List Gone). with_states (with_rest l (lead states))
    (unexplained_all z (time + reach z.by) (take (passed - from) (drop from ys)) j)) rest

-- no state is behind the closing, so the front is before it
none-passed : (passed : ℕ) (xs : List StreamState) → list_any (λ h. nat_le passed h.passed) xs ≡ false
    → AllByRecursion (λ (k : StreamState). nat_le passed k.passed ≡ false) xs
none-passed passed [] e = tt
none-passed passed (x ∷ xs) e = by (nat_le passed x.passed) refl e (λ k. none-passed passed xs k)
  where
    by : (b : Bool) → nat_le passed x.passed ≡ b → (b || list_any (λ h. nat_le passed h.passed) xs) ≡ false
        → (list_any (λ h. nat_le passed h.passed) xs ≡ false
        → AllByRecursion (λ (k : StreamState). nat_le passed k.passed ≡ false) xs)
        → AllByRecursion (λ (k : StreamState). nat_le passed k.passed ≡ false) (x ∷ xs)
    by true k e more = absurd (cc)
    by false k e more = (k, more e)

pub front-before : (held : List StreamState) (passed f none : ℕ) → list_any (λ h. nat_le passed h.passed) held ≡ false
    → ((held ≡ []) × (f ≡ none)) ⊎ ((h : StreamState) × Contains held h × (h.passed ≡ f)) → (held ≡ []) ⊎ (f < passed)
front-before held passed f none any (inl e) = inl e.0
front-before held passed f none any (inr (h, c, e)) =
    let all = All-from_recursion (λ (k : StreamState). nat_le passed k.passed ≡ false) held
    (none-passed passed held any) in
    let not = leb-false passed h.passed
    (All-contains (λ (k : StreamState). nat_le passed k.passed ≡ false) held h all c) in
    inr (omega (arith, not, e))
