-- Step by step through what is found where an arrival leads to no state.
use Rattle.std.proofs.Common.{◌≡◌, ℕ, zero, suc, ◌+◌, ◌<◌, ◌≤◌, Bool, true, false, List, [], ◌∷◌, ◌++◌, map, drop, get_or, length, refl, sym, ap, ◌∙◌, arith}
use Rattle.std.proofs.lemmas.List.{drop_all, length-map}
use Rattle.std.proofs.lemmas.List.Elements.{All-from_recursion, recursion_from_All, All-weaker, All-same, All-map, All-filter}
use Rattle.std.proofs.lemmas.Bool.{eq-eqb}
use Rattle.std.specs.Prelude.{if◌then◌else◌, nat_lt, nat_eq, IsTrue, All}
use Rattle.std.specs.List.{AllByRecursion, filter}
use Rattle.afdx_police.specs.Arrival.{Arrival}
use Rattle.afdx_conform.specs.Bounds.{HaveToPass}
use Rattle.afdx_conform.specs.Explanations.{link, charge, levels_then}
use Rattle.afdx_conform.specs.Findings.{Judged, with_states, front_rest, lead, with_rest, has_some, aged, as_accepted, asked, stopped, took, unexplained, deviation_of, deviates_by, deviates, Finding}
use Rattle.afdx_conform.specs.HeldStates.{state_of, IsWithin, IsSmall, past}
use Rattle.afdx_conform.specs.Levels.{Levels, charged, may_pass, has_to_pass, refused}
use Rattle.afdx_conform.specs.Limits.{gone_of}
use Rattle.afdx_conform.specs.Ranges.{most_held}
use Rattle.afdx_conform.specs.States.{State, state_with, led_by, states_at, accepted_states}
use Rattle.afdx_conform.specs.Streams.{Gone, Terms}
use Rattle.afdx_conform.specs.declared.finding.Deviation.{Deviation}
use Rattle.afdx_conform.specs.declared.finding.Deviation.TheVariants as deviation
use Rattle.afdx_conform.specs.declared.levels.Rates.{Rates}
use Rattle.afdx_conform.specs.declared.limits.LeftFrame.{LeftFrame}
use Rattle.afdx_conform.specs.declared.states.Case.{Case}
use Rattle.afdx_conform.specs.declared.states.StreamState.{StreamState}
use Rattle.afdx_conform.proofs.AmongLemmas.{Among, kept-among}
use Rattle.afdx_conform.proofs.FindingLemmas.{front-is}
use Rattle.afdx_conform.proofs.HeldLemmas.{if-true, if-false}

-- ---- one step of the definition

module _ (z : Terms) (behind : List Arrival) (x : Arrival) (states : List State) (y : Gone) (rest : List Gone)
    (j : Judged) where
  abbrev further : Judged
  further = deviates z behind x (with_rest rest (lead states)) rest (unexplained z x.time y j)

  on : (d : Deviation) → deviation_of z behind x y ≡ d
      → deviates z behind x states (y ∷ rest) j ≡ deviates_by z d x states y rest j further
  unfolding deviates
  on d e = ap (λ (v : Deviation). deviates_by z v x states y rest j further) e

  pub on-stopped : deviation_of z behind x y ≡ deviation.Stopped → deviates z behind x states (y ∷ rest) j
      ≡ stopped z x states j
  on-stopped e = on deviation.Stopped e

  pub on-took : (f : Finding) → deviation_of z behind x y ≡ deviation.Took f
      → deviates z behind x states (y ∷ rest) j ≡ took z x f states rest j
  on-took f e = on (deviation.Took f) e

  pub on-led : deviation_of z behind x y ≡ deviation.Other → has_some (asked z x rest states) ≡ true
      → deviates z behind x states (y ∷ rest) j ≡ with_states (asked z x rest states) (unexplained z x.time y j)
  on-led e some = on deviation.Other e
      ∙ if-true (has_some (asked z x rest states)) (with_states (asked z x rest states) (unexplained z x.time y j))
      further some

  pub on-other : deviation_of z behind x y ≡ deviation.Other → has_some (asked z x rest states) ≡ false
      → deviates z behind x states (y ∷ rest) j ≡ further
  on-other e none = on deviation.Other e
      ∙ if-false (has_some (asked z x rest states)) (with_states (asked z x rest states) (unexplained z x.time y j))
      further none

pub on-none : (z : Terms) (behind : List Arrival) (x : Arrival) (states : List State) (j : Judged)
    → deviates z behind x states [] j ≡ stopped z x states j
unfolding deviates
on-none z behind x states j = refl

-- ---- frames by their place

pub gone-at : (fs : List LeftFrame) (i : ℕ) (f : LeftFrame) → i < length fs
    → drop i (map gone_of fs) ≡ gone_of (get_or fs i f) ∷ drop (i + 1) (map gone_of fs)
gone-at [] i f lt = absurd (omega (arith, lt))
gone-at (g ∷ fs) zero f lt = refl
gone-at (g ∷ fs) (suc i) f lt =
    let next : suc i + 1 ≡ suc (i + 1) = omega arith in
    gone-at fs i f (omega (arith, lt))
    ∙ ap (λ (n : ℕ). gone_of (get_or fs i f) ∷ drop n (map gone_of (g ∷ fs))) (sym next)

pub gone-past : (fs : List LeftFrame) (i : ℕ) → length fs ≤ i → drop i (map gone_of fs) ≡ []
gone-past fs i le = let n = length-map fs gone_of in drop_all i (map gone_of fs) (omega (arith, n, le))

-- ---- the front, one frame on

rest-front : (rest : List Gone) (s : State) (more : List State) → front_rest (with_rest rest (s ∷ more)) ≡ rest
unfolding front_rest
rest-front rest s [] = refl
rest-front rest s (t ∷ more) =
    by (nat_lt (length rest) (length (front_rest (with_rest rest (t ∷ more))))) (rest-front rest t more)
  where
    by : (b : Bool) → front_rest (with_rest rest (t ∷ more)) ≡ rest
        → (if b then rest else front_rest (with_rest rest (t ∷ more))) ≡ rest
    by true e = refl
    by false e = e

-- some state is in the lead
some-of : (s : State) (l : List State) → Among s l → has_some l ≡ true
some-of s [] h = absurd h
some-of s (t ∷ l) h = refl

pub lead-some : (states : List State) (y : Gone) (rest : List Gone) → front_rest states ≡ y ∷ rest
    → has_some (lead states) ≡ true
unfolding front_rest
lead-some [] y rest e = absurd (cc)
lead-some (s ∷ more) y rest e =
    let f = front-is (s ∷ more) tt in
    some-of f.of (lead (s ∷ more))
    (kept-among (λ t. nat_eq (length t.rest) (length (front_rest (s ∷ more)))) (s ∷ more) f.of f.among
    (eq-eqb (length f.of.rest) (length (front_rest (s ∷ more))) (ap (λ (l : List Gone). length l) f.rest)))

pub front-on : (rest : List Gone) (l few : List State) → few ≡ with_rest rest l → has_some l ≡ true
    → rest ≡ front_rest few
front-on rest [] few e some = absurd (cc)
front-on rest (s ∷ more) few e some = sym (ap (λ (t : List State). front_rest t) e ∙ rest-front rest s more)

-- ---- where an arrival leads to no state, it has to pass in each

nil-both : (xs ys : List State) → xs ++ ys ≡ [] → (xs ≡ []) × (ys ≡ [])
nil-both [] ys e = (refl, e)
nil-both (x ∷ xs) ys e = absurd (cc)

module _ (z : Terms) (x : Arrival) where
  passes-at : (levels : Levels) (s : State) → states_at z x levels s ≡ []
      → has_to_pass (link z) z.by (charge z x) levels ≡ true
  unfolding states_at
  passes-at levels s e =
      by (has_to_pass (link z) z.by (charge z x) levels) refl
      (nil-both (if may_pass (link z) z.by (charge z x) levels
      then accepted_states z x (charged (link z) z.by (charge z x) levels) s.waiting s.rest else []) _ e).1
    where
      by : (b : Bool) → has_to_pass (link z) z.by (charge z x) levels ≡ b
          → (if b then [] else state_with s.rest (refused (link z) z.by (charge z x) levels) s.waiting ∷ []) ≡ []
          → has_to_pass (link z) z.by (charge z x) levels ≡ true
      by true k n = k
      by false k n = absurd (cc)

  pass-by : (last : ℕ) (ys : List Gone) (held : List StreamState)
      → led_by (λ s. states_at z x (levels_then z s.levels last x) s) (map (state_of ys) held) ≡ []
      → AllByRecursion (λ h. IsTrue (has_to_pass (link z) z.by (charge z x) (levels_then z h.levels last x))) held
  unfolding led_by
  pass-by last ys [] e = tt
  pass-by last ys (h ∷ held) e =
      let both = nil-both (states_at z x (levels_then z h.levels last x) (state_of ys h))
      (led_by (λ s. states_at z x (levels_then z s.levels last x) s) (map (state_of ys) held)) e in
      (passes-at (levels_then z h.levels last x) (state_of ys h) both.0, pass-by last ys held both.1)

  pub have-to-pass : (last : ℕ) (ys : List Gone) (held : List StreamState)
      → led_by (λ s. states_at z x (levels_then z s.levels last x) s) (map (state_of ys) held) ≡ []
      → HaveToPass z last x held
  have-to-pass last ys held e =
      All-from_recursion
      (λ (h : StreamState). IsTrue (has_to_pass (link z) z.by (charge z x) (levels_then z h.levels last x))) held
      (pass-by last ys held e)

  -- one more state where it was accepted
  pub accepted-more : (last : ℕ) (ys : List Gone) (held : List StreamState) (h : StreamState)
      → as_accepted z x (aged z last x (map (state_of ys) (held ++ (h ∷ []))))
      ≡ as_accepted z x (aged z last x (map (state_of ys) held))
      ++ (state_with (drop h.passed ys) (charged (link z) z.by (charge z x) (levels_then z h.levels last x)) h.waiting
      ∷ [])
  accepted-more last ys [] h = refl
  accepted-more last ys (k ∷ held) h =
      ap (λ (l : List State). state_with (drop k.passed ys)
      (charged (link z) z.by (charge z x) (levels_then z k.levels last x))
      k.waiting ∷ l)
      (accepted-more last ys held h)

  pub accepted-rest : (rest : List Gone) (states : List State)
      → with_rest rest (as_accepted z x states) ≡ as_accepted z x (with_rest rest states)
  accepted-rest rest [] = refl
  accepted-rest rest (s ∷ states) =
      ap (λ (l : List State). state_with rest (charged (link z) z.by (charge z x) s.levels) s.waiting ∷ l)
      (accepted-rest rest states)

-- ---- bounds

pub small-all : (rates : Rates) (frames count : ℕ) (held : List StreamState) → frames < most_held → count < most_held
    → All (λ h. IsWithin rates frames count h) held → All (λ h. IsSmall rates h) held
small-all rates frames count held f n all =
    All-weaker (λ h. IsWithin rates frames count h) (λ h. IsSmall rates h)
    (λ h w. record {
      passed = (let p = w.passed in omega (arith, p, f));
      waiting = (let p = w.waiting in omega (arith, p, n));
      levels = w.levels;
    }) held all

pub past-within : (rates : Rates) (frames count front to : ℕ) (held out : List StreamState) → to ≤ frames
    → out ≡ map (λ h. past to h) (filter (λ h. nat_eq h.passed front) held)
    → All (λ h. IsWithin rates frames count h) held → All (λ h. IsWithin rates frames count h) out
past-within rates frames count front to held out le e all =
    All-same (λ (h : StreamState). IsWithin rates frames count h) out
    (map (λ h. past to h) (filter (λ h. nat_eq h.passed front) held)) e
    (All-map (λ (h : StreamState). IsWithin rates frames count h) (λ (h : StreamState). past to h)
    (filter (λ h. nat_eq h.passed front) held)
    (All-weaker (λ (h : StreamState). IsWithin rates frames count h)
    (λ (h : StreamState). IsWithin rates frames count (past to h))
    (λ h w. record { passed = le; waiting = w.waiting; levels = w.levels; near = w.near })
    (filter (λ h. nat_eq h.passed front) held)
    (All-filter (λ h. nat_eq h.passed front) (λ (h : StreamState). IsWithin rates frames count h) held all)))

-- ---- cases

all-of : (P : StreamState → Type 0) (cases : List Case) → AllByRecursion P (map (λ (d : Case). d.held) cases)
    → AllByRecursion (λ (d : Case). P d.held) cases
all-of P [] all = tt
all-of P (d ∷ cases) all = (all.0, all-of P cases all.1)

pub of-cases : (P : StreamState → Type 0) (cases : List Case) (held : List StreamState) →
    map (λ (d : Case). d.held) cases ≡ held
    → All P held → All (λ (d : Case). P d.held) cases
of-cases P cases held e all =
    All-from_recursion (λ (d : Case). P d.held) cases
    (all-of P cases (recursion_from_All P (map (λ (d : Case). d.held) cases)
    (All-same P (map (λ (d : Case). d.held) cases) held e all)))

pub held-states : (ys : List Gone) (cases : List Case)
    → map (λ (d : Case). state_of ys d.held) cases ≡ map (state_of ys) (map (λ (d : Case). d.held) cases)
held-states ys [] = refl
held-states ys (d ∷ cases) = ap (λ (l : List State). state_of ys d.held ∷ l) (held-states ys cases)
