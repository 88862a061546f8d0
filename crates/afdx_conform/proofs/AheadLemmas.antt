-- Later frames change nothing.
use Rattle.std.proofs.Common.{◌≡◌, ℕ, ◌+◌, ◌<◌, Bool, true, false, ◌&&◌, List, [], ◌∷◌, ◌++◌, map, refl, sym, ap, ◌∙◌}
use Rattle.std.proofs.lemmas.Bool.{lt-leb, lt-ltb}
use Rattle.std.proofs.lemmas.List.Folds.{list_all-append}
use Rattle.std.specs.Prelude.{if◌then◌else◌, nat_lt}
use Rattle.std.specs.List.{AllByRecursion, list_all}
use Rattle.std.specs.Str.{bytes_eq}
use Rattle.afdx_police.specs.Arrival.{Arrival}
use Rattle.afdx_conform.specs.Leeway.{reach}
use Rattle.afdx_conform.specs.Levels.{Levels, first_levels, may_pass, has_to_pass, charged, refused}
use Rattle.afdx_conform.specs.Streams.{Gone, Terms, fits, is_open, is_begun, is_no_sooner, is_in_time, latency}
use Rattle.afdx_conform.specs.Explanations.{link, charge, last_time, levels_then}
use Rattle.afdx_conform.specs.States.{Came, Closing, State, state_with, arrivals_came, led_by, kept, are_behind, first_states, accepted_states, states_at, states_after}
use Rattle.afdx_conform.specs.Ahead.{with_more, AreBeyond, LaterFramesChangeNothing}

pub map-joined : (f : State → State) (xs ys : List State) → map f (xs ++ ys) ≡ map f xs ++ map f ys
map-joined f [] ys = refl
map-joined f (x ∷ xs) ys = ap (λ (l : List State). f x ∷ l) (map-joined f xs ys)

pub led-map : (f : State → State) (lead on : State → List State) → ((s : State) → on (f s) ≡ map f (lead s))
    → (xs : List State) → led_by on (map f xs) ≡ map f (led_by lead xs)
unfolding led_by
led-map f lead on same [] = refl
led-map f lead on same (x ∷ xs) =
    ap (λ (l : List State). l ++ led_by on (map f xs)) (same x)
    ∙ ap (λ (l : List State). map f (lead x) ++ l) (led-map f lead on same xs)
    ∙ sym (map-joined f (lead x) (led_by lead xs))

pub kept-map : (f : State → State) (test : State → Bool) → ((s : State) → test (f s) ≡ test s)
    → (xs : List State) → kept test (map f xs) ≡ map f (kept test xs)
unfolding kept
kept-map f test same [] = refl
kept-map f test same (x ∷ xs) =
    ap (λ (b : Bool). if b then f x ∷ kept test (map f xs) else kept test (map f xs)) (same x)
    ∙ by (test x) (kept-map f test same xs)
  where
    by : (b : Bool) → kept test (map f xs) ≡ map f (kept test xs)
        → (if b then f x ∷ kept test (map f xs) else kept test (map f xs))
        ≡ map f (if b then x ∷ kept test xs else kept test xs)
    by true e = ap (λ (l : List State). f x ∷ l) e
    by false e = e

pub behind-more : (time : ℕ) (more : List Gone) → AllByRecursion (λ y. time < y.time) more
    → list_all (λ (y : Gone). nat_lt time y.time) more ≡ true
behind-more time [] all = refl
behind-more time (y ∷ more) all = rw (lt-ltb time y.time all.0) (behind-more time more all.1)

and-true : (a b : Bool) → b ≡ true → (a && b) ≡ a
and-true true b e = e
and-true false b e = refl

pub behind-same : (time : ℕ) (rest more : List Gone) → AllByRecursion (λ y. time < y.time) more
    → are_behind time (rest ++ more) ≡ are_behind time rest
unfolding are_behind
behind-same time rest more all =
    list_all-append (λ (y : Gone). nat_lt time y.time) rest more
    ∙ and-true (list_all (λ (y : Gone). nat_lt time y.time) rest) _ (behind-more time more all)

if-false : {X : Type 0} (b : Bool) (u v : X) → b ≡ false → (if b then u else v) ≡ v
if-false true u v e = absurd (cc)
if-false false u v e = refl

and-false : (a b : Bool) → b ≡ false → (a && b) ≡ false
and-false true b e = e
and-false false b e = refl

module _ (z : Terms) where
  pub too-late : (x : Arrival) (y : Gone) → x.time + latency z + reach z.by < y.time → fits z x y ≡ false
  unfolding fits
  too-late x y h = and-false (bytes_eq x.bytes y.bytes && is_no_sooner z x y) (is_in_time z x y)
      (lt-leb y.time (x.time + latency z + reach z.by) h)

  pub first-more : (levels : Levels) (ys more : List Gone) → AllByRecursion (λ y. is_begun z y ≡ false) more
      → first_states z levels (ys ++ more) ≡ map (with_more more) (first_states z levels ys)
  unfolding first_states
  first-more levels [] [] all = refl
  first-more levels [] (m ∷ more) all =
      ap (λ (l : List State). state_with (m ∷ more) levels 0 ∷ l)
      (if-false (is_begun z m) (first_states z levels more) [] all.0)
  first-more levels (y ∷ ys) more all =
      ap (λ (l : List State). state_with (y ∷ (ys ++ more)) levels 0 ∷ l)
      (by (is_begun z y) (first-more levels ys more all))
    where
      by : (b : Bool) → first_states z levels (ys ++ more) ≡ map (with_more more) (first_states z levels ys)
          → (if b then first_states z levels (ys ++ more) else []) ≡ map (with_more more)
          (if b then first_states z levels ys else [])
      by true e = e
      by false e = refl

  accepted-more : (x : Arrival) (levels : Levels) (n : ℕ) (rest more : List Gone) → is_open z x ≡ false
      → AllByRecursion (λ y. x.time + latency z + reach z.by < y.time) more
      → accepted_states z x levels n (rest ++ more) ≡ map (with_more more) (accepted_states z x levels n rest)
  accepted-more x levels n [] [] opens all = by (is_open z x) opens
    where
      by : (b : Bool) → b ≡ false → (if b then state_with [] levels (n + 1) ∷ [] else [])
          ≡ map (with_more []) (if b then state_with [] levels (n + 1) ∷ [] else [])
      by true e = absurd (cc)
      by false e = refl
  accepted-more x levels n [] (m ∷ more) opens all =
      if-false (fits z x m) (state_with more levels n ∷ []) [] (too-late x m all.0)
      ∙ sym (ap (λ (l : List State). map (with_more (m ∷ more)) l)
      (if-false (is_open z x) (state_with [] levels (n + 1) ∷ []) [] opens))
  accepted-more x levels n (y ∷ rest) more opens all = by (fits z x y)
    where
      by : (b : Bool) → (if b then state_with (rest ++ more) levels n ∷ [] else [])
          ≡ map (with_more more) (if b then state_with rest levels n ∷ [] else [])
      by true = refl
      by false = refl

  pub at-more : (x : Arrival) (levels : Levels) (more : List Gone) → is_open z x ≡ false
      → AllByRecursion (λ y. x.time + latency z + reach z.by < y.time) more
      → (s : State) → states_at z x levels (with_more more s) ≡ map (with_more more) (states_at z x levels s)
  unfolding states_at
  at-more x levels more opens all s =
      ap (λ (l : List State). l ++ refused-states (s.rest ++ more))
      (may-by (may_pass (link z) z.by (charge z x) levels))
      ∙ ap (λ (l : List State). map (with_more more) passed ++ l)
      (must-by (has_to_pass (link z) z.by (charge z x) levels))
      ∙ sym (map-joined (with_more more) passed (refused-states s.rest))
    where
      refused-states : List Gone → List State
      refused-states rest = if has_to_pass (link z) z.by (charge z x) levels then []
          else state_with rest (refused (link z) z.by (charge z x) levels) s.waiting ∷ []

      passed : List State
      passed = if may_pass (link z) z.by (charge z x) levels
          then accepted_states z x (charged (link z) z.by (charge z x) levels) s.waiting s.rest else []

      may-by : (b : Bool)
          → (if b then accepted_states z x (charged (link z) z.by (charge z x) levels) s.waiting (s.rest ++ more)
          else [])
          ≡ map (with_more more) (if b then accepted_states z x (charged (link z) z.by (charge z x) levels) s.waiting
          s.rest else [])
      may-by true = accepted-more x (charged (link z) z.by (charge z x) levels) s.waiting s.rest more opens all
      may-by false = refl

      must-by : (b : Bool)
          → (if b then [] else state_with (s.rest ++ more) (refused (link z) z.by (charge z x) levels) s.waiting ∷ [])
          ≡ map (with_more more) (if b then [] else state_with s.rest (refused (link z) z.by (charge z x) levels)
          s.waiting ∷ [])
      must-by true = refl
      must-by false = refl

pub later_frames : LaterFramesChangeNothing
unfolding states_after AreBeyond
later_frames z ys more [] all = first-more z (first_levels (link z) z.by z.by.start) ys more all
later_frames z ys more (Came x ∷ before) all =
    let lead : State → List State = λ s. states_at z x (levels_then z s.levels (last_time z.by (arrivals_came before))
    x) s in
    ap
    (λ (l : List State). led_by
    (λ s. states_at z x (levels_then z s.levels (last_time z.by (arrivals_came before)) x) s) l)
    (later_frames z ys more before all.2)
    ∙ led-map (with_more more)
    (λ s. states_at z x (levels_then z s.levels (last_time z.by (arrivals_came before)) x) s)
    (λ s. states_at z x (levels_then z s.levels (last_time z.by (arrivals_came before)) x) s)
    (λ s. at-more z x (levels_then z s.levels (last_time z.by (arrivals_came before)) x) more all.0 all.1 s)
    (states_after z ys before)
later_frames z ys more (Closing time ∷ before) all =
    ap (λ (l : List State). kept (λ s. are_behind time s.rest) l) (later_frames z ys more before all.1)
    ∙ kept-map (with_more more) (λ s. are_behind time s.rest) (λ s. behind-same time s.rest more all.0)
    (states_after z ys before)
