-- Places of output ports: which are among them, and how they are gathered.
use Rattle.std.proofs.Common.{◌≡◌, ◌≢◌, ℕ, zero, suc, ◌<◌, ◌≤◌, ◌+◌, ◌==◌, Bool, true, false, List}
use Rattle.std.proofs.Common.{[], ◌∷◌, ◌++◌, length, refl, sym, ap, ◌∙◌, arith, subst, inl, inr}
use Rattle.std.proofs.Common.{if◌then◌else◌}
use Rattle.std.specs.Prelude.{Option, Some, None, option_map, slice_get, ◌⊎◌}
use Rattle.std.specs.Option.{option_map_or}
use Rattle.std.proofs.lemmas.Bool.{cases_eq, ne_eqb, eqb-true}
use Rattle.std.proofs.lemmas.List.{length_push}
use Rattle.std.proofs.lemmas.Option.{slice_get-map}
use Rattle.afdx_port.proofs.TurnLemmas.{eqb-same}
use Rattle.afdx_config.specs.Reading.{system_at_port}
use Rattle.afdx_config.specs.Rows.{LinkRow, Rows, is_to}
use Rattle.afdx_law_bounds.specs.Outputs.{Row}
use Rattle.afdx_switch.specs.Lines.{is_among, ArePlaces}
use Rattle.afdx_switch.specs.Tables.{goes_to, row_of, rows_of, buffer_at}
use Rattle.afdx_switch.proofs.ListLemmas.{bool_cases}
use Rattle.afdx_switch.proofs.NewLemmas.{pushed}

-- a place that is among some stands somewhere
pub among-at : (place : ℕ) (places : List ℕ) → is_among place places ≡ true
    → (j : ℕ) × (slice_get places j ≡ Some place)
unfolding is_among
among-at place [] among = absurd cc
among-at place (p ∷ ps) among = at (bool_cases (p == place)) (λ rest. among-at place ps rest)
  where
    at : (p == place ≡ true) ⊎ (p == place ≡ false)
        → (is_among place ps ≡ true → (j : ℕ) × (slice_get ps j ≡ Some place))
        → (j : ℕ) × (slice_get (p ∷ ps) j ≡ Some place)
    at (inl same) later = (0, ap Some (eqb-true p place same))
    at (inr other) later = let rest : is_among place ps ≡ true = rw other at among in let found =
        later rest in (suc found.0, found.1)

-- one that isn't stands nowhere
pub not-among-at : (place : ℕ) (places : List ℕ) (j : ℕ) → is_among place places ≡ false
    → slice_get places j ≡ Some place → ⊥
unfolding is_among
not-among-at place [] j not_among at = absurd cc
not-among-at place (p ∷ ps) zero not_among at =
    let same : p ≡ place = cc in
    let is : p == place ≡ true = eqb-same p place same in
    let no_longer : true ≡ false = rw is at not_among in
    cc no_longer
not-among-at place (p ∷ ps) (suc j) not_among at =
    rest (bool_cases (p == place)) (λ none. not-among-at place ps j none at)
  where
    rest : (p == place ≡ true) ⊎ (p == place ≡ false) → (is_among place ps ≡ false → ⊥) → ⊥
    rest (inl same) later = let no_longer : true ≡ false = rw same at not_among in cc no_longer
    rest (inr other) later = later (rw other at not_among)

among-push : (place n : ℕ) (places : List ℕ) → is_among place (places ++ n ∷ [])
    ≡ (if is_among place places then true else n == place)
unfolding is_among
among-push place n [] = last (bool_cases (n == place))
  where
    last : (n == place ≡ true) ⊎ (n == place ≡ false) → is_among place (n ∷ []) ≡ (n == place)
    last (inl same) = rw same refl
    last (inr other) = rw other refl
among-push place n (p ∷ ps) = at (bool_cases (p == place)) (among-push place n ps)
  where
    at : (p == place ≡ true) ⊎ (p == place ≡ false) → is_among place (ps ++ n ∷ [])
        ≡ (if is_among place ps then true else n == place) →
        is_among place ((p ∷ ps) ++ n ∷ []) ≡ (if is_among place (p ∷ ps) then true else n == place)
    at (inl same) later = rw same refl
    at (inr other) later = rw other later

-- those of the first n places that pass, and what is asked of each
pub record GatheredPlaces (P : ℕ → Bool → Type 0) (n : ℕ) (places : List ℕ) : Type 0 where
  pub counted : length places ≤ n
  pub below : (k place : ℕ) → slice_get places k ≡ Some place → place < n
  pub once : (j k place : ℕ) → slice_get places j ≡ Some place → slice_get places k ≡ Some place → j ≡ k
  pub each : (place : ℕ) → place < n → P place (is_among place places)

module _ (P : ℕ → Bool → Type 0) where
  pub no-places : GatheredPlaces P 0 []
  no-places = record {
    counted = omega arith;
    below = λ k place at. absurd cc;
    once = λ j k place a b. absurd cc;
    each = λ place below. absurd (omega (arith, below));
  }

  module _ (n : ℕ) (places : List ℕ) (g : GatheredPlaces P n places) where
    new-place : is_among n places ≡ false
    new-place = at (bool_cases (is_among n places))
      where
        at : (is_among n places ≡ true) ⊎ (is_among n places ≡ false) → is_among n places ≡ false
        at (inl among) = let found = among-at n places among in absurd (omega (arith, g.below found.0 n found.1))
        at (inr new) = new

    pub place-skipped : P n false → GatheredPlaces P (n + 1) places
    place-skipped fails = record {
      counted = omega (arith, g.counted);
      below = λ k place at. omega (arith, g.below k place at);
      once = g.once;
      each = λ place below. at place below (cases_eq place n);
    }
      where
        at : (place : ℕ) → place < n + 1 → (place ≡ n) ⊎ (place ≢ n) → P place (is_among place places)
        at place below (inl same) = subst (λ k. P k (is_among k places)) (sym same) (subst (P n) (sym new-place) fails)
        at place below (inr other) = g.each place (omega (arith, below, other))

    pub place-pushed : P n true → GatheredPlaces P (n + 1) (places ++ n ∷ [])
    place-pushed passes = record {
      counted = omega (arith, g.counted, length_push places n);
      below = λ k place at. under k place (pushed places n k place at);
      once = λ j k place a b. same j k place (pushed places n j place a) (pushed places n k place b);
      each = λ place below. at place below (cases_eq place n);
    }
      where
        under : (k place : ℕ) → (slice_get places k ≡ Some place) ⊎ ((k ≡ length places) × (n ≡ place)) → place < n + 1
        under k place (inl before) = omega (arith, g.below k place before)
        under k place (inr last) = omega (arith, last.1)

        same : (j k place : ℕ) → (slice_get places j ≡ Some place)
            ⊎ ((j ≡ length places) × (n ≡ place)) → (slice_get places k ≡ Some place)
            ⊎ ((k ≡ length places) × (n ≡ place)) → j ≡ k
        same j k place (inl a) (inl b) = g.once j k place a b
        same j k place (inl a) (inr b) = absurd (omega (arith, g.below j place a, b.1))
        same j k place (inr a) (inl b) = absurd (omega (arith, g.below k place b, a.1))
        same j k place (inr a) (inr b) = a.0 ∙ sym b.0

        at : (place : ℕ) → place < n + 1 → (place ≡ n) ⊎ (place ≢ n) → P place (is_among place (places ++ n ∷ []))
        at place below (inl same) =
            let here : is_among n (places ++ n ∷ []) ≡ true = among-push n n places
            ∙ rw (new-place, eqb-same n n refl) refl in
            subst (λ k. P k (is_among k (places ++ n ∷ []))) (sym same) (subst (P n) (sym here) passes)
        at place below (inr other) =
            let there : is_among place (places ++ n ∷ []) ≡ is_among place places =
            among-push place n places ∙ rw (ne_eqb n place (λ e. other (sym e)))
            (itself (bool_cases (is_among place places))) in
            subst (P place) (sym there) (g.each place (omega (arith, below, other)))
          where
            itself : (is_among place places ≡ true) ⊎ (is_among place places ≡ false)
                → (if is_among place places then true else false) ≡ is_among place places
            itself (inl among) = rw among refl
            itself (inr none) = rw none refl

pub places-are : (P : ℕ → Bool → Type 0) (n : ℕ) (places : List ℕ) → n ≤ 24
    → GatheredPlaces P n places → ArePlaces places
places-are P n places few g =
    record {
      few = omega (arith, few, g.counted);
      within = λ k place at. omega (arith, few, g.below k place at);
      once = g.once;
    }

-- a port that a link goes to has the buffer of the tables
pub buffer-is : (t : Rows) (i : ℕ) (r : Row) (port : ℕ) → slice_get (rows_of t) i ≡ Some r
    → r.goes_to port ≡ true → buffer_at t port ≡ t.buffer
unfolding rows_of goes_to buffer_at
buffer-is t i r port at goes = of_some (slice_get t.links i) refl (sym (slice_get-map (row_of t) t.links i) ∙ at)
  where
    by_system : (l : LinkRow) (o : Option ℕ) → option_map_or (λ system. is_to system l) o false
        ≡ true → option_map_or (λ (system : ℕ). t.buffer) o 64 ≡ t.buffer
    by_system l None is = absurd cc
    by_system l (Some system) is = refl

    of_link : (l : LinkRow) → goes_to t l port ≡ true → buffer_at t port ≡ t.buffer
    of_link l is = by_system l (system_at_port t.systems port) is

    of_some : (o : Option LinkRow) → slice_get t.links i ≡ o → option_map (row_of t) o ≡ Some r
        → buffer_at t port ≡ t.buffer
    of_some None at_l is = absurd cc
    of_some (Some l) at_l is = let same : row_of t l ≡ r = cc in
        of_link l (subst (λ q. q.goes_to port ≡ true) (sym same) goes)
