-- The places of one interface after another are put where they are in a configuration.
use Rattle.std.proofs.Common.{◌≡◌, ◌≤◌, ◌<◌, ◌+◌, ◌==◌, ◌≢◌, ℕ, Bool, true, false, refl, sym, ◌∙◌, ap, arith}
use Rattle.std.proofs.Common.{Option, Some, None, option_map, if◌then◌else◌, vec_len, inl, inr}
use Rattle.std.proofs.lemmas.Bool.{cases_lt}
use Rattle.std.proofs.lemmas.Grind.{common_steps}
use Rattle.std.proofs.lemmas.Option.{slice_get_past}
use Rattle.afdx_config.specs.declared.describing.Described.{Described}
use Rattle.afdx_input_files.specs.Limits.{most_interfaces}
use Rattle.afdx_input_sources.specs.Places.{names_of, place_of, places_but}
use Rattle.afdx_input_sources.specs.Placing.{place_in, ArePlaced}
use Rattle.afdx_input_sources.specs.Tables.{known}
use Rattle.afdx_input_sources.specs.declared.places.Interfaces.{Interfaces}
use Rattle.afdx_input_sources.specs.declared.places.TapPoint.{TapPoint}

pub none-if : {X : Type 0} (o : Option X) → ((x : X) → o ≡ Some x → ⊥) → o ≡ None
none-if None h = refl
none-if (Some x) h = absurd (h x refl)

-- the places of the first interfaces are put, those behind them are not
pub record ArePutUpTo (d : Described) (k : ℕ) (old new : Interfaces) : Type 0 where
  pub names : new.names ≡ old.names
  pub first : (i : ℕ) → i < k
      → option_map (place_in d (names_of old)) (place_of old i) ≡ option_map Some (place_of new i)
  pub behind : (i : ℕ) → k ≤ i → place_of new i ≡ place_of old i

module _ (d : Described) (old : Interfaces) where
  -- an interface of which nothing is said
  pub put-unsaid : (k : ℕ) (now : Interfaces) → ArePutUpTo d k old now → place_of now k ≡ None
      → ArePutUpTo d (k + 1) old now
  put-unsaid k now h none = record {
    names = h.names;
    first = λ i lt. elim (cases_lt i k) [
      | inl before ↦ h.first i before
      | inr behind ↦
          let same : i ≡ k = omega (arith, lt, behind) in
          let of-old : place_of old k ≡ None = sym (h.behind k (omega arith)) ∙ none in
          rw same (rw (of-old, none) refl)
    ];
    behind = λ i le. h.behind i (omega (arith, le));
  }

  but-at : (places : ℕ → Option TapPoint) (k i : ℕ) (p : TapPoint) (b : Bool) → (i == k) ≡ b
      → places_but places k p i ≡ (if b then Some p else places i)
  but-at places k i p b e = rw e refl

  pub but-same : (places : ℕ → Option TapPoint) (k : ℕ) (p : TapPoint) → places_but places k p k ≡ Some p
  but-same places k p = but-at places k k p true (grind (arith, common_steps))

  pub but-other : (places : ℕ → Option TapPoint) (k i : ℕ) (p : TapPoint) → i ≢ k → places_but places k p i ≡ places i
  but-other places k i p other = but-at places k i p false (grind (arith, common_steps, other))

  -- one that has a place there
  module _ (k : ℕ) (now new : Interfaces) (p there : TapPoint) (h : ArePutUpTo d k old now)
      (said : place_of now k ≡ Some p) where
    old-said : place_of old k ≡ Some p
    old-said = sym (h.behind k (omega arith)) ∙ said

    pub put-one : place_in d (names_of now) p ≡ Some there
        → ((i : ℕ) → place_of new i ≡ places_but (place_of now) k there i) → new.names ≡ now.names
        → ArePutUpTo d (k + 1) old new
    put-one is places names = record {
      names = names ∙ h.names;
      first = λ i lt. elim (cases_lt i k) [
        | inl before ↦
            let other : i ≢ k = λ e. absurd (omega (arith, before, e)) in
            h.first i before
            ∙ ap (option_map Some) (sym (places i ∙ but-other (place_of now) k i there other))
        | inr behind ↦
            let same : i ≡ k = omega (arith, lt, behind) in
            let new-said : place_of new k ≡ Some there = places k ∙ but-same (place_of now) k there in
            let is-old : place_in d (names_of old) p ≡ Some there = rw h.names at is in
            rw same (rw (old-said, new-said) (ap Some is-old))
      ];
      behind = λ i le.
          let other : i ≢ k = λ e. absurd (omega (arith, le, e)) in
          places i ∙ but-other (place_of now) k i there other ∙ h.behind i (omega (arith, le));
    }

  -- all of them
  pub put-all : (k : ℕ) (now : Interfaces) → most_interfaces ≤ k → ArePutUpTo d k old now
      → vec_len old.places ≡ most_interfaces → ArePlaced d old now
  unfolding place_of
  put-all k now all h room i = elim (cases_lt i k) [
    | inl before ↦ h.first i before
    | inr behind ↦
        let past : place_of old i ≡ None =
        ap known (slice_get_past old.places.items i (omega (arith, room, all, behind))) in
        let past-now : place_of now i ≡ None = h.behind i behind ∙ past in
        rw (past, past-now) refl
  ]
