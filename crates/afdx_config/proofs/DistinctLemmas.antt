-- Rows that are distinct stay so when one is added that differs from each of them.
use Rattle.std.proofs.Common.{◌≡◌, ℕ, suc, ◌+◌, ◌<◌, ◌≤◌, Bool, true, false, not, cond, ◌||◌, List}
use Rattle.std.proofs.Common.{[], ◌∷◌, ◌++◌, length, Some, None, inl, inr, refl, sym, ap}
use Rattle.std.proofs.Common.{subst, ◌∙◌, arith, nat_lt, position, zero}
use Rattle.std.specs.List.{slice_get, list_any, position_or_len}
use Rattle.std.proofs.lemmas.Bool.{cases_Bool, ltb-false, lt-ltb}
use Rattle.std.proofs.lemmas.Option.{slice_get_within}
use Rattle.afdx_frame.proofs.ListLemmas.{slice_get-push_cases}
use Rattle.afdx_config.specs.Lawful.{AreDistinct}

neither : (a b : Bool) → a || b ≡ false → (a ≡ false) × (b ≡ false)
neither true b h = absurd cc
neither false b h = (refl, h)

none_at : {R : Type 0} (p : R → Bool) (rows : List R) (i : ℕ) (a : R) → list_any p rows ≡ false
    → slice_get rows i ≡ Some a → p a ≡ false
none_at p [] i a none at = absurd cc
none_at p (r ∷ rs) zero a none at = ap p (same r a (sym at)) ∙ (neither (p r) (list_any p rs) none).0
  where
    same : {R : Type 0} (r a : R) → Some a ≡ Some r → a ≡ r
    same r a e = cc
none_at p (r ∷ rs) (suc i) a none at = none_at p rs i a (neither (p r) (list_any p rs) none).1 at

none_past : {R : Type 0} (p : R → Bool) (rows : List R) → length rows ≤ position_or_len p rows → list_any p rows ≡ false
none_past p [] past = refl
none_past p (r ∷ rs) past =
    elim (cases_Bool (p r)) [
      | inl here ↦ absurd (omega (arith, past, ap (λ b. cond (not b) (1 + position_or_len p rs) 0) here))
      | inr not_here ↦
          let later : length rs ≤ position_or_len p rs =
          omega (arith, past, ap (λ b. cond (not b) (1 + position_or_len p rs) 0) not_here) in
          ap (λ b. b || list_any p rs) not_here ∙ none_past p rs later
    ]

-- what a search doesn't find passes nowhere
pub none_found : {R : Type 0} (p : R → Bool) (rows : List R) → position p rows ≡ None → list_any p rows ≡ false
none_found p rows h = none_past p rows (past (nat_lt (position_or_len p rows) (length rows)) refl h)
  where
    past : (b : Bool) → nat_lt (position_or_len p rows) (length rows) ≡ b
        → cond b (Some (position_or_len p rows)) None ≡ None → length rows ≤ position_or_len p rows
    past true at found = absurd cc
    past false at found = ltb-false _ _ at

pub distinct-nil : {R A : Type 0} (f : R → A) → AreDistinct f []
unfolding AreDistinct
distinct-nil f = λ i j a b at at' same. absurd (cc at)

-- a row that a test finds where it agrees with another, and doesn't find here
pub distinct-push : {R A : Type 0} (f : R → A) (p : R → Bool) (rows : List R) (new : R)
    → AreDistinct f rows → list_any p rows ≡ false → ((a : R) → f a ≡ f new → p a ≡ true)
    → AreDistinct f (rows ++ new ∷ [])
unfolding AreDistinct
distinct-push f p rows new distinct none finds = λ i j a b at at' same.
    elim (slice_get-push_cases rows new i a at) [
      | inl old ↦ elim (slice_get-push_cases rows new j b at') [
        | inl old' ↦ distinct i j a b old old' same
        | inr last' ↦ absurd (cc (none_at p rows i a none old, finds a (same ∙ ap f last'.1)))
      ]
      | inr last ↦ elim (slice_get-push_cases rows new j b at') [
        | inl old' ↦ absurd (cc (none_at p rows j b none old', finds b (sym same ∙ ap f last.1)))
        | inr last' ↦ last.0 ∙ sym last'.0
      ]
    ]

-- where a row passes, a search finds one that does
pub record IsFirst {R : Type 0} (p : R → Bool) (rows : List R) (k : ℕ) (b : R) : Type 0 where
  pub place : position_or_len p rows ≡ k
  pub stands : slice_get rows k ≡ Some b
  pub passes : p b ≡ true

first : {R : Type 0} (p : R → Bool) (rows : List R) (i : ℕ) (a : R) → slice_get rows i ≡ Some a
    → p a ≡ true → (k : ℕ) × (b : R) × IsFirst p rows k b
first p [] i a at here = absurd (cc at)
first p (r ∷ rs) zero a at here =
    let passes : p r ≡ true = ap p (same r a at) ∙ here in (
      0,
      r,
      record {
        place = ap (λ b. cond (not b) (1 + position_or_len p rs) 0) passes;
        stands = refl;
        passes = passes;
      },
    )
  where
    same : {R : Type 0} (r a : R) → Some r ≡ Some a → r ≡ a
    same r a e = cc
first p (r ∷ rs) (suc i) a at here =
    elim (cases_Bool (p r)) [
      | inl passes ↦ (
        0,
        r,
        record {
          place =
              ap (λ b. cond (not b) (1 + position_or_len p rs) 0) passes;
          stands = refl;
          passes = passes;
        },
      )
      | inr other ↦
          let later = first p rs i a at here in
          let place : position_or_len p (r ∷ rs) ≡ suc later.0 =
          omega (arith, ap (λ b. cond (not b) (1 + position_or_len p rs) 0) other, later.2.place) in
          (suc later.0, later.1, record { place = place; stands = later.2.stands; passes = later.2.passes })
    ]

-- among distinct rows a search for what tells a row from the others gives its own place
pub found : {R A : Type 0} (f : R → A) (p : R → Bool) (rows : List R) (i : ℕ) (a : R)
    → AreDistinct f rows → slice_get rows i ≡ Some a → p a ≡ true
    → ((b : R) → p b ≡ true → f b ≡ f a) → position p rows ≡ Some i
unfolding AreDistinct
found f p rows i a distinct at here only =
    let one = first p rows i a at here in
    let same : one.0 ≡ i = distinct one.0 i one.1 a one.2.stands at (only one.1 one.2.passes) in
    let within : position_or_len p rows < length rows =
    subst (λ n. n < length rows) (sym one.2.place) (slice_get_within rows one.0 one.1 one.2.stands) in
    ap (λ b. cond b (Some (position_or_len p rows)) None)
    (lt-ltb (position_or_len p rows) (length rows) within) ∙ ap Some (one.2.place ∙ same)
