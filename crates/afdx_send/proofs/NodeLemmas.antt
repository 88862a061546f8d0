-- A release, or none, as two numbers.
use Rattle.std.proofs.Common.{◌≡◌, ℕ, ◌+◌, ◌*◌, ◌<◌, ◌≤◌, ◌==◌, Bool, true, false, ◌&&◌, Option, Some, None, inl, inr, refl, ap, ap₂, arith}
use Rattle.std.specs.Prelude.{if◌then◌else◌}
use Rattle.std.proofs.lemmas.Bool.{cases_eq, eq-eqb, eqb-true}
use Rattle.afdx_send.specs.Agenda.{IsAhead, IsSooner, next_with}
use Rattle.afdx_send.specs.Nodes.{IsNode, greatest, rank_of, release_in}
use Rattle.afdx_send.specs.declared.agenda.NextRelease.{NextRelease}
use Rattle.afdx_send.proofs.AgendaLemmas.{ahead_same}

-- what is known of two numbers of 64 bits
pub record IsRanked (time place : ℕ) (x : Option NextRelease) : Type 0 where
  pub rank : time * 0x10000000000000000 + place ≡ rank_of x
  pub small : IsNode x

module _ (time place : ℕ) (t : time < 0x10000000000000000) (p : place < 0x10000000000000000) where
  some_ranked : (time ≡ greatest → place ≡ greatest → ⊥) → IsRanked time place (Some (next_with place time))
  some_ranked other = record { rank = refl; small = (p, below) }
    where
      below : time * 0x10000000000000000 + place < 0xffffffffffffffffffffffffffffffff
      below = elim (cases_eq time greatest) [
        | inl last ↦ elim (cases_eq place greatest) [
          | inl least ↦ absurd (other last least)
          | inr less ↦ omega (arith, t, p, less)
        ]
        | inr less ↦ omega (arith, t, p, less)
      ]

  pub ranked : IsRanked time place (release_in time place)
  unfolding release_in
  ranked = by (time == greatest) refl (place == greatest) refl
    where
      by : (a : Bool) → (time == greatest) ≡ a → (b : Bool) → (place == greatest) ≡ b →
          IsRanked time place (if a && b then None else Some (next_with place time))
      by true last true least =
          record {
            rank = (let e = eqb-true time greatest last in
                let f = eqb-true place greatest least in omega (arith, e, f));
            small = tt;
          }
      by true last false more = some_ranked (λ _ f. let g = eq-eqb place greatest f in absurd (cc (g, more)))
      by false more b is = some_ranked (λ e _. let g = eq-eqb time greatest e in absurd (cc (g, more)))

-- ---- the release that two numbers say

module _ (time place : ℕ) where
  pub in_none : (time == greatest && place == greatest) ≡ true → release_in time place ≡ None
  unfolding release_in
  in_none is = ap (λ (b : Bool). if b then None else Some (next_with place time)) is

  pub in_some : (time == greatest && place == greatest) ≡ false → release_in time place ≡ Some (next_with place time)
  unfolding release_in
  in_some is = ap (λ (b : Bool). if b then None else Some (next_with place time)) is

  pub in_leaf : place < 4096 → release_in time place ≡ Some (next_with place time)
  in_leaf small = in_some (by (time == greatest) (place == greatest) refl)
    where
      by : (a b : Bool) → (place == greatest) ≡ b → (a && b) ≡ false
      by true true is = absurd (let e = eqb-true place greatest is in omega (arith, e, small))
      by true false is = refl
      by false b is = refl

pub in_last : release_in greatest greatest ≡ None
in_last = in_none greatest greatest refl

-- ---- by their ranks

-- what goes by a smaller number goes before the other
pub ahead_by_rank : (x y : Option NextRelease) → IsNode x → IsNode y → rank_of x ≤ rank_of y → IsAhead x y
ahead_by_rank x None nx ny less = tt
ahead_by_rank None (Some y) nx ny less = absurd (omega (arith, less, ny.1))
ahead_by_rank (Some x) (Some y) nx ny less = (
  omega (arith, less, nx.0, ny.0),
  λ same. omega (arith, less, same, nx.0, ny.0),
)

pub same_by_rank : (x y : Option NextRelease) → IsNode x → IsNode y → rank_of x ≡ rank_of y → x ≡ y
same_by_rank None None nx ny same = refl
same_by_rank None (Some y) nx ny same = absurd (omega (arith, same, ny.1))
same_by_rank (Some x) None nx ny same = absurd (omega (arith, same, nx.1))
same_by_rank (Some x) (Some y) nx ny same =
    let t : x.time ≡ y.time = omega (arith, same, nx.0, ny.0) in
    let p : x.place ≡ y.place = omega (arith, same, t, nx.0, ny.0) in
    ap₂ (λ (n m : ℕ). Some (next_with m n)) t p

-- the one that goes by the smaller number is the sooner
pub sooner_by_rank : (x y : Option NextRelease) → IsNode x → IsNode y → rank_of x ≤ rank_of y → IsSooner x x y
sooner_by_rank x y nx ny less =
    record { picks = inl refl; left = ahead_same x; right = ahead_by_rank x y nx ny less }

pub sooner_other : (x y : Option NextRelease) → IsNode x → IsNode y → rank_of y ≤ rank_of x → IsSooner y x y
sooner_other x y nx ny less =
    record { picks = inr refl; left = ahead_by_rank y x ny nx less; right = ahead_same y }
