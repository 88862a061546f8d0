-- Look-ups among the first of some rows.
use Rattle.std.proofs.Common.{◌≡◌, ℕ, zero, suc, ◌+◌, Bool, true, false, not, cond, List, [], ◌∷◌, length}
use Rattle.std.proofs.Common.{take, min, position, Option, Some, None, inl, inr, refl, arith, nat_lt, if◌then◌else◌}
use Rattle.std.proofs.Common.{option_and_then}
use Rattle.std.specs.List.{position_or_len}
use Rattle.std.proofs.lemmas.Bool.{cases_lt, lt-ltb, le-ltb}
use Rattle.std.proofs.lemmas.List.{length-take}
use Rattle.afdx_config.specs.Rows.{SystemRow}
use Rattle.afdx_config.specs.Reading.{system_named}

-- a place, where it is one of the first `n`
abbrev pub below : ℕ → ℕ → Option ℕ
below n i = if nat_lt i n then Some i else None

module _ {R : Type 0} (p : R → Bool) where
  least-taken : (n : ℕ) (rows : List R) → position_or_len p (take n rows) ≡ min n (position_or_len p rows)
  least-taken zero rows = omega arith
  least-taken (suc n) [] = omega arith
  least-taken (suc n) (r ∷ rows) = by (p r) (least-taken n rows)
    where
      by : (b : Bool) → position_or_len p (take n rows) ≡ min n (position_or_len p rows)
          → cond (not b) (1 + position_or_len p (take n rows)) 0
          ≡ min (suc n) (cond (not b) (1 + position_or_len p rows) 0)
      by true e = omega arith
      by false e = omega (arith, e)

  chosen : (n first count : ℕ) → cond (nat_lt (min n first) (min n count)) (Some (min n first)) None
      ≡ option_and_then (below n) (cond (nat_lt first count) (Some first) None)
  chosen n first count = elim (cases_lt first count) [
    | inr past ↦ rw (le-ltb first count past, le-ltb (min n first) (min n count) (omega (arith, past))) refl
    | inl within ↦ elim (cases_lt first n) [
      | inl below_n ↦
          let e : min n first ≡ first = omega (arith, below_n) in
          rw (
            lt-ltb first count within,
            lt-ltb first n below_n,
            e,
            lt-ltb first (min n count) (omega (arith, within, below_n)),
          ) refl
      | inr past ↦
          rw (lt-ltb first count within, le-ltb first n past, le-ltb (min n first) (min n count) (omega (arith, past)))
          refl
    ]
  ]

  pub position-take : (n : ℕ) (rows : List R) → position p (take n rows) ≡ option_and_then (below n) (position p rows)
  position-take n rows =
      rw (least-taken n rows, length-take n rows) (chosen n (position_or_len p rows) (length rows))

pub named_take : (n : ℕ) (rows : List SystemRow) (name : List ℕ)
    → system_named (take n rows) name ≡ option_and_then (below n) (system_named rows name)
unfolding system_named
named_take n rows name = position-take _ n rows
