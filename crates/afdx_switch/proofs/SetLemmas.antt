-- The bits of a set of ports.
use Rattle.std.proofs.Common.{◌≡◌, ◌==◌, ℕ, zero, suc, ◌<◌, ◌≤◌, ◌*◌, ◌^◌, ◌%◌, Bool, true, false, bit_or}
use Rattle.std.proofs.Common.{IsTrue, ◌↔◌, nat_le, refl, sym, ap, ◌∙◌, arith, inl, inr, eq-eqb}
use Rattle.std.specs.Prelude.{◌⊎◌}
use Rattle.std.specs.Int.{bit_at, w32}
use Rattle.std.proofs.lemmas.Bool.{cases_eq, eqb-true, lt-leb}
use Rattle.std.proofs.lemmas.Nat.Bits.{bit_at-zero, bit_at-lt, bit_at_set_same, bit_at_set_other, same_from_bits}

-- the bit is set
abbrev pub is_set : ℕ → ℕ → Bool
is_set bits p = bit_at bits p == 1

-- the bits that are set are those of ports
abbrev pub OfPorts : ℕ → Type 0
OfPorts bits = (p : ℕ) → is_set bits p ≡ true → (1 ≤ p) × (p ≤ 24)

pub is_set-zero : (p : ℕ) → is_set 0 p ≡ false
is_set-zero p = ap (λ n. n == 1) (bit_at-zero p)

-- what is set of ports alone, and of no port, is never set
pub nowhere : (bits : ℕ) → OfPorts bits → ((p : ℕ) → 1 ≤ p → p ≤ 24 → is_set bits p ≡ false) →
    (p : ℕ) → is_set bits p ≡ false
nowhere bits alone none p = by (is_set bits p) (alone p) (none p)
  where
    by : (b : Bool) → (b ≡ true → (1 ≤ p) × (p ≤ 24)) → (1 ≤ p → p ≤ 24 → b ≡ false) → b ≡ false
    by true alone none = let is = alone refl in none is.0 is.1
    by false alone none = refl

pub over-not_set : (bits p : ℕ) → OfPorts bits → 24 < p → nat_le p 24 ≡ is_set bits p
over-not_set bits p alone over = lt-leb p 24 over ∙ sym (by (is_set bits p) (alone p))
  where
    by : (b : Bool) → (b ≡ true → (1 ≤ p) × (p ≤ 24)) → b ≡ false
    by true alone = absurd (let is = alone refl in omega (arith, over, is.1))
    by false alone = refl

-- a number none of whose bits is set is 0
pub zero-by-bits : (bits : ℕ) → ((p : ℕ) → is_set bits p ≡ false) → bits ≡ 0
zero-by-bits bits none = same_from_bits bits 0 (λ p. unset p ∙ sym (bit_at-zero p))
  where
    unset : (p : ℕ) → bit_at bits p ≡ 0
    unset p = by (bit_at bits p) (bit_at-lt bits p) (none p)
      where
        by : (n : ℕ) → n < 2 → (n == 1) ≡ false → n ≡ 0
        by zero small is = refl
        by (suc zero) small is = absurd (cc is)
        by (suc (suc n)) small is = absurd (omega (arith, small))

-- the number is 0 exactly if none is
pub zero-none_set : (bits : ℕ) → IsTrue (bits == 0) ↔ ((p : ℕ) → is_set bits p ≡ false)
zero-none_set bits = (
  λ zero p. ap (λ n. is_set n p) (eqb-true bits 0 zero) ∙ is_set-zero p,
  λ none. eq-eqb bits 0 (zero-by-bits bits none),
)

module _ (bits port : ℕ) (low : 1 ≤ port) (high : port ≤ 24) where
  abbrev pub with_port : ℕ
  with_port = bit_or bits (1 * 2 ^ port % 4294967296)

  pub with_port-here : is_set with_port port ≡ true
  with_port-here = ap (λ n. n == 1) (bit_at_set_same w32 bits port (omega (arith, high)))

  pub with_port-others : (p : ℕ) → (p ≡ port) ⊎ (is_set with_port p ≡ is_set bits p)
  with_port-others p = elim (cases_eq p port) [
    | inl same ↦ inl same
    | inr other ↦ inr (ap (λ n. n == 1) (bit_at_set_other w32 bits port (omega (arith, high)) p other))
  ]

  pub with_port-of_ports : OfPorts bits → OfPorts with_port
  with_port-of_ports alone p is = elim (with_port-others p) [
    | inl same ↦ (omega (arith, same, low), omega (arith, same, high))
    | inr as_before ↦ alone p (sym as_before ∙ is)
  ]
