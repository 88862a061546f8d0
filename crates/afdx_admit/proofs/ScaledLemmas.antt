-- What is compared and divided is the same if both sides are taken times the time of a byte.
use Rattle.std.proofs.Common.{◌≡◌, ℕ, zero, suc, ◌+◌, ◌-◌, ◌*◌, ◌/◌, ◌%◌, ◌≤◌, min}
use Rattle.std.proofs.Common.{nat_le, nat_lt, List, [], ◌∷◌, map, inl, inr}
use Rattle.std.proofs.Common.{refl, sym, ap, ◌∙◌, arith}
use Rattle.std.specs.Int.{div_ceil}
use Rattle.std.proofs.Math.Nat.{mul-div-mul_right, mod-eq-sub-div-mul, mul_assoc, mul-sub, mul_comm}
use Rattle.std.proofs.Math.Nat.{mul-le-mul_right, mul-lt-mul_of_pos_right}
use Rattle.std.proofs.lemmas.Bool.{cases_lt, lt-ltb, le-ltb}
use Rattle.afdx_frame.specs.Flows.{Flow}
use Rattle.afdx_admit.specs.declared.fault.AdmitFault.{AdmitFault}
use Rattle.afdx_admit.specs.Lines.{line}
use Rattle.afdx_admit.specs.Late.{class_line}
use Rattle.afdx_frame.proofs.FirstFalseLemmas.{le-true, le-false}

module _ (b : ℕ) (some : 1 ≤ b) where
  pub scaled-le : (m n : ℕ) → nat_le (m * b) (n * b) ≡ nat_le m n
  scaled-le m n = elim (cases_lt n m) [
    | inl less ↦ le-false (m * b) (n * b) (mul-lt-mul_of_pos_right less some) ∙ sym (le-false m n less)
    | inr most ↦ le-true (m * b) (n * b) (mul-le-mul_right b most) ∙ sym (le-true m n most)
  ]

  pub scaled-lt : (m n : ℕ) → nat_lt (m * b) (n * b) ≡ nat_lt m n
  scaled-lt m n = elim (cases_lt m n) [
    | inl less ↦ lt-ltb (m * b) (n * b) (mul-lt-mul_of_pos_right less some) ∙ sym (lt-ltb m n less)
    | inr most ↦ le-ltb (m * b) (n * b) (mul-le-mul_right b most) ∙ sym (le-ltb m n most)
  ]

  pub scaled-sub : (m n : ℕ) → (m - n) * b ≡ m * b - n * b
  scaled-sub m n = mul_comm (m - n) b ∙ mul-sub b m n
      ∙ ap (λ k. k - b * n) (mul_comm b m) ∙ ap (λ k. m * b - k) (mul_comm b n)

  scaled-mod : (m n : ℕ) → (m * b) % (n * b) ≡ (m % n) * b
  scaled-mod m n =
      mod-eq-sub-div-mul (m * b) (n * b)
      ∙ ap (λ q. m * b - q * (n * b)) (mul-div-mul_right m n some)
      ∙ ap (λ k. m * b - k) (sym (mul_assoc (m / n) n b))
      ∙ sym (scaled-sub m (m / n * n))
      ∙ ap (λ k. k * b) (sym (mod-eq-sub-div-mul m n))

  at_least-one : (n : ℕ) → min 1 (n * b) ≡ min 1 n
  at_least-one zero = omega arith
  at_least-one (suc n) = omega (arith, some)

  pub scaled-ceil : (m n : ℕ) → div_ceil (m * b) (n * b) ≡ div_ceil m n
  scaled-ceil m n =
      ap (λ q. q + min 1 ((m * b) % (n * b))) (mul-div-mul_right m n some)
      ∙ ap (λ r. m / n + min 1 r) (scaled-mod m n)
      ∙ ap (λ k. m / n + k) (at_least-one (m % n))

  module _ (wait left : ℕ) where
    soon : (latency : ℕ) → nat_le (wait * b) (latency * (left * b)) ≡ nat_le wait (latency * left)
    soon latency = ap (λ n. nat_le (wait * b) n) (sym (mul_assoc latency left b)) ∙ scaled-le wait (latency * left)

    pub scaled-lines : (fault : ℕ → AdmitFault) (fs : List Flow)
        → map (class_line (wait * b) (left * b) fault) fs ≡ map (class_line wait left fault) fs
    scaled-lines fault [] = refl
    scaled-lines fault (f ∷ fs) =
        ap (λ c. line c (fault f.vl) ∷ map (class_line (wait * b) (left * b) fault) fs) (soon f.latency)
        ∙ ap (λ rest. class_line wait left fault f ∷ rest) (scaled-lines fault fs)
