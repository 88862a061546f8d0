-- Arrivals that go by time: which of them a frame may be of.
use Rattle.std.proofs.Common.{◌≡◌, ℕ, zero, suc, ◌+◌, ◌-◌, ◌*◌, ◌<◌, ◌≤◌, min, Bool, true, false, ◌&&◌, List, ◌⊎◌, inl, inr, get_or, length, refl, sym, ap, ◌∙◌, arith}
use Rattle.std.proofs.lemmas.Bool.{lt-leb}
use Rattle.std.proofs.lemmas.List.{get_or_default}
use Rattle.std.proofs.lemmas.Slice.Eq.{bytes_eq-Decides}
use Rattle.std.specs.Int.{div_ceil}
use Rattle.std.specs.Prelude.{nat_le}
use Rattle.std.specs.Str.{bytes_eq}
use Rattle.afdx_conform.specs.KnownBytes.{has_bytes, may_fit}
use Rattle.afdx_conform.specs.Levels.{parts}
use Rattle.afdx_conform.specs.LimitRanges.{most_bytes}
use Rattle.afdx_conform.specs.declared.arrived.Arrived.{Arrived}
use Rattle.afdx_conform.specs.declared.limits.LeftFrame.{LeftFrame}
use Rattle.afdx_conform.specs.declared.limits.Limits.{Limits}

-- ---- neighbours that are in order

below-next : (k n : ℕ) → k < n + 1 → (k < n) ⊎ (k ≡ n)
below-next zero zero lt = inr refl
below-next zero (suc n) lt = inl (omega arith)
below-next (suc k) zero lt = absurd (omega (arith, lt))
below-next (suc k) (suc n) lt = next (below-next k n (omega (arith, lt)))
  where
    next : (k < n) ⊎ (k ≡ n) → (suc k < suc n) ⊎ (suc k ≡ suc n)
    next (inl less) = inl (omega (arith, less))
    next (inr same) = inr (ap (λ (m : ℕ). suc m) same)

abbrev pub GoUpTo : List Arrived → ℕ → Type 0
GoUpTo xs count = (k : ℕ) (d : Arrived) → k + 1 < count → (get_or xs k d).time ≤ (get_or xs (k + 1) d).time

pub up-more : (xs : List Arrived) (count : ℕ) (a b : Arrived) → 1 ≤ count → count < length xs → a ≡ get_or xs count a
    → b ≡ get_or xs (count - 1) b → b.time ≤ a.time → GoUpTo xs count → GoUpTo xs (count + 1)
up-more xs count a b one lt here before le up k d less = by (below-next (k + 1) count less)
  where
    by : (k + 1 < count) ⊎ (k + 1 ≡ count) → (get_or xs k d).time ≤ (get_or xs (k + 1) d).time
    by (inl more) = up k d more
    by (inr same) =
        let at : k ≡ count - 1 = omega (arith, same) in
        let first : get_or xs k d ≡ b =
        ap (λ (n : ℕ). get_or xs n d) at ∙ get_or_default xs (count - 1) d b (omega (arith, lt)) ∙ sym before in
        let second : get_or xs (k + 1) d ≡ a =
        ap (λ (n : ℕ). get_or xs n d) same ∙ get_or_default xs count d a lt ∙ sym here in
        let one' = ap (λ (v : Arrived). v.time) first in
        let two' = ap (λ (v : Arrived). v.time) second in
        omega (arith, le, one', two')

-- ---- which arrivals a frame isn't of

both-false : (a b : Bool) → (a && b && false) ≡ false
both-false true true = refl
both-false true false = refl
both-false false b = refl

pub fits-no-early : (l : Limits) (f : LeftFrame) (a : Arrived) → a.time + l.latency + l.reach < f.time
    → may_fit l f a ≡ false
unfolding may_fit
fits-no-early l f a lt =
    let late : nat_le f.time (a.time + l.latency + l.reach) ≡ false =
    lt-leb f.time (a.time + l.latency + l.reach) lt in
    ap (λ (b : Bool). bytes_eq a.bytes f.bytes
    && nat_le (a.time + div_ceil (parts * ((length a.bytes + 8) * l.byte_ns)) (parts + l.drift)) (f.time + l.reach)
    && b) late
    ∙ both-false (bytes_eq a.bytes f.bytes)
    (nat_le (a.time + div_ceil (parts * ((length a.bytes + 8) * l.byte_ns)) (parts + l.drift)) (f.time + l.reach))

pub fits-no-late : (l : Limits) (f : LeftFrame) (a : Arrived) (wire : ℕ)
    → wire ≡ div_ceil (parts * ((min (length f.bytes) most_bytes + 8) * l.byte_ns)) (parts + l.drift)
    → length a.bytes ≤ most_bytes → f.time + l.reach < a.time + wire → may_fit l f a ≡ false
unfolding may_fit
fits-no-late l f a wire w short lt = by (bytes_eq a.bytes f.bytes) refl
  where
    by : (b : Bool) → bytes_eq a.bytes f.bytes ≡ b
        → (b && nat_le (a.time + div_ceil (parts * ((length a.bytes + 8) * l.byte_ns)) (parts + l.drift))
        (f.time + l.reach)
        && nat_le f.time (a.time + l.latency + l.reach)) ≡ false
    by false e = refl
    by true e =
        let same = ap (λ (x : List ℕ). length x) ((bytes_eq-Decides a.bytes f.bytes).0 e) in
        let long : min (length f.bytes) most_bytes ≡ length a.bytes = omega (arith, same, short) in
        let is : wire ≡ div_ceil (parts * ((length a.bytes + 8) * l.byte_ns)) (parts + l.drift) =
        w ∙ ap (λ (n : ℕ). div_ceil (parts * ((n + 8) * l.byte_ns)) (parts + l.drift)) long in
        let early : nat_le (a.time + div_ceil (parts * ((length a.bytes + 8) * l.byte_ns)) (parts + l.drift))
        (f.time + l.reach) ≡ false =
        ap (λ (n : ℕ). nat_le (a.time + n) (f.time + l.reach)) (sym is)
        ∙ lt-leb (a.time + wire) (f.time + l.reach) lt in
        ap (λ (b : Bool). b && nat_le f.time (a.time + l.latency + l.reach)) early

-- of other bytes none
pub fits-no-other : (l : Limits) (f : LeftFrame) (a : Arrived) → has_bytes f.bytes a ≡ false → may_fit l f a ≡ false
unfolding may_fit
fits-no-other l f a e =
    ap (λ (b : Bool). b && nat_le (a.time + div_ceil (parts * ((length a.bytes + 8) * l.byte_ns)) (parts + l.drift))
    (f.time + l.reach)
    && nat_le f.time (a.time + l.latency + l.reach)) e
