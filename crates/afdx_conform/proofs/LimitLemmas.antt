-- Which frame may be of which arrival, by what the code keeps.
use Rattle.std.proofs.Common.{◌≡◌, ℕ, zero, suc, ◌<◌, ◌+◌, ◌*◌, Bool, true, false, ◌&&◌, List, [], ◌∷◌, map, drop, get_or, subst, length, refl, sym, ap, ◌∙◌, arith}
use Rattle.std.specs.Prelude.{nat_le, nat_lt}
use Rattle.std.specs.Int.{div_ceil}
use Rattle.std.specs.Str.{bytes_eq}
use Rattle.afdx_police.specs.Arrival.{Arrival}
use Rattle.afdx_conform.specs.Leeway.{reach}
use Rattle.afdx_conform.specs.Levels.{parts}
use Rattle.afdx_conform.specs.Limits.{AreLimits, gone_of}
use Rattle.afdx_conform.specs.HeldStates.{IsNext}
use Rattle.afdx_conform.specs.declared.limits.LeftFrame.{LeftFrame}
use Rattle.afdx_conform.specs.declared.states.NextFrame.TheVariants.{Fits, Other}
use Rattle.afdx_conform.specs.Streams.{Gone, Terms, fits, is_open, latency, wire_time}
use Rattle.afdx_conform.specs.declared.limits.Limits.{Limits}

le-same : (a b c d : ℕ) → a ≡ b → c ≡ d → nat_le a c ≡ nat_le b d
le-same a b c d e k = ap (λ (n : ℕ). nat_le n c) e ∙ ap (λ (n : ℕ). nat_le b n) k

lt-same : (a b c d : ℕ) → a ≡ b → c ≡ d → nat_lt a c ≡ nat_lt b d
lt-same a b c d e k = ap (λ (n : ℕ). nat_lt n c) e ∙ ap (λ (n : ℕ). nat_lt b n) k

-- how long so many bytes last, by their number
pub on_wire : (l : Limits) (wire n m : ℕ) → n ≡ m → wire ≡ div_ceil (parts * ((n + 8) * l.byte_ns)) (parts + l.drift)
    → wire ≡ div_ceil (parts * ((m + 8) * l.byte_ns)) (parts + l.drift)
on_wire l wire n m e w = w ∙ ap (λ (k : ℕ). div_ceil (parts * ((k + 8) * l.byte_ns)) (parts + l.drift)) e

module _ (z : Terms) (x : Arrival) (y : Gone) (l : Limits) (time wire : ℕ) (bytes : List ℕ) (a : AreLimits z l)
    (at : x.time ≡ time) (of : x.bytes ≡ bytes)
    (w : wire ≡ div_ceil (parts * ((length bytes + 8) * l.byte_ns)) (parts + l.drift)) where
  wire-is : wire_time z x.bytes ≡ wire
  wire-is = ap (λ (b : List ℕ). div_ceil (parts * ((length b + 8) * z.byte_ns)) (parts + z.by.drift)) of
      ∙ ap (λ (n : ℕ). div_ceil (parts * ((length bytes + 8) * n)) (parts + z.by.drift)) (sym a.byte_ns)
      ∙ ap (λ (n : ℕ). div_ceil (parts * ((length bytes + 8) * l.byte_ns)) (parts + n)) (sym a.drift)
      ∙ sym w

  pub fits-is : fits z x y ≡ (bytes_eq bytes y.bytes && nat_le (time + wire) (y.time + l.reach)
      && nat_le y.time (time + l.latency + l.reach))
  unfolding fits
  fits-is =
      let s = a.reach in
      let t = a.latency in
      let u = wire-is in
      ap (λ (b : List ℕ). bytes_eq b y.bytes && nat_le (x.time + wire_time z x.bytes) (y.time + reach z.by)
      && nat_le y.time (x.time + latency z + reach z.by)) of
      ∙ ap (λ (b : Bool). bytes_eq bytes y.bytes && b && nat_le y.time (x.time + latency z + reach z.by))
      (le-same (x.time + wire_time z x.bytes) (time + wire) (y.time + reach z.by) (y.time + l.reach)
      (ap (λ (n : ℕ). n + wire_time z x.bytes) at ∙ ap (λ (n : ℕ). time + n) u) (ap (λ (n : ℕ). y.time + n) (sym s)))
      ∙ ap (λ (b : Bool). bytes_eq bytes y.bytes && nat_le (time + wire) (y.time + l.reach) && b)
      (ap (λ (n : ℕ). nat_le y.time n)
      (ap (λ (n : ℕ). n + latency z + reach z.by) at
      ∙ ap (λ (n : ℕ). time + n + reach z.by) (sym t)
      ∙ ap (λ (n : ℕ). time + l.latency + n) (sym s)))

pub fits-other : (b c d : Bool) → b ≡ false → (b && c && d) ≡ false
fits-other true c d e = absurd (cc)
fits-other false c d e = refl

pub fits-early : (b c d : Bool) → c ≡ false → (b && c && d) ≡ false
fits-early true true d e = absurd (cc)
fits-early false true d e = absurd (cc)
fits-early true false d e = refl
fits-early false false d e = refl

pub fits-last : (b c d : Bool) → b ≡ true → c ≡ true → (b && c && d) ≡ d
fits-last true true d e k = refl
fits-last true false d e k = absurd (cc)
fits-last false c d e k = absurd (cc)

pub open-is : (z : Terms) (x : Arrival) (l : Limits) (time end : ℕ) → AreLimits z l → x.time ≡ time → z.until ≡ end
    → nat_lt end (time + l.latency + l.reach + l.reach) ≡ is_open z x
unfolding is_open
open-is z x l time end a at until =
    let s = a.reach in
    let t = a.latency in
    sym (lt-same z.until end (x.time + latency z + reach z.by + reach z.by)
    (time + l.latency + l.reach + l.reach) until
    (ap (λ (n : ℕ). n + latency z + reach z.by + reach z.by) at
    ∙ ap (λ (n : ℕ). time + n + reach z.by + reach z.by) (sym t)
    ∙ ap (λ (n : ℕ). time + l.latency + n + n) (sym s)))

drop-map : (g : LeftFrame → Gone) (fs : List LeftFrame) (p : ℕ) (d : LeftFrame) → p < length fs
    → drop p (map g fs) ≡ g (get_or fs p d) ∷ drop (suc p) (map g fs)
drop-map g [] p d h = absurd (omega (arith, h))
drop-map g (f ∷ fs) zero d h = refl
drop-map g (f ∷ fs) (suc p) d h = drop-map g fs p d (omega (arith, h))

module _ (z : Terms) (x : Arrival) (fs : List LeftFrame) (p : ℕ) (f : LeftFrame) (h : p < length fs)
    (is : f ≡ get_or fs p f)
  where
    at-next : drop p (map gone_of fs) ≡ gone_of f ∷ drop (suc p) (map gone_of fs)
    at-next = drop-map gone_of fs p f h ∙ ap (λ (g : LeftFrame). gone_of g ∷ drop (suc p) (map gone_of fs)) (sym is)

    pub fits-next : true ≡ fits z x (gone_of f) → IsNext z x (drop p (map gone_of fs)) Fits
    fits-next e = subst (λ (l : List Gone). IsNext z x l Fits) (sym at-next) (sym e)

    pub other-next : false ≡ fits z x (gone_of f) → IsNext z x (drop p (map gone_of fs)) Other
    other-next e = subst (λ (l : List Gone). IsNext z x l Other) (sym at-next) (sym e)
