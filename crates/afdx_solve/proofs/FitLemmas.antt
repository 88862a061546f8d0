-- An output port whose links are admitted with some values is admitted with the least that are enough.
use Rattle.std.proofs.Common.{◌≡◌, inl, inr, ◌⊎◌, ℕ, zero, suc, ◌*◌, ◌-◌, ◌<◌, ◌≤◌, min, max, Bool, true, false, cond, ◌||◌}
use Rattle.std.proofs.Common.{List, [], ◌∷◌, length, map, Some, slice_get, nat_eq}
use Rattle.std.proofs.Common.{refl, sym, ap, ◌∙◌, subst, arith}
use Rattle.std.specs.Int.{div_ceil}
use Rattle.std.specs.List.{AllByRecursion, list_any}
use Rattle.std.proofs.lemmas.Bool.{cases_lt, eqb-true}
use Rattle.std.proofs.lemmas.Grind.{div_ceil_times}
use Rattle.std.proofs.lemmas.Option.{slice_get_within}
use Rattle.std.proofs.Math.Nat.{mul-le-mul_right}
use Rattle.afdx_frame.specs.declared.link.Priority.TheVariants.{High, Low}
use Rattle.afdx_frame.specs.Regulation.{byte_units}
use Rattle.afdx_frame.specs.Flows.{Flow, burst, load, high_load, high_wait, low_wait}
use Rattle.afdx_config.specs.Rows.{SystemRow, LinkRow, Rows, is_to}
use Rattle.afdx_config.specs.Flows.{flow_of_link}
use Rattle.afdx_config.specs.Admission.{byte_ns, flows_to, links_to}
use Rattle.afdx_admit.specs.Lines.{high_bound_of, buffer_need_of}
use Rattle.afdx_solve.specs.Solved.{chosen, delay_to, latency_over, need_to, greatest_need, in_us}
use Rattle.afdx_solve.specs.SolvedCascade.{latency_needed}
use Rattle.afdx_solve.specs.SolvedCascade.{MayBecome}
use Rattle.afdx_solve.proofs.LeastLemmas.{low_bound-some}
use Rattle.afdx_solve.proofs.DelayLemmas.{delay-stands, need-stands}
use Rattle.afdx_solve.proofs.RiseLemmas.{RowsRise, flows-rise, burst-rises, load-same, high-rises, low-rises, class-rises}

-- ---- a key

-- it is as in the others, or it has what it needs
pub kept-or : (keep raise : Bool) (file n value other : ℕ) → value ≡ chosen keep raise file n
    → MayBecome keep raise file other
    → (value ≡ other) ⊎ (n ≤ value)
kept-or true raise file n value other is may = inl (is ∙ sym may)
kept-or false true file n value other is may = inr (omega (arith, is))
kept-or false false file n value other is may = inr (omega (arith, is))

-- what is rounded up to no more than this is no more
pub of-div_ceil : (a b k : ℕ) → 0 < b → div_ceil a b ≤ k → a ≤ k * b
of-div_ceil a b k some h = omega (arith, (div_ceil_times a b some).0, mul-le-mul_right b h)

-- within a range that the others keep: as in them, or no less than what was cut to the range
pub cut-or : (greatest n value other : ℕ) → min greatest n ≤ value → value ≤ other → other ≤ greatest
    → (value ≡ other) ⊎ (n ≤ value)
cut-or greatest n value other h le within = elim (cases_lt n greatest) [
  | inl below ↦ inr (omega (arith, h, below))
  | inr past ↦ inl (omega (arith, h, past, le, within))
]

-- ---- what is at most the greatest of several

over-member : (f : ℕ → ℕ) (place : ℕ) (places : List ℕ) → list_any (λ p. nat_eq p place) places ≡ true
    → f place ≤ latency_over f places
unfolding latency_over
over-member f place [] h = absurd (cc h)
over-member f place (p ∷ ps) h = by (nat_eq p place) refl h (over-member f place ps)
  where
    by : (b : Bool) → nat_eq p place ≡ b → b || list_any (λ q. nat_eq q place) ps ≡ true
        → (list_any (λ q. nat_eq q place) ps ≡ true → f place ≤ latency_over f ps)
        → f place ≤ max (f p) (latency_over f ps)
    by true e g later = omega (arith, ap f (eqb-true p place e))
    by false e g later = omega (arith, later g)

need-member : (t : Rows) (place count : ℕ) → place < count → need_to t place ≤ greatest_need t count
unfolding greatest_need
need-member t place zero less = absurd (omega (arith, less))
need-member t place (suc count) less = elim (cases_lt place count) [
  | inl below ↦ omega (arith, need-member t place count below)
  | inr past ↦ let same : place ≡ count = omega (arith, less, past) in omega (arith, ap (need_to t) same)
]

-- ---- the flows of a port, each by its row

pub all-flows : (P : Flow → Type 0) (place : ℕ) (ls : List LinkRow)
    → ((i : ℕ) (l : LinkRow) → slice_get ls i ≡ Some l → is_to place l ≡ true → P (flow_of_link l))
    → AllByRecursion P (flows_to ls place)
all-flows P place [] h = tt
all-flows P place (x ∷ ls) h =
    by (is_to place x) refl (all-flows P place ls (λ i l at goes. h (suc i) l at goes))
  where
    by : (b : Bool) → is_to place x ≡ b → AllByRecursion P (flows_to ls place)
        → AllByRecursion P (map flow_of_link (cond b (x ∷ links_to ls place) (links_to ls place)))
    by true e rest = (h 0 x refl e, rest)
    by false e rest = rest

-- ---- a port

module _ (t u : Rows) (rise : RowsRise t u) (place : ℕ) (s : SystemRow) (at : slice_get t.systems place ≡ Some s) where
  abbrev ns : ℕ
  ns = byte_ns s

  abbrev ts : List Flow
  ts = flows_to t.links place

  abbrev us : List Flow
  us = flows_to u.links place

  pub load-fits : load ns us ≤ byte_units → load ns ts ≤ byte_units
  load-fits h = omega (arith, h, load-same ns ts us (flows-rise t.links u.links rise.links place))

  pub buffer-fits : (t.buffer ≡ u.buffer) ⊎ (greatest_need t (length t.systems) ≤ t.buffer)
      → burst us ≤ u.buffer * byte_units
      → burst ts ≤ t.buffer * byte_units
  unfolding buffer_need_of
  buffer-fits (inl same) h =
      omega (arith, h, same, burst-rises ts us (flows-rise t.links u.links rise.links place))
  buffer-fits (inr enough) h =
      let member = need-member t place (length t.systems) (slice_get_within t.systems place s at) in
      of-div_ceil (burst ts) byte_units t.buffer (omega arith)
      (omega (arith, member, enough, need-stands t place s at))

  -- a latency that has what is needed here is in time
  high-enough : (us : ℕ) → delay_to t High place ≤ us → high_wait ns ts ≤ 1000 * us * byte_units
  unfolding high_bound_of
  high-enough us h =
      let bound = of-div_ceil (div_ceil (high_wait ns ts) byte_units) 1000 us (omega arith)
      (subst (λ n. n ≤ us) (delay-stands t High place s at) h) in
      of-div_ceil (high_wait ns ts) byte_units (1000 * us) (omega arith) (omega (arith, bound))

  low-enough : (us : ℕ) → 0 < byte_units - high_load ns ts → delay_to t Low place ≤ us
      → low_wait ns ts ≤ 1000 * us * (byte_units - high_load ns ts)
  low-enough us left h =
      let is = delay-stands t Low place s at ∙ ap in_us (low_bound-some ns ts left) in
      let bound = of-div_ceil (div_ceil (low_wait ns ts) (byte_units - high_load ns ts)) 1000 us (omega arith)
      (subst (λ n. n ≤ us) is h) in
      of-div_ceil (low_wait ns ts) (byte_units - high_load ns ts) (1000 * us) left (omega (arith, bound))

  high-less : high_wait ns ts ≤ high_wait ns us
  high-less = high-rises ns ts us (flows-rise t.links u.links rise.links place)

  low-less : low_wait ns ts ≤ low_wait ns us
  low-less = low-rises ns ts us (flows-rise t.links u.links rise.links place)

  load_same : high_load ns ts ≡ high_load ns us
  load_same = load-same ns _ _ (class-rises High ts us (flows-rise t.links u.links rise.links place))

  pub high-fits : (l m : LinkRow) → (l.latency_us ≡ m.latency_us) ⊎ (delay_to t High place ≤ l.latency_us)
      → high_wait ns us ≤ 1000 * m.latency_us * byte_units → high_wait ns ts ≤ 1000 * l.latency_us * byte_units
  high-fits l m (inl same) h = omega (arith, h, same, high-less)
  high-fits l m (inr enough) h = high-enough l.latency_us enough

  pub low-fits : (l m : LinkRow) → (l.latency_us ≡ m.latency_us) ⊎ (delay_to t Low place ≤ l.latency_us)
      → 0 < byte_units - high_load ns us
      → low_wait ns us ≤ 1000 * m.latency_us * (byte_units - high_load ns us)
      → low_wait ns ts ≤ 1000 * l.latency_us * (byte_units - high_load ns ts)
  low-fits l m (inl same) left h =
      subst (λ n. low_wait ns ts ≤ 1000 * l.latency_us * (byte_units - n)) (sym load_same)
      (subst (λ n. low_wait ns ts ≤ 1000 * n * (byte_units - high_load ns us)) (sym same) (omega (arith, h, low-less)))
  low-fits l m (inr enough) left h =
      low-enough l.latency_us (subst (λ n. 0 < byte_units - n) (sym load_same) left) enough

  -- with what a row needs at all its ports, or with the latency of the other
  pub latency-or : (l m : LinkRow) → is_to place l ≡ true → (l.latency_us ≡ m.latency_us)
      ⊎ (latency_needed t l ≤ l.latency_us)
      → l.latency_us ≤ m.latency_us → m.latency_us ≤ 100000
      → (l.latency_us ≡ m.latency_us) ⊎ (delay_to t l.priority place ≤ l.latency_us)
  unfolding latency_needed
  latency-or l m goes (inl same) le within = inl same
  latency-or l m goes (inr enough) le within =
      let over = over-member (delay_to t l.priority) place l.to goes in
      elim (cut-or 100000 (latency_over (delay_to t l.priority) l.to) l.latency_us m.latency_us enough le within) [
        | inl same ↦ inl same
        | inr needed ↦ inr (omega (arith, over, needed))
      ]
