-- Where a low flow stands at an output port, the high ones leave some of its line.
use Rattle.std.proofs.Common.{length, ◌≡◌, ℕ, ◌+◌, ◌-◌, ◌*◌, ◌<◌, ◌≤◌, ◌⊎◌, inl, inr, Bool, true}
use Rattle.std.proofs.Common.{false, List, [], ◌∷◌, map, cond}
use Rattle.std.proofs.Common.{refl, ap, arith}
use Rattle.std.specs.List.{AllByRecursion, Contains}
use Rattle.std.proofs.Math.Nat.{mul-le-mul_left}
use Rattle.std.proofs.lemmas.List.Sums.{sum_by-cons}
use Rattle.afdx_frame.specs.declared.link.Priority.{Priority}
use Rattle.afdx_frame.specs.declared.link.Priority.TheVariants.{High, Low}
use Rattle.afdx_frame.specs.Regulation.{byte_units, fill_rate}
use Rattle.afdx_config.specs.Rows.{LinkRow, is_to}
use Rattle.afdx_config.specs.Lawful.{IsLinkUpTo}
use Rattle.afdx_frame.specs.Flows.{Flow, is_class, of_class, load}
use Rattle.afdx_config.specs.Flows.{flow_of_link}
use Rattle.afdx_config.specs.Admission.{flows_to, links_to}
use Rattle.afdx_admit.proofs.SmallLemmas.{rate_some}

one_at_least : (a b : ℕ) → 1 ≤ a → 1 ≤ b → 1 ≤ a * b
one_at_least a b h g =
    let first : a * 1 ≤ a * b = mul-le-mul_left a g in
    omega (arith, first, h)

record Split (byte_ns : ℕ) (fs highs lows : List Flow) : Type 0 where
  at_most : load byte_ns highs ≤ load byte_ns fs
  less : (lows ≡ []) ⊎ (load byte_ns highs + 1 ≤ load byte_ns fs)

module _ (byte_ns : ℕ) (some : 1 ≤ byte_ns) where
  abbrev weight : Flow → ℕ
  weight f = fill_rate f.link * byte_ns

  split-cons : (f : Flow) (fs highs lows : List Flow) → 1 ≤ fill_rate f.link
      → Split byte_ns fs highs lows → (p : Priority) →
      Split byte_ns (f ∷ fs) (cond (is_class High p) (f ∷ highs) highs) (cond (is_class Low p) (f ∷ lows) lows)
  split-cons f fs highs lows rate s High =
      let all = sum_by-cons weight f fs in
      let high = sum_by-cons weight f highs in
      record {
        at_most = omega (arith, all, high, s.at_most);
        less = elim s.less [ inl none ↦ inl none | inr fewer ↦ inr (omega (arith, all, high, fewer)) ];
      }
  split-cons f fs highs lows rate s Low =
      let all = sum_by-cons weight f fs in
      let one = one_at_least (fill_rate f.link) byte_ns rate some in
      record {
        at_most = omega (arith, all, s.at_most);
        less = inr (omega (arith, all, one, s.at_most));
      }

  split : (fs : List Flow) → AllByRecursion (λ f. 1 ≤ fill_rate f.link) fs
      → Split byte_ns fs (of_class High fs) (of_class Low fs)
  split [] h = record { at_most = omega arith; less = inl refl }
  split (f ∷ fs) h = split-cons f fs (of_class High fs) (of_class Low fs) h.0 (split fs h.1) f.priority

  pub left_some_at : (fs : List Flow) (f : Flow) → AllByRecursion (λ g. 1 ≤ fill_rate g.link) fs
      → load byte_ns fs ≤ byte_units → Contains (of_class Low fs) f →
      0 < byte_units - load byte_ns (of_class High fs)
  left_some_at fs f rates fits stands =
      let s = split fs rates in
      elim s.less [
        | inl none ↦ let within : stands.0 < length (of_class Low fs) = stands.1 in
            absurd (omega (arith, within, ap length none))
        | inr fewer ↦ omega (arith, fewer, fits)
      ]

-- each flow of lawful links sends something
rates-cons : {greatest : ℕ → ℕ} (systems : ℕ) (l : LinkRow) (ls : List LinkRow) → IsLinkUpTo greatest systems l →
    AllByRecursion (λ f. 1 ≤ fill_rate f.link) (map flow_of_link ls) → (b : Bool) →
    AllByRecursion (λ f. 1 ≤ fill_rate f.link) (map flow_of_link (cond b (l ∷ ls) ls))
rates-cons systems l ls lawful rest true = (rate_some systems l lawful, rest)
rates-cons systems l ls lawful rest false = rest

pub rates_some : (greatest : ℕ → ℕ) (systems system : ℕ) (links : List LinkRow)
    → AllByRecursion (IsLinkUpTo greatest systems) links →
    AllByRecursion (λ f. 1 ≤ fill_rate f.link) (flows_to links system)
rates_some greatest systems system [] h = tt
rates_some greatest systems system (l ∷ ls) h =
    rates-cons systems l (links_to ls system) h.0 (rates_some greatest systems system ls h.1) (is_to system l)
