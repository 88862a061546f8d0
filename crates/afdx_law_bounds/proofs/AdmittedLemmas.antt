-- What admission promises, from the curves of the flows.
use Rattle.std.proofs.Common.{◌≡◌, ℕ, ◌+◌, ◌*◌, ◌-◌, ◌<◌, ◌≤◌, ◌/◌, false, List, [], ◌∷◌, ◌++◌}
use Rattle.std.proofs.Common.{Option, Some, None, inl, inr, refl, sym, ap, arith, ◌∙◌, suc}
use Rattle.std.proofs.Common.{zero}
use Rattle.std.specs.Prelude.{Contains, IfSome, IsTrue}
use Rattle.std.specs.List.{slice_get}
use Rattle.std.proofs.Math.Nat.{le_of_mul-le-mul_left}
use Rattle.std.proofs.lemmas.List.Elements.{All-contains}
use Rattle.afdx_frame.specs.declared.link.Priority.TheVariants.{High, Low}
use Rattle.afdx_frame.specs.Regulation.{byte_units, fill_rate, cap}
use Rattle.afdx_frame.specs.Flows.{Flow, of_class, burst, load, longest}
use Rattle.afdx_port.specs.Schedule.{Entry, Turn, is_past, AreTurns}
use Rattle.afdx_port.proofs.TurnLemmas.{priority_cases, nat_lt-false, ends_after}
use Rattle.afdx_police.specs.Laws.{EachAccountMoves}
use Rattle.afdx_police.specs.Rule.{is_bag}
use Rattle.afdx_police.proofs.AccountLemmas.{is_bag-divides}
use Rattle.afdx_law_bounds.specs.Admitted.{NoneIsLost, EachIsInTime, NoneIsTooOld}
use Rattle.afdx_law_bounds.specs.Policed.{MayWait, IsCharged, IsRegulated}
use Rattle.afdx_law_bounds.proofs.ListLemmas.{get_all, all_get}
use Rattle.afdx_law_bounds.proofs.BoundLemmas.{few_wait, high_soon, low_soon, turn_at}
use Rattle.afdx_law_bounds.proofs.SumLemmas.{rates, curve_of, classes-load, sum-classes, low-one}
use Rattle.afdx_law_bounds.proofs.SumLemmas.{longest-one, load-rates, policed-keep}

-- a regulated link's rate is positive
rate-positive : (ms m smax : ℕ) → ms * m ≡ 128 → 0 < smax → 0 < smax * m
rate-positive ms zero smax h some = absurd (omega (arith, h))
rate-positive ms (suc m) smax h some = grind arith

pub product-positive : (a b : ℕ) → 0 < a → 0 < b → 0 < a * b
product-positive a b h k = grind arith

-- what may wait as long as the latency isn't too old within it
not-past : (longest : Option ℕ) (time t latency : ℕ) → IfSome longest (λ wait. latency ≤ wait) → t ≤ time + latency →
    is_past longest time t ≡ false
not-past None time t latency waits soon = refl
not-past (Some wait) time t latency waits soon = nat_lt-false (time + wait) t (omega (arith, waits, soon))

module _ {X : Type 0} where
  pub none-lost : EachAccountMoves → NoneIsLost X
  none-lost moves byte_ns buffer flows vl_of charge_of entries turns new regulated schedule lost =
      let high = policed-keep moves vl_of charge_of flows (entries ++ new ∷ []) High
      regulated.flows_are regulated.policed in
      let low = policed-keep moves vl_of charge_of flows (entries ++ new ∷ []) Low
      regulated.flows_are regulated.policed in
      let loads : byte_ns * (rates (of_class High flows) + rates (of_class Low flows))
      ≤ byte_units = omega (arith, classes-load byte_ns flows, regulated.admitted.no_overload) in
      let few = few_wait byte_ns (curve_of High flows) (curve_of Low flows) entries turns new
      regulated.line loads regulated.in_order high low schedule in
      let all = sum-classes (λ f. cap f.link) flows in
      let holds = regulated.admitted.fits_buffer in
      omega (arith, few, all, holds, lost)

  pub turn-in-time : EachAccountMoves → (byte_ns buffer : ℕ) (flows : List Flow) (vl_of : X → ℕ)
      (charge_of : Entry X → ℕ) (entries : List (Entry X)) (turns : List (Turn X)) (f : Flow) (i : ℕ) (s : Turn X) →
      IsRegulated byte_ns buffer flows vl_of charge_of entries → AreTurns byte_ns entries turns → Contains flows f →
      slice_get turns i ≡ Some s → vl_of s.entry.item ≡ f.vl →
      s.end ≤ s.entry.time + f.latency
  turn-in-time moves byte_ns buffer flows vl_of charge_of entries turns f i s regulated are flow at named =
      let high = policed-keep moves vl_of charge_of flows entries High regulated.flows_are regulated.policed in
      let low = policed-keep moves vl_of charge_of flows entries Low regulated.flows_are regulated.policed in
      let split = classes-load byte_ns flows in
      let loads : byte_ns * (rates (of_class High flows) + rates (of_class Low flows))
      ≤ byte_units = omega (arith, split, regulated.admitted.no_overload) in
      let own = turn_at byte_ns entries turns i s are at in
      let charged : IsCharged vl_of charge_of flows s.entry = get_all
      (λ e. IsCharged vl_of charge_of flows e) entries s.place s.entry regulated.policed.charged own.next.own.stands in
      let same : charged.flow ≡ f = regulated.flows_are.distinct charged.flow f charged.stands flow
      (charged.named ∙ named) in
      let class : s.entry.priority ≡ f.priority = charged.class ∙ ap (λ z. z.priority) same in
      elim (priority_cases s.entry.priority) [
        | inl is ↦ (let r = high_soon byte_ns (curve_of High flows) (longest (of_class Low flows)) entries turns i s
            (omega (arith, loads)) regulated.in_order high
            (λ place e g is-low. let c =
            get_all (λ d. IsCharged vl_of charge_of flows d) entries place e
            regulated.policed.charged g in
            let longest-is = longest-one flows c.flow c.stands (sym c.class ∙ is-low) in
            omega (arith, c.at_least, c.at_most, longest-is)) are at is in
            let line = All-contains (λ d. d.priority ≡ High
            → (burst (of_class High flows) + byte_units * longest (of_class Low flows)) * byte_ns
            ≤ d.latency * byte_units) flows f regulated.admitted.high_in_time flow (sym class ∙ is) in
            omega (arith, r, line))
        | inr is ↦ (let r = low_soon byte_ns (curve_of High flows) (curve_of Low flows) entries
            turns i s loads regulated.in_order high low are at is in
            let is-low : f.priority ≡ Low = sym class ∙ is in
            let line = All-contains (λ d. d.priority ≡ Low → burst flows * byte_ns
            ≤ d.latency * (byte_units - load byte_ns (of_class High flows))) flows f
            regulated.admitted.low_in_time flow is-low in
            let smax : charged.flow.link.smax ≡ f.link.smax = ap (λ z. z.link.smax) same in
            let long : 0 < f.link.smax = omega (arith, smax, charged.at_least, charged.at_most) in
            let gap = All-contains (λ d. IsTrue (is_bag d.link.bag_ms)) flows f regulated.flows_are.gaps flow in
            let rate : 0 < fill_rate f.link =
            rate-positive f.link.bag_ms (128 / f.link.bag_ms) f.link.smax
            (is_bag-divides f.link.bag_ms gap) long in
            let own-load : 0 < fill_rate f.link * byte_ns =
            product-positive (fill_rate f.link) byte_ns rate regulated.line in
            let low-load = low-one (λ d. fill_rate d.link * byte_ns) flows f flow is-low in
            let all-load = sum-classes (λ d. fill_rate d.link * byte_ns) flows in
            let high-load = load-rates byte_ns (of_class High flows) in
            let bursts = sum-classes (λ d. cap d.link) flows in
            let left : 0 < byte_units - byte_ns * rates (of_class High flows) = omega (
              arith,
              own-load,
              low-load,
              all-load,
              high-load,
              regulated.admitted.no_overload,
            ) in
            let line-rates : burst flows * byte_ns
            ≤ f.latency * (byte_units - byte_ns * rates (of_class High flows)) =
            rw high-load at line in
            let bursts-ns : byte_ns * burst flows
            ≡ byte_ns * (burst (of_class High flows) + burst (of_class Low flows)) =
            ap (λ n. byte_ns * n) bursts in
            le_of_mul-le-mul_left (finish (byte_units - byte_ns * rates (of_class High flows)) s.end
            s.entry.time f.latency byte_ns (burst flows)
            (burst (of_class High flows) + burst (of_class Low flows)) r line-rates bursts-ns) left)
      ]
    where
      finish : (w end time latency b all both : ℕ) → w * end ≤ w * time + b * both → all * b ≤ latency * w →
          b * all ≡ b * both → w * end ≤ w * (time + latency)
      finish w end time latency b all both h k e = omega (arith, h, k, e)

  pub in-time : EachAccountMoves → EachIsInTime X
  in-time moves byte_ns buffer flows vl_of charge_of entries turns f regulated are flow =
      all_get (λ s. vl_of s.entry.item ≡ f.vl → s.end ≤ s.entry.time + f.latency) turns
      (λ i s g named. turn-in-time moves byte_ns buffer flows vl_of charge_of entries turns f i s
      regulated are flow g named)

  pub turn-not-old : EachAccountMoves → (byte_ns buffer : ℕ) (flows : List Flow) (vl_of : X → ℕ)
      (charge_of : Entry X → ℕ) (entries : List (Entry X)) (turns : List (Turn X)) (f : Flow) (i : ℕ) (s : Turn X) →
      IsRegulated byte_ns buffer flows vl_of charge_of entries → AreTurns byte_ns entries turns → Contains flows f →
      slice_get turns i ≡ Some s → vl_of s.entry.item ≡ f.vl →
      MayWait f.latency s.entry → s.too_old ≡ false
  turn-not-old moves byte_ns buffer flows vl_of charge_of entries turns f i s regulated are flow at named waits =
      let soon = turn-in-time moves byte_ns buffer flows vl_of charge_of entries turns f i s
      regulated are flow at named in
      let own = turn_at byte_ns entries turns i s are at in
      let lasts : s.moment ≤ s.end = ends_after byte_ns entries own.earlier s own.next in
      own.next.drops ∙ not-past s.entry.longest_wait s.entry.time s.moment f.latency waits (omega (arith, lasts, soon))

  pub none-too-old : EachAccountMoves → NoneIsTooOld X
  none-too-old moves byte_ns buffer flows vl_of charge_of entries turns f regulated are flow =
      all_get (λ s. vl_of s.entry.item ≡ f.vl → MayWait f.latency s.entry → s.too_old ≡ false) turns
      (λ i s g named waits. turn-not-old moves byte_ns buffer flows vl_of charge_of entries turns f
      i s regulated are flow g named waits)
