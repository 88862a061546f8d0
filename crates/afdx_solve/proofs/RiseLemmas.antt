-- What tables need rises with their jitters and latencies: of a port, a sender and a switch.
use Rattle.std.proofs.Common.{◌≡◌, ℕ, zero, suc, ◌+◌, ◌*◌, ◌-◌, ◌/◌, ◌<◌, ◌≤◌, max, Bool, true, false, List, [], ◌∷◌, length}
use Rattle.std.proofs.Common.{Option, Some, None, slice_get, nat_eq, nat_lt, if◌then◌else◌, refl, sym, ap, ◌∙◌, subst, arith}
use Rattle.std.specs.Int.{div_ceil}
use Rattle.std.specs.List.{AllZip}
use Rattle.std.specs.Option.{option_map_or}
use Rattle.std.proofs.lemmas.Grind.{div_ceil_times}
use Rattle.std.proofs.Math.Nat.{mul-le-mul_right, mul-le-mul_left}
use Rattle.afdx_frame.specs.declared.link.Priority.{Priority}
use Rattle.afdx_frame.specs.declared.link.Priority.TheVariants.{High, Low}
use Rattle.afdx_frame.specs.Regulation.{byte_units, fill_rate, cap}
use Rattle.afdx_frame.specs.Flows.{Flow, of_class, is_class, burst, load, longest, high_wait, low_wait, high_load}
use Rattle.afdx_config.specs.Rows.{SystemRow, LinkRow, Rows, is_to}
use Rattle.afdx_config.specs.Flows.{flow_of_link, regulation_of_link}
use Rattle.afdx_config.specs.Admission.{byte_ns, links_to, links_from, flows_to, sender_jitter}
use Rattle.afdx_config.specs.ChangedSwitches.{bare_link, bare}
use Rattle.afdx_admit.specs.Lines.{loaded_output_to, high_bound_of, low_bound_of, buffer_need_of, jitter_at}
use Rattle.afdx_solve.specs.Solved.{class_bound, in_us, delay_to, latency_over, need_to, greatest_need, least_buffer}
use Rattle.afdx_solve.specs.SolvedCascade.{AreTimesAtMost, latency_needed}
use Rattle.std.proofs.lemmas.Bool.{ltb-true}
use Rattle.afdx_solve.proofs.LeastLemmas.{div_ceil-least}
use Rattle.afdx_solve.proofs.ZipLemmas.{zip-maps, zip-filter, zip-sum, zip-sum_same}

pub record LinkRises (l m : LinkRow) : Type 0 where
  pub bare : bare_link l ≡ bare_link m
  pub times : AreTimesAtMost l m

pub record RowsRise (t u : Rows) : Type 0 where
  pub bare : bare t ≡ bare u
  pub links : AllZip LinkRises t.links u.links

div_ceil-rises : (a b n : ℕ) → 0 < n → a ≤ b → div_ceil a n ≤ div_ceil b n
div_ceil-rises a b n some h = div_ceil-least a n (div_ceil b n) some (omega (arith, (div_ceil_times b n some).0, h))

-- ---- a port

pub record FlowRises (f g : Flow) : Type 0 where
  smax : f.link.smax ≡ g.link.smax
  rate : fill_rate f.link ≡ fill_rate g.link
  cap : cap f.link ≤ cap g.link
  priority : f.priority ≡ g.priority

flow-rises : (l m : LinkRow) → LinkRises l m → FlowRises (flow_of_link l) (flow_of_link m)
flow-rises l m h =
    let lmax : l.lmax ≡ m.lmax = ap (λ (r : LinkRow). r.lmax) h.bare in
    let bag : l.bag_ms ≡ m.bag_ms = ap (λ (r : LinkRow). r.bag_ms) h.bare in
    let x = regulation_of_link l in
    let y = regulation_of_link m in
    let rate : fill_rate x ≡ fill_rate y =
    ap (λ n. (n + 20) * (128 / l.bag_ms)) lmax ∙ ap (λ n. (m.lmax + 20) * (128 / n)) bag in
    let more : 1000000 * l.bag_ms + 1000 * l.jitter_us ≤ 1000000 * m.bag_ms + 1000 * m.jitter_us =
    omega (arith, bag, h.times.jitter) in
    record {
      smax = ap (λ n. n + 20) lmax;
      rate = rate;
      cap = subst (λ n. n * (1000000 * l.bag_ms + 1000 * l.jitter_us) ≤ cap y) (sym rate)
          (mul-le-mul_left (fill_rate y) more);
      priority = ap (λ (r : LinkRow). r.priority) h.bare;
    }

goes-same : (place : ℕ) (l m : LinkRow) → LinkRises l m → is_to place l ≡ is_to place m
goes-same place l m h = ap (λ (r : LinkRow). is_to place r) h.bare

pub flows-rise : (ls ms : List LinkRow) → AllZip LinkRises ls ms → (place : ℕ)
    → AllZip FlowRises (flows_to ls place) (flows_to ms place)
flows-rise ls ms h place = zip-maps LinkRises FlowRises flow_of_link flow_of_link flow-rises
    (links_to ls place) (links_to ms place)
    (zip-filter LinkRises (is_to place) (is_to place) (goes-same place) ls ms h)

pub class-rises : (class : Priority) (fs gs : List Flow) → AllZip FlowRises fs gs
    → AllZip FlowRises (of_class class fs) (of_class class gs)
class-rises class fs gs h = zip-filter FlowRises (λ f. is_class class f.priority) (λ f. is_class class f.priority)
    (λ f g r. ap (is_class class) r.priority) fs gs h

pub burst-rises : (fs gs : List Flow) → AllZip FlowRises fs gs → burst fs ≤ burst gs
burst-rises fs gs h = zip-sum FlowRises (λ f. cap f.link) (λ f. cap f.link) (λ f g r. r.cap) fs gs h

pub load-same : (ns : ℕ) (fs gs : List Flow) → AllZip FlowRises fs gs → load ns fs ≡ load ns gs
load-same ns fs gs h = zip-sum_same FlowRises (λ f. fill_rate f.link * ns) (λ f. fill_rate f.link * ns)
    (λ f g r. ap (λ n. n * ns) r.rate) fs gs h

longest-same : (fs gs : List Flow) → AllZip FlowRises fs gs → longest fs ≡ longest gs
longest-same [] [] h = refl
longest-same [] (g ∷ gs) h = absurd h
longest-same (f ∷ fs) [] h = absurd h
longest-same (f ∷ fs) (g ∷ gs) h =
    ap (λ n. max n (longest fs)) h.0.smax ∙ ap (max g.link.smax) (longest-same fs gs h.1)

pub high-rises : (ns : ℕ) (fs gs : List Flow) → AllZip FlowRises fs gs → high_wait ns fs ≤ high_wait ns gs
high-rises ns fs gs h =
    let high = burst-rises (of_class High fs) (of_class High gs) (class-rises High fs gs h) in
    let low = longest-same (of_class Low fs) (of_class Low gs) (class-rises Low fs gs h) in
    mul-le-mul_right ns (omega (arith, high, low))

pub low-rises : (ns : ℕ) (fs gs : List Flow) → AllZip FlowRises fs gs → low_wait ns fs ≤ low_wait ns gs
low-rises ns fs gs h = mul-le-mul_right ns (burst-rises fs gs h)

in_us-rises : (ns : ℕ) (fs gs : List Flow) → AllZip FlowRises fs gs → (class : Priority)
    → in_us (class_bound class (record { byte_ns = ns; flows = fs }))
    ≤ in_us (class_bound class (record { byte_ns = ns; flows = gs }))
unfolding high_bound_of low_bound_of
in_us-rises ns fs gs h High =
    div_ceil-rises (div_ceil (high_wait ns fs) byte_units) (div_ceil (high_wait ns gs) byte_units) 1000 (omega arith)
    (div_ceil-rises (high_wait ns fs) (high_wait ns gs) byte_units (omega arith) (high-rises ns fs gs h))
in_us-rises ns fs gs h Low =
    subst (λ n. in_us (if nat_lt (high_load ns fs) byte_units
    then Some (div_ceil (low_wait ns fs) (byte_units - high_load ns fs)) else None)
    ≤ in_us (if nat_lt n byte_units then Some (div_ceil (low_wait ns gs) (byte_units - n)) else None))
    (load-same ns (of_class High fs) (of_class High gs) (class-rises High fs gs h))
    (by (nat_lt (high_load ns fs) byte_units) refl)
  where
    by : (b : Bool) → nat_lt (high_load ns fs) byte_units ≡ b
        → in_us (if b then Some (div_ceil (low_wait ns fs) (byte_units - high_load ns fs)) else None)
        ≤ in_us (if b then Some (div_ceil (low_wait ns gs) (byte_units - high_load ns fs)) else None)
    by true e =
        let left : 0 < byte_units - high_load ns fs = omega (arith, ltb-true (high_load ns fs) byte_units e) in
        div_ceil-rises (div_ceil (low_wait ns fs) (byte_units - high_load ns fs))
        (div_ceil (low_wait ns gs) (byte_units - high_load ns fs)) 1000 (omega arith)
        (div_ceil-rises (low_wait ns fs) (low_wait ns gs) (byte_units - high_load ns fs) left (low-rises ns fs gs h))
    by false e = omega arith

-- ---- a switch

module _ (t u : Rows) (h : RowsRise t u) where
  systems-same : t.systems ≡ u.systems
  systems-same = ap (λ (r : Rows). r.systems) h.bare

  pub delay-rises : (class : Priority) (place : ℕ) → delay_to t class place ≤ delay_to u class place
  unfolding delay_to
  delay-rises class place =
      subst (λ (ss : List SystemRow). delay_to t class place
      ≤ option_map_or (λ s. in_us (class_bound class (loaded_output_to u place s))) (slice_get ss place) 0)
      systems-same (by (slice_get t.systems place))
    where
      by : (o : Option SystemRow) → option_map_or (λ s. in_us (class_bound class (loaded_output_to t place s))) o 0
          ≤ option_map_or (λ s. in_us (class_bound class (loaded_output_to u place s))) o 0
      by None = omega arith
      by (Some s) = in_us-rises (byte_ns s) (flows_to t.links place) (flows_to u.links place)
          (flows-rise t.links u.links h.links place) class

  need-rises : (place : ℕ) → need_to t place ≤ need_to u place
  unfolding buffer_need_of
  need-rises place =
      subst (λ (ss : List SystemRow). need_to t place
      ≤ option_map_or (λ s. buffer_need_of (loaded_output_to u place s)) (slice_get ss place) 0)
      systems-same (by (slice_get t.systems place))
    where
      by : (o : Option SystemRow) → option_map_or (λ s. buffer_need_of (loaded_output_to t place s)) o 0
          ≤ option_map_or (λ s. buffer_need_of (loaded_output_to u place s)) o 0
      by None = omega arith
      by (Some s) = div_ceil-rises (burst (flows_to t.links place)) (burst (flows_to u.links place)) byte_units
          (omega arith)
          (burst-rises (flows_to t.links place) (flows_to u.links place) (flows-rise t.links u.links h.links place))

  needs-rise : (count : ℕ) → greatest_need t count ≤ greatest_need u count
  unfolding greatest_need
  needs-rise zero = omega arith
  needs-rise (suc count) = omega (arith, needs-rise count, need-rises count)

  pub buffer-rises : least_buffer t ≤ least_buffer u
  buffer-rises = omega (
    arith,
    needs-rise (length t.systems),
    ap (λ (ss : List SystemRow). greatest_need u (length ss)) systems-same,
  )

  pub jitter_at-same : (place : ℕ) → jitter_at t place ≡ jitter_at u place
  unfolding jitter_at
  jitter_at-same place =
      ap (λ (ss : List SystemRow). option_map_or (λ s. sender_jitter (byte_ns s) (links_from t.links place))
      (slice_get ss place) 0) systems-same
      ∙ by (slice_get u.systems place)
    where
      sent : AllZip LinkRises (links_from t.links place) (links_from u.links place)
      sent = zip-filter LinkRises (λ l. nat_eq l.from place) (λ l. nat_eq l.from place)
          (λ l m r. ap (λ (x : LinkRow). nat_eq x.from place) r.bare) t.links u.links h.links

      by : (o : Option SystemRow) → option_map_or (λ s. sender_jitter (byte_ns s) (links_from t.links place)) o 0
          ≡ option_map_or (λ s. sender_jitter (byte_ns s) (links_from u.links place)) o 0
      by None = refl
      by (Some s) = ap (λ n. 40000 + n) (zip-sum_same LinkRises (λ l. (regulation_of_link l).smax * byte_ns s)
          (λ l. (regulation_of_link l).smax * byte_ns s)
          (λ l m r. ap (λ (x : LinkRow). (x.lmax + 20) * byte_ns s) r.bare)
          (links_from t.links place) (links_from u.links place) sent)

latency_over-rises : (f g : ℕ → ℕ) → ((place : ℕ) → f place ≤ g place) → (places : List ℕ)
    → latency_over f places ≤ latency_over g places
unfolding latency_over
latency_over-rises f g each [] = omega arith
latency_over-rises f g each (p ∷ ps) = omega (arith, each p, latency_over-rises f g each ps)

pub latency-rises : (t u : Rows) → RowsRise t u → (l m : LinkRow) → LinkRises l m
    → latency_needed t l ≤ latency_needed u m
unfolding latency_needed
latency-rises t u h l m r =
    let class : l.priority ≡ m.priority = ap (λ (x : LinkRow). x.priority) r.bare in
    let to : l.to ≡ m.to = ap (λ (x : LinkRow). x.to) r.bare in
    let more = latency_over-rises (delay_to t l.priority) (delay_to u l.priority) (delay-rises t u h l.priority) l.to in
    let same : latency_over (delay_to u l.priority) l.to ≡ latency_over (delay_to u m.priority) m.to =
    ap (λ k. latency_over (delay_to u k) l.to) class ∙ ap (latency_over (delay_to u m.priority)) to in
    omega (arith, more, same)
