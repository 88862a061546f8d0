-- Each key that is solved for is the least that does.
use Rattle.std.proofs.Common.{◌≡◌, ℕ, zero, suc, ◌+◌, ◌*◌, ◌-◌, ◌<◌, ◌≤◌, min, nat_lt, nat_eq, Bool, true, false}
use Rattle.std.proofs.Common.{cond, not, ◌||◌, if◌then◌else◌, List, [], ◌∷◌, length, map, Option, Some, None, slice_get}
use Rattle.std.proofs.Common.{Contains, refl, sym, ap, subst, ◌∙◌, arith}
use Rattle.std.specs.Int.{div_ceil}
use Rattle.std.specs.List.{AllByRecursion, list_any}
use Rattle.std.specs.Option.{option_map_or}
use Rattle.std.proofs.lemmas.Bool.{lt-ltb, eq-eqb}
use Rattle.std.proofs.lemmas.Grind.{div_ceil_times}
use Rattle.std.proofs.lemmas.Option.{slice_get_within}
use Rattle.std.proofs.Math.Nat.{lt_of_mul-lt-mul_right}
use Rattle.afdx_frame.specs.declared.link.Priority.{Priority}
use Rattle.afdx_frame.specs.declared.link.Priority.TheVariants.{High, Low}
use Rattle.afdx_frame.specs.Regulation.{byte_units}
use Rattle.afdx_frame.specs.Flows.{Flow, of_class, is_class, burst, high_wait, low_wait, high_load}
use Rattle.afdx_frame.proofs.ListLemmas.{AllByRecursion-slice_get, slice_get-within}
use Rattle.afdx_config.specs.Rows.{SystemRow, LinkRow, Rows, is_to}
use Rattle.afdx_config.specs.Flows.{flow_of_link}
use Rattle.afdx_config.specs.Lawful.{IsSystem, IsLink, IsLawful, jitter_from_system}
use Rattle.afdx_config.specs.Admission.{IsAdmitted, byte_ns, flows_to, links_to, links_from, sender_jitter}
use Rattle.afdx_admit.specs.Lines.{loaded_output_to, high_bound_of, low_bound_of, buffer_need_of, jitter_at}
use Rattle.afdx_admit.proofs.OutputLemmas.{left_some_at, rates_some}
use Rattle.afdx_admit.proofs.SmallLemmas.{is_rate}
use Rattle.afdx_solve.specs.declared.options.SolveOptions.{SolveOptions}
use Rattle.afdx_solve.specs.Solved.{chosen, keeps_jitter, with_jitter, with_jitters, need_to, greatest_need, least_buffer, with_least_buffer}
use Rattle.afdx_solve.specs.Solved.{apart_us, least_skew, in_us, delay_to, latency_over, with_delay, with_delays, solved}
use Rattle.afdx_solve.specs.Laws.{AreLeastJitters, IsLeastBuffer, IsInTime, AreLeastLatencies, AreLeastSkews}
use Rattle.afdx_solve.proofs.DelayLemmas.{delay-stands}
use Rattle.afdx_solve.proofs.SameLemmas.{jitter-with_jitter, jitter-with_delay, burst-same, high_load-same, high_wait-same, low_wait-same}

-- rounded up, no more than what suffices
pub div_ceil-least : (a b k : ℕ) → 0 < b → a ≤ k * b → div_ceil a b ≤ k
div_ceil-least a b k some h =
    let below : div_ceil a b * b < (k + 1) * b = omega (arith, (div_ceil_times a b some).1, h) in
    omega (arith, lt_of_mul-lt-mul_right b below)

chosen-least : (keep raise_only : Bool) (as_is least : ℕ) → keep ≡ false → raise_only ≡ false
    → chosen keep raise_only as_is least ≡ least
chosen-least true r as_is least k e = absurd (cc k)
chosen-least false true as_is least k e = absurd (cc e)
chosen-least false false as_is least k e = refl

-- a row of those that were mapped
pub mapped : {X Y : Type 0} (h : X → Y) (xs : List X) (i : ℕ) (y : Y) → slice_get (map h xs) i ≡ Some y
    → (x : X) × (slice_get xs i ≡ Some x) × (h x ≡ y)
mapped h [] i y at = absurd (cc at)
mapped h (x ∷ xs) zero y at = (x, refl, same_of_some (h x) y at)
  where
    same_of_some : {X : Type 0} (x y : X) → Some x ≡ Some y → x ≡ y
    same_of_some x y e = cc
mapped h (x ∷ xs) (suc i) y at = mapped h xs i y at

-- ---- jitters

pub jitter_at-stands : (t : Rows) (place : ℕ) (s : SystemRow) → slice_get t.systems place ≡ Some s
    → jitter_at t place ≡ sender_jitter (byte_ns s) (links_from t.links place)
unfolding jitter_at
jitter_at-stands t place s at =
    ap (λ (o : Option SystemRow). option_map_or (λ r. sender_jitter (byte_ns r) (links_from t.links place)) o 0) at

-- a link of the one switch doesn't come from a neighbour
solved-jitter : (o : SolveOptions) (t : Rows) (l : LinkRow) → o.kept.jitter ≡ false → l.from < t.own
    → keeps_jitter o t l ≡ false
solved-jitter o t l keep from =
    ap (λ b. b || not (nat_lt l.from t.own)) keep ∙ ap not (lt-ltb l.from t.own from)

pub least_jitters : (o : SolveOptions) (t : Rows) → o.kept.jitter ≡ false → o.raise_only ≡ false
    → t.own ≡ length t.systems → AreLeastJitters (solved o t)
unfolding with_jitters with_least_buffer with_delays
least_jitters o t keep raise own = λ i l s at sender us enough.
    let t2 = with_least_buffer o (with_jitters o t) in
    let x = mapped (with_delay o t2) t2.links i l at in
    let y = mapped (with_jitter o t) t.links i x.0 x.1 in
    let from : y.0.from ≡ l.from = ap (λ r. r.from) y.2 ∙ ap (λ r. r.from) x.2 in
    let jitter : l.jitter_us ≡ (with_jitter o t y.0).jitter_us =
    sym (ap (λ r. r.jitter_us) x.2) ∙ sym (ap (λ r. r.jitter_us) y.2) in
    let of_system : y.0.from < t.own = omega (arith, from, own, slice_get_within t.systems l.from s sender) in
    let taken = chosen-least (keeps_jitter o t y.0) o.raise_only y.0.jitter_us
    (min (1000 * y.0.bag_ms) (div_ceil (jitter_at t y.0.from) 1000)) (solved-jitter o t y.0 keep of_system) raise in
    let needed : jitter_at t y.0.from ≡ sender_jitter (byte_ns s) (links_from (solved o t).links l.from) =
    ap (jitter_at t) from ∙ jitter_at-stands t l.from s sender
    ∙ sym (jitter-with_jitter o t (byte_ns s) t.links l.from)
    ∙ sym (jitter-with_delay o t2 (byte_ns s) t2.links l.from) in
    let least = div_ceil-least (jitter_at t y.0.from) 1000 us (omega arith) (omega (arith, needed, enough)) in
    omega (arith, jitter, taken, least)

-- ---- the buffer

pub need-least : (t : Rows) (bytes : ℕ) → ((i : ℕ) (s : SystemRow) → slice_get t.systems i ≡ Some s
    → burst (flows_to t.links i) ≤ bytes * byte_units) → (place : ℕ) → need_to t place ≤ bytes
unfolding buffer_need_of
need-least t bytes enough place = by (slice_get t.systems place) refl
  where
    by : (r : Option SystemRow) → slice_get t.systems place ≡ r
        → option_map_or (λ s. buffer_need_of (loaded_output_to t place s)) r 0 ≤ bytes
    by None at = omega arith
    by (Some s) at = div_ceil-least (burst (flows_to t.links place)) byte_units bytes (omega arith) (enough place s at)

pub needs-least : (t : Rows) (bytes : ℕ) → ((place : ℕ) → need_to t place ≤ bytes) → (count : ℕ)
    → greatest_need t count ≤ bytes
unfolding greatest_need
needs-least t bytes each zero = omega arith
needs-least t bytes each (suc place) = omega (arith, needs-least t bytes each place, each place)

pub least_buffer-least : (o : SolveOptions) (t : Rows) → o.kept.buffer ≡ false → o.raise_only ≡ false
    → IsLeastBuffer (solved o t)
unfolding with_least_buffer with_delays
least_buffer-least o t keep raise = λ bytes some enough.
    let t1 = with_jitters o t in
    let t2 = with_least_buffer o t1 in
    let each = need-least t1 bytes (λ i s at. omega (arith, burst-same o t2 t1.links i, enough i s at)) in
    let most = needs-least t1 bytes each (length t1.systems) in
    let taken = chosen-least o.kept.buffer o.raise_only t1.buffer (least_buffer t1) keep raise in
    omega (arith, taken, most, some)

-- ---- latencies

pub low_bound-some : (ns : ℕ) (flows : List Flow) → 0 < byte_units - high_load ns flows
    → low_bound_of (record { byte_ns = ns; flows = flows })
    ≡ Some (div_ceil (low_wait ns flows) (byte_units - high_load ns flows))
unfolding low_bound_of
low_bound-some ns flows left =
    let h = high_load ns flows in
    let below : nat_lt h byte_units ≡ true = lt-ltb h byte_units (omega (arith, left)) in
    ap (λ b. if b then Some (div_ceil (low_wait ns flows) (byte_units - h)) else None) below

-- what an output port needs is no more than a latency with which it is in time
pub delay-least : (t : Rows) (class : Priority) (place : ℕ) (s : SystemRow) (us : ℕ) → slice_get t.systems place
    ≡ Some s
    → IsInTime (byte_ns s) (flows_to t.links place) class (1000 * us)
    → (class ≡ Low → 0 < byte_units - high_load (byte_ns s) (flows_to t.links place)) → delay_to t class place ≤ us
unfolding high_bound_of
delay-least t High place s us at soon left =
    let ns = byte_ns s in
    let flows = flows_to t.links place in
    let bound = div_ceil-least (high_wait ns flows) byte_units (1000 * us) (omega arith) soon in
    let least = div_ceil-least (div_ceil (high_wait ns flows) byte_units) 1000 us (omega arith)
    (omega (arith, bound)) in
    subst (λ n. n ≤ us) (sym (delay-stands t High place s at)) least
delay-least t Low place s us at soon left =
    let ns = byte_ns s in
    let flows = flows_to t.links place in
    let rest = byte_units - high_load ns flows in
    let bound = div_ceil-least (low_wait ns flows) rest (1000 * us) (left refl) soon in
    let least = div_ceil-least (div_ceil (low_wait ns flows) rest) 1000 us (omega arith) (omega (arith, bound)) in
    let is = low_bound-some ns flows (left refl) in
    subst (λ n. n ≤ us) (sym (delay-stands t Low place s at ∙ ap in_us is)) least

pub latency_over-least : (f : ℕ → ℕ) (us count : ℕ) → 1 ≤ us → (places : List ℕ)
    → AllByRecursion (λ p. p < count) places
    → ((p : ℕ) → p < count → list_any (λ q. nat_eq q p) places ≡ true → f p ≤ us) → latency_over f places ≤ us
unfolding latency_over
latency_over-least f us count some [] within h = some
latency_over-least f us count some (p ∷ ps) within h =
    let here : f p ≤ us = h p within.0 (ap (λ b. b || list_any (λ q. nat_eq q p) ps) (eq-eqb p p refl)) in
    let rest = latency_over-least f us count some ps within.1 (λ q less among. h q less (later (nat_eq p q) among)) in
    omega (arith, here, rest)
  where
    later : (b : Bool) {c : Bool} → c ≡ true → b || c ≡ true
    later true e = refl
    later false e = e

-- a low link that goes to a port is among the low flows there
pub low_stands : (place : ℕ) (ls : List LinkRow) (i : ℕ) (l : LinkRow) → slice_get ls i ≡ Some l → is_to place l ≡ true
    → l.priority ≡ Low → Contains (of_class Low (flows_to ls place)) (flow_of_link l)
low_stands place [] i l at goes low = absurd (cc at)
low_stands place (x ∷ ls) zero l at goes low =
    subst (λ b. Contains (of_class Low (map flow_of_link
    (cond b (x ∷ links_to ls place) (links_to ls place)))) (flow_of_link l))
    (sym goes_x)
    (subst (λ b. Contains (cond b (flow_of_link x ∷ of_class Low (flows_to ls place))
    (of_class Low (flows_to ls place)))
    (flow_of_link l)) (sym low_x) (subst (λ y. Contains
    (flow_of_link x ∷ of_class Low (flows_to ls place)) (flow_of_link y)) same
    (0, omega arith, refl)))
  where
    same_of_some : {X : Type 0} (x y : X) → Some x ≡ Some y → x ≡ y
    same_of_some x y e = cc

    same : x ≡ l
    same = same_of_some x l at

    goes_x : is_to place x ≡ true
    goes_x = ap (is_to place) same ∙ goes

    low_x : is_class Low x.priority ≡ true
    low_x = ap (λ r. is_class Low r.priority) same ∙ ap (is_class Low) low
low_stands place (x ∷ ls) (suc i) l at goes low =
    in_more (is_to place x) (is_class Low x.priority) (low_stands place ls i l at goes low)
  where
    in_more : (a b : Bool) → Contains (of_class Low (flows_to ls place)) (flow_of_link l)
        → Contains (of_class Low (map flow_of_link
        (cond a (x ∷ links_to ls place) (links_to ls place)))) (flow_of_link l)
    in_more false b h = h
    in_more true b h = by b (is_class Low x.priority) refl h
      where
        by : (b c : Bool) → is_class Low x.priority ≡ c
            → Contains (of_class Low (flows_to ls place)) (flow_of_link l)
            → Contains (of_class Low (map flow_of_link (x ∷ links_to ls place))) (flow_of_link l)
        by b true e h = subst (λ c. Contains (cond c (flow_of_link x ∷ of_class Low (flows_to ls place))
            (of_class Low (flows_to ls place)))
            (flow_of_link l)) (sym e) (suc h.0, omega (arith, h.1), h.2)
        by b false e h = subst (λ c. Contains (cond c (flow_of_link x ∷ of_class Low (flows_to ls place))
            (of_class Low (flows_to ls place)))
            (flow_of_link l)) (sym e) h

-- the high ones leave it some of the line
left_some : (t : Rows) → IsLawful t → IsAdmitted t → (place : ℕ) (s : SystemRow) → slice_get t.systems place ≡ Some s
    → (i : ℕ) (l : LinkRow) → slice_get t.links i ≡ Some l → is_to place l ≡ true → l.priority ≡ Low
    → 0 < byte_units - high_load (byte_ns s) (flows_to t.links place)
left_some t lawful admitted place s stands i l at goes low =
    let row = AllByRecursion-slice_get (IsSystem t.profile) t.systems place s lawful.systems.each stands in
    left_some_at (byte_ns s) (is_rate t.profile s.rate row.rate).fast (flows_to t.links place) (flow_of_link l)
    (rates_some jitter_from_system (length t.systems) place t.links lawful.links.each)
    (admitted.ports place s stands).no_overload (low_stands place t.links i l at goes low)

in_time-before : (o : SolveOptions) (t : Rows) (place ns latency : ℕ) (class : Priority)
    → IsInTime ns (flows_to (map (with_delay o t) t.links) place) class latency
    → IsInTime ns (flows_to t.links place) class latency
in_time-before o t place ns latency High soon = subst (λ n. n ≤ latency * byte_units)
    (high_wait-same o t t.links place ns) soon
in_time-before o t place ns latency Low soon =
    subst (λ n. low_wait ns (flows_to t.links place) ≤ latency * (byte_units - n)) (high_load-same o t t.links place ns)
    (subst (λ n. n ≤ latency * (byte_units - high_load ns (flows_to (map (with_delay o t) t.links) place)))
    (low_wait-same o t t.links place ns) soon)

pub least_latencies : (o : SolveOptions) (t : Rows) → o.kept.latency ≡ false → o.raise_only ≡ false
    → IsLawful (with_delays o t) → IsAdmitted (with_delays o t) → AreLeastLatencies (with_delays o t)
unfolding with_delays
least_latencies o t keep raise lawful admitted = λ i l at us some soon.
    let f = with_delay o t in
    let x = mapped f t.links i l at in
    let t3 = record t { links = map f t.links } in
    let row = AllByRecursion-slice_get (IsLink (length t.systems)) t3.links i l lawful.links.each at in
    let before : AllByRecursion (λ p. p < length t.systems) x.0.to =
    subst (λ r. AllByRecursion (λ p. p < length t.systems) r.to) (sym x.2) row.to in
    let each : (p : ℕ) → p < length t.systems → list_any (λ q. nat_eq q p) x.0.to ≡ true
    → delay_to t x.0.priority p ≤ us =
    λ p less among.
    let s = slice_get-within t.systems p less in
    let goes : is_to p l ≡ true = ap (is_to p) (sym x.2) ∙ among in
    let class : x.0.priority ≡ l.priority = ap (λ r. r.priority) x.2 in
    let soon_l = in_time-before o t p (byte_ns s.0) (1000 * us) l.priority (soon p s.0 s.1 goes) in
    subst (λ k. delay_to t k p ≤ us) (sym class)
    (delay-least t l.priority p s.0 us s.1 soon_l
    (λ low. subst (λ n. 0 < byte_units - n) (high_load-same o t t.links p (byte_ns s.0))
    (left_some t3 lawful admitted p s.0 s.1 i l at goes low))) in
    let most = latency_over-least (delay_to t x.0.priority) us (length t.systems) some x.0.to before each in
    let taken = chosen-least o.kept.latency o.raise_only x.0.latency_us
    (min 100000 (latency_over (delay_to t x.0.priority) x.0.to)) keep raise in
    omega (arith, ap (λ r. r.latency_us) x.2, taken, most)

-- ---- skews

pub least_skews : (o : SolveOptions) (t : Rows) → o.kept.skew ≡ false → o.raise_only ≡ false
    → AreLeastSkews (apart_us o) (with_delays o t)
unfolding with_delays
least_skews o t keep raise = λ i l at us room.
    let f = with_delay o t in
    let x = mapped f t.links i l at in
    let taken = chosen-least o.kept.skew o.raise_only x.0.skew_us (least_skew o (f x.0).latency_us) keep raise in
    omega (arith, ap (λ r. r.latency_us) x.2, ap (λ r. r.skew_us) x.2, taken, room)
