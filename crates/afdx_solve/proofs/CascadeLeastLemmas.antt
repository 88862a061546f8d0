-- Where nothing is raised any more is the least solution; no admitted cascade has less, and there is
-- one least solution.
use Rattle.std.proofs.Common.{◌≡◌, inl, inr, ℕ, zero, suc, ◌+◌, ◌*◌, ◌-◌, ◌<◌, ◌≤◌, min, Bool, true, false, cond, List, [], ◌∷◌}
use Rattle.std.proofs.Common.{length, map, Option, Some, slice_get, nat_lt, if◌then◌else◌, refl, sym, ap, ◌∙◌, subst, arith}
use Rattle.std.proofs.Common.{Contains, option_map, option_and_then}
use Rattle.std.specs.Option.{option_map_or, unwrap_or}
use Rattle.std.proofs.lemmas.Bool.{cases_lt, lt-ltb}
use Rattle.std.proofs.lemmas.List.Elements.{All-contains, same_from_all_zip}
use Rattle.std.proofs.lemmas.Bool.Decides.{nat_tests}
use Rattle.std.proofs.lemmas.Option.{same_Some, slice_get_within}
use Rattle.afdx_frame.specs.declared.link.Priority.{Priority}
use Rattle.afdx_frame.specs.declared.link.Priority.TheVariants.{High, Low}
use Rattle.afdx_frame.specs.Regulation.{byte_units}
use Rattle.afdx_frame.specs.Lengths.{least_frame}
use Rattle.afdx_frame.specs.Flows.{high_load, high_wait, low_wait}
use Rattle.afdx_frame.proofs.ListLemmas.{AllByRecursion-slice_get, slice_get-within}
use Rattle.afdx_config.specs.Rows.{SystemRow, LinkRow, Rows, is_to}
use Rattle.afdx_config.specs.Flows.{flow_of_link}
use Rattle.afdx_config.specs.Lawful.{IsSystem, IsLinkUpTo, IsLawfulSwitch, jitter_from_any}
use Rattle.afdx_config.specs.Admission.{IsAdmitted, byte_ns, flows_to, links_to}
use Rattle.afdx_config.specs.Switches.{NamedRows, named_rows, AreSwitches}
use Rattle.afdx_config.specs.AtSwitch.{tables_at}
use Rattle.afdx_config.specs.ChangedSwitches.{bare_link, bare_switch, AreAlike}
use Rattle.afdx_admit.specs.Lines.{jitter_at}
use Rattle.afdx_admit.specs.Cascade.{RowAt, row_at, row_before, way_latency, is_sent_here, latency_within, late_behind}
use Rattle.afdx_admit.specs.Cascade.{goes_to_system, IsHop, IsCascadeAdmitted}
use Rattle.afdx_admit.proofs.OutputLemmas.{left_some_at, rates_some}
use Rattle.afdx_admit.proofs.SmallLemmas.{is_rate}
use Rattle.afdx_admit.proofs.CascadeLemmas.{with_tables}
use Rattle.afdx_solve.specs.declared.options.SolveOptions.{SolveOptions}
use Rattle.afdx_solve.specs.Solved.{chosen, least_buffer, least_jitter, delay_to, apart_us}
use Rattle.afdx_solve.specs.SolvedCascade.{late_before, jitter_needed, latency_needed, skew_needed, way_to_system}
use Rattle.afdx_solve.specs.SolvedCascade.{IsSolution, IsEnough, AreTimesAtMost, AreAtMost}
use Rattle.afdx_solve.specs.SolvedCascade.{IsLeastSolution, MayBecome, CascadeIsLeast, LeastIsOne}
use Rattle.afdx_solve.specs.SolvedCascade.{AdmittedAllow}
use Rattle.afdx_solve.specs.Raising.{IsRising, IsSettledAt}
use Rattle.afdx_solve.proofs.LeastLemmas.{div_ceil-least, jitter_at-stands, need-least, needs-least, delay-least}
use Rattle.afdx_solve.proofs.LeastLemmas.{latency_over-least, low_stands}
use Rattle.afdx_solve.proofs.ZipLemmas.{zip-from}
use Rattle.afdx_solve.proofs.AtLemmas.{link-at}
use Rattle.afdx_solve.proofs.RaisingLemmas.{settled-takes}
use Rattle.afdx_solve.proofs.BeginLemmas.{lawful-at}

-- ---- settled

pub settled-least : (o : SolveOptions) (file ss : List NamedRows) → IsRising o file ss
    → ((k : ℕ) → k < length ss → IsSettledAt o ss k) → IsLeastSolution o file ss
settled-least o file ss h settled = record {
  solution = record {
    alike = h.to.alike;
    buffers = λ k f t at at'.
        let s = settled k (within k t at') in
        settled-takes o.kept.buffer o.raise_only f.buffer least_frame t.buffer (least_buffer t)
        (h.from.buffers k f t at at') (h.to.buffers k f t at at') (s.buffer t at');
    times = λ k i t f l at row row'.
        let s = (settled k (within k t at)).times i t l at row' in
        let from = h.from.times k i f l row (link-at ss k i t l at row') in
        let to = h.to.times k i t f l at row row' in
        record {
          jitter = settled-takes o.kept.jitter o.raise_only f.jitter_us 0 l.jitter_us
              (jitter_needed ss t (row_at k l)) from.jitter to.jitter s.jitter;
          latency = settled-takes o.kept.latency o.raise_only f.latency_us 1 l.latency_us
              (latency_needed t l) from.latency to.latency s.latency;
          skew = settled-takes o.kept.skew o.raise_only f.skew_us 1 l.skew_us
              (skew_needed (apart_us o) ss t (row_at k l)) from.skew to.skew s.skew;
        };
  };
  least = h.least;
}
  where
    within : (k : ℕ) (t : Rows) → tables_at ss k ≡ Some t → k < length ss
    within k t at = let s = with_tables (slice_get ss k) t at in slice_get_within ss k (named_rows s.0 t) s.1

-- ---- admitted is enough

may-take : (keep raise : Bool) (file value n : ℕ) → MayBecome keep raise file value → n ≤ value
    → chosen keep raise file n ≤ value
may-take true raise file value n may h = omega (arith, may)
may-take false true file value n may h = omega (arith, may, h)
may-take false false file value n may h = h

pub flow_stands : (place : ℕ) (ls : List LinkRow) (i : ℕ) (l : LinkRow) → slice_get ls i ≡ Some l → is_to place l ≡ true
    → Contains (flows_to ls place) (flow_of_link l)
flow_stands place [] i l at goes = absurd (cc at)
flow_stands place (x ∷ ls) zero l at goes =
    let same = same_Some x l at in
    subst (λ b. Contains (map flow_of_link (cond b (x ∷ links_to ls place) (links_to ls place))) (flow_of_link l))
    (sym (ap (is_to place) same ∙ goes))
    (subst (λ (r : LinkRow). Contains (flow_of_link x ∷ flows_to ls place) (flow_of_link r)) same
    (0, omega arith, refl))
flow_stands place (x ∷ ls) (suc i) l at goes = by (is_to place x) (flow_stands place ls i l at goes)
  where
    by : (b : Bool) → Contains (flows_to ls place) (flow_of_link l)
        → Contains (map flow_of_link (cond b (x ∷ links_to ls place) (links_to ls place))) (flow_of_link l)
    by false h = h
    by true h = (suc h.0, omega (arith, h.1), h.2)

way-sent : (ss : List NamedRows) (r : RowAt) → 0 < length ss → is_sent_here ss r ≡ true
    → way_latency ss r ≡ Some r.row.latency_us
unfolding way_latency
way-sent ss r some sent = by (length ss) some
  where
    by : (n : ℕ) → 0 < n → latency_within n ss r ≡ Some r.row.latency_us
    by zero h = absurd (omega (arith, h))
    by (suc n) h = ap (λ b. if b then Some r.row.latency_us else
        option_and_then (λ before. option_map (λ sum. sum + r.row.latency_us) (latency_within n ss before))
        (row_before ss r))
        sent

module _ (ss : List NamedRows) (are : AreSwitches ss) (h : IsCascadeAdmitted ss) (k : ℕ) (t : Rows)
    (at : tables_at ss k ≡ Some t) where
  s : NamedRows
  s = named_rows (with_tables (slice_get ss k) t at).0 t

  here : slice_get ss k ≡ Some s
  unfolding s
  here = (with_tables (slice_get ss k) t at).1

  lawful : IsLawfulSwitch t
  lawful = lawful-at ss are k t at

  admitted : IsAdmitted t
  unfolding s
  admitted = h.each k s here

  buffer-enough : least_buffer t ≤ t.buffer
  buffer-enough =
      let each = need-least t t.buffer (λ i e there. (admitted.ports i e there).fits_buffer) in
      omega (arith, needs-least t t.buffer each (length t.systems), lawful.buffer.0)

  module _ (i : ℕ) (l : LinkRow) (row : slice_get t.links i ≡ Some l) where
    link : IsLinkUpTo jitter_from_any (length t.systems) l
    link = AllByRecursion-slice_get (IsLinkUpTo jitter_from_any (length t.systems)) t.links i l lawful.links.each row

    hop : t.own ≤ l.from → IsHop ss t (row_at k l)
    unfolding s
    hop past = h.hops k s here i l row past

    jitter-sent : l.from < t.own → jitter_needed ss t (row_at k l) ≤ l.jitter_us
    unfolding jitter_needed
    jitter-sent from =
        let e = slice_get-within t.systems l.from (omega (arith, from, lawful.own)) in
        let is = jitter_at-stands t l.from e.0 e.1 in
        let enough = admitted.jitters i l e.0 row e.1 from in
        let least = div_ceil-least (jitter_at t l.from) 1000 l.jitter_us (omega arith) (omega (arith, is, enough)) in
        subst (λ b. (if b then least_jitter (jitter_at t l.from) l
        else min (jitter_from_any l.bag_ms) (late_before ss (row_at k l))) ≤ l.jitter_us)
        (sym (lt-ltb l.from t.own from)) (omega (arith, least))

    jitter-late : t.own ≤ l.from → jitter_needed ss t (row_at k l) ≤ l.jitter_us
    unfolding jitter_needed late_before
    jitter-late past =
        let x = hop past in
        let late : late_before ss (row_at k l) ≡ late_behind x.before.row =
        ap (λ way. option_map_or (λ (sum : ℕ). option_map_or (λ (b : RowAt). late_behind b.row)
        (row_before ss (row_at k l)) 0) way 0) x.way
        ∙ ap (λ before. option_map_or (λ (b : RowAt). late_behind b.row) before 0) x.stands in
        subst (λ b. (if b then least_jitter (jitter_at t l.from) l
        else min (jitter_from_any l.bag_ms) (late_before ss (row_at k l))) ≤ l.jitter_us)
        (sym (let after : nat_lt l.from t.own ≡ false = grind (arith, nat_tests) in after))
        (omega (arith, late, x.jitter))

    jitter-enough : jitter_needed ss t (row_at k l) ≤ l.jitter_us
    jitter-enough = elim (cases_lt l.from t.own) [ inl from ↦ jitter-sent from | inr past ↦ jitter-late past ]

    -- at each port
    port-enough : (place : ℕ) → place < length t.systems → is_to place l ≡ true → delay_to t l.priority place
        ≤ l.latency_us
    port-enough place less goes =
        let e = slice_get-within t.systems place less in
        let port = admitted.ports place e.0 e.1 in
        let flow = flow_stands place t.links i l row goes in
        let high = All-contains (λ f. f.priority ≡ High → high_wait (byte_ns e.0) (flows_to t.links place)
        ≤ f.latency * byte_units)
        (flows_to t.links place) (flow_of_link l) port.high_in_time flow in
        let low = All-contains (λ f. f.priority ≡ Low → low_wait (byte_ns e.0) (flows_to t.links place)
        ≤ f.latency * (byte_units - high_load (byte_ns e.0) (flows_to t.links place)))
        (flows_to t.links place) (flow_of_link l) port.low_in_time flow in
        let system = AllByRecursion-slice_get (IsSystem t.profile) t.systems place e.0 lawful.systems.each e.1 in
        let left = λ (is : l.priority ≡ Low). left_some_at (byte_ns e.0) (is_rate t.profile e.0.rate system.rate).fast
        (flows_to t.links place) (flow_of_link l)
        (rates_some jitter_from_any (length t.systems) place t.links lawful.links.each) port.no_overload
        (low_stands place t.links i l row goes is) in
        by e.0 e.1 l.priority high low left
      where
        by : (e : SystemRow) → slice_get t.systems place ≡ Some e → (class : Priority)
            → (class ≡ High → high_wait (byte_ns e) (flows_to t.links place) ≤ 1000 * l.latency_us * byte_units)
            → (class ≡ Low → low_wait (byte_ns e) (flows_to t.links place)
            ≤ 1000 * l.latency_us * (byte_units - high_load (byte_ns e) (flows_to t.links place)))
            → (class ≡ Low → 0 < byte_units - high_load (byte_ns e) (flows_to t.links place))
            → delay_to t class place ≤ l.latency_us
        by e there High high low left = delay-least t High place e l.latency_us there (high refl) left
        by e there Low high low left = delay-least t Low place e l.latency_us there (low refl) left

    latency-enough : latency_needed t l ≤ l.latency_us
    unfolding latency_needed
    latency-enough =
        let over = latency_over-least (delay_to t l.priority) l.latency_us (length t.systems) link.latency_us.0 l.to
        link.to
        port-enough in
        omega (arith, over)

    way-enough : goes_to_system t l ≡ true → unwrap_or (way_latency ss (row_at k l)) 0 ≤ l.skew_us
    unfolding s is_sent_here
    way-enough goes = elim (cases_lt l.from t.own) [
      | inl from ↦
          let sent : is_sent_here ss (row_at k l) ≡ true =
          ap (λ (o : Option NamedRows). option_map_or (λ (r : NamedRows). nat_lt l.from r.rows.own) o false) here
          ∙ lt-ltb l.from t.own from in
          let way = way-sent ss (row_at k l) (omega (arith, slice_get_within ss k s here)) sent in
          subst (λ w. unwrap_or w 0 ≤ l.skew_us) (sym way) (admitted.skews i l row)
      | inr past ↦
          let x = hop past in
          subst (λ w. unwrap_or w 0 ≤ l.skew_us) (sym x.way) (x.skew goes)
    ]

    -- copies that are sent at equal times
    way-allows : (o : SolveOptions) → o.apart ≡ 0 → way_to_system (apart_us o) ss t (row_at k l) ≤ l.skew_us
    way-allows o none =
        let nothing : apart_us o ≤ 0 = div_ceil-least o.apart 1000 0 (omega arith) (omega (arith, none)) in
        by (goes_to_system t l) nothing way-enough
      where
        by : (b : Bool) → apart_us o ≤ 0 → (b ≡ true → unwrap_or (way_latency ss (row_at k l)) 0 ≤ l.skew_us)
            → (if b then unwrap_or (way_latency ss (row_at k l)) 0 + apart_us o else 0) ≤ l.skew_us
        by true nothing h = omega (arith, nothing, h refl)
        by false nothing h = omega arith

    skew-enough : (o : SolveOptions) → way_to_system (apart_us o) ss t (row_at k l) ≤ l.skew_us
        → skew_needed (apart_us o) ss t (row_at k l) ≤ l.skew_us
    unfolding skew_needed
    skew-enough o way = omega (arith, way, admitted.skews i l row)

pub admitted-allow : AdmittedAllow
admitted-allow o ss none are h = record {
  admitted = h;
  apart = λ k i t l at row. way-allows ss are h k t at i l row o none;
}

pub cascade-least : CascadeIsLeast
cascade-least o file solved others least are h may = least.least others (record {
  alike = may.alike;
  buffers = λ k f t at at'.
      may-take o.kept.buffer o.raise_only f.buffer t.buffer (least_buffer t) (may.buffers k f t at at')
      (buffer-enough others are h.admitted k t at');
  times = λ k i t f l at row row'.
      let m = may.times k i f l row (link-at others k i t l at row') in
      record {
        jitter = may-take o.kept.jitter o.raise_only f.jitter_us l.jitter_us (jitter_needed others t (row_at k l))
            m.jitter
            (jitter-enough others are h.admitted k t at i l row');
        latency = may-take o.kept.latency o.raise_only f.latency_us l.latency_us (latency_needed t l) m.latency
            (latency-enough others are h.admitted k t at i l row');
        skew = may-take o.kept.skew o.raise_only f.skew_us l.skew_us
            (skew_needed (apart_us o) others t (row_at k l)) m.skew
            (skew-enough others are h.admitted k t at i l row' o (h.apart k i t l at row'));
      };
})

-- ---- one least solution

solution-enough : (o : SolveOptions) (file ss : List NamedRows) → IsSolution o file ss → IsEnough o file ss
solution-enough o file ss h = record {
  alike = h.alike;
  buffers = λ k f t at at'. omega (arith, h.buffers k f t at at');
  times = λ k i t f l at row row'. let x = h.times k i t f l at row row' in record {
    jitter = omega (arith, x.jitter);
    latency = omega (arith, x.latency);
    skew = omega (arith, x.skew);
  };
}

link-same : (l m : LinkRow) → bare_link l ≡ bare_link m → AreTimesAtMost l m → AreTimesAtMost m l → m ≡ l
link-same l m same d e =
    let jitter : m.jitter_us ≡ l.jitter_us = omega (arith, d.jitter, e.jitter) in
    let latency : m.latency_us ≡ l.latency_us = omega (arith, d.latency, e.latency) in
    let skew : m.skew_us ≡ l.skew_us = omega (arith, d.skew, e.skew) in
    ap (λ (b : LinkRow). record b { jitter_us = m.jitter_us; latency_us = m.latency_us; skew_us = m.skew_us })
    (sym same)
    ∙ ap (λ n. record l { jitter_us = n; latency_us = m.latency_us; skew_us = m.skew_us }) jitter
    ∙ ap (λ n. record l { latency_us = n; skew_us = m.skew_us }) latency
    ∙ ap (λ n. record l { skew_us = n }) skew

one-solution : (a b : List NamedRows) → AreAlike a b → AreAtMost a b → AreAtMost b a → b ≡ a
one-solution a b alike d e = same_from_all_zip Same a b (zip-from bare_switch Same a b alike switch) (λ s v h. h)
  where
    Same : NamedRows → NamedRows → Type 0
    Same s v = v ≡ s

    SameLink : LinkRow → LinkRow → Type 0
    SameLink l m = m ≡ l

    switch : (k : ℕ) (s v : NamedRows) → slice_get a k ≡ Some s → slice_get b k ≡ Some v
        → bare_switch s ≡ bare_switch v → v ≡ s
    switch k s v at at' same =
        let at_a = ap (option_map (λ (r : NamedRows). r.rows)) at in
        let at_b = ap (option_map (λ (r : NamedRows). r.rows)) at' in
        let buffer : v.rows.buffer ≡ s.rows.buffer =
        omega (arith, d.buffers k s.rows v.rows at_a at_b, e.buffers k v.rows s.rows at_b at_a) in
        let links : v.rows.links ≡ s.rows.links =
        same_from_all_zip SameLink s.rows.links v.rows.links
        (zip-from bare_link SameLink s.rows.links v.rows.links (ap (λ (r : NamedRows). r.rows.links) same)
        (λ i l m row row' is.
        let row_a = link-at a k i s.rows l at_a row in
        let row_b = link-at b k i v.rows m at_b row' in
        link-same l m is (d.times k i l m row_a row_b) (e.times k i m l row_b row_a))) (λ l m h. h) in
        ap (λ (r : NamedRows). named_rows r.name (record r.rows { buffer = v.rows.buffer; links = v.rows.links }))
        (sym same)
        ∙ ap (λ n. named_rows s.name (record s.rows { buffer = n; links = v.rows.links })) buffer
        ∙ ap (λ ls. named_rows s.name (record s.rows { links = ls })) links

pub least-one : LeastIsOne
least-one o file a b d e =
    sym (one-solution a b (sym d.solution.alike ∙ e.solution.alike)
    (d.least b (solution-enough o file b e.solution)) (e.least a (solution-enough o file a d.solution)))
