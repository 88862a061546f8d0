-- Where any values that the keys may have are admitted, the least solution is.
use Rattle.std.proofs.Common.{◌≡◌, inl, inr, ◌⊎◌, ℕ, ◌+◌, ◌*◌, ◌-◌, ◌<◌, ◌≤◌, min, max, Bool, true, false}
use Rattle.std.proofs.Common.{List, length, Option, Some, None, slice_get, nat_lt, if◌then◌else◌}
use Rattle.std.proofs.Common.{refl, sym, ap, ◌∙◌, subst, arith, Contains, option_map, option_and_then}
use Rattle.std.specs.Int.{div_ceil}
use Rattle.std.specs.List.{AllZip}
use Rattle.std.specs.Option.{option_map_or, unwrap_or}
use Rattle.std.proofs.lemmas.Bool.{lt-ltb}
use Rattle.std.proofs.lemmas.Bool.Decides.{nat_tests}
use Rattle.std.proofs.lemmas.List.Elements.{All-contains, All-from_recursion}
use Rattle.afdx_frame.specs.declared.link.Priority.TheVariants.{High, Low}
use Rattle.afdx_frame.specs.Regulation.{byte_units}
use Rattle.afdx_frame.specs.Flows.{IsPortAdmitted, high_load, high_wait, low_wait}
use Rattle.afdx_frame.proofs.ListLemmas.{AllByRecursion-slice_get}
use Rattle.afdx_config.specs.Rows.{SystemRow, LinkRow, Rows, is_to}
use Rattle.afdx_config.specs.Flows.{flow_of_link}
use Rattle.afdx_config.specs.Lawful.{IsLinkUpTo, IsLawfulSwitch, IsSystem, jitter_from_any}
use Rattle.afdx_config.specs.Admission.{IsAdmitted, byte_ns, flows_to, links_from, sender_jitter}
use Rattle.afdx_config.specs.Switches.{NamedRows, AreSwitches, switch_named, neighbour_named}
use Rattle.afdx_config.specs.AtSwitch.{tables_at}
use Rattle.afdx_config.specs.ChangedSwitches.{bare, AreAlike}
use Rattle.afdx_admit.specs.Lines.{jitter_at}
use Rattle.afdx_solve.specs.declared.options.SolveOptions.{SolveOptions}
use Rattle.afdx_solve.specs.Solved.{least_buffer, least_jitter, delay_to, greatest_need, apart_us}
use Rattle.afdx_admit.specs.Cascade.{RowAt, row_at, row_of, row_before, way_latency, late_behind, same_contract}
use Rattle.afdx_admit.specs.Cascade.{goes_to_system, is_neighbour, comes_from, reads_at, reads, IsHop, IsCascadeAdmitted}
use Rattle.afdx_admit.proofs.OutputLemmas.{left_some_at, rates_some}
use Rattle.afdx_admit.proofs.SmallLemmas.{is_rate}
use Rattle.afdx_solve.specs.SolvedCascade.{late_before, jitter_needed, latency_needed, skew_needed, way_to_system, AreAtMost}
use Rattle.afdx_solve.specs.SolvedCascade.{MayStandFor, IsAdmittedApart, IsLeastSolution, LeastIsAdmitted}
use Rattle.afdx_solve.proofs.LeastLemmas.{jitter_at-stands, low_stands}
use Rattle.afdx_solve.proofs.ZipLemmas.{OptionZip, zip-get, zip-there, zip-back, zip-test}
use Rattle.afdx_solve.proofs.WayRiseLemmas.{SwitchRises, RowAtRises, all-rise, row_of-rises, before-rises, way-rises}
use Rattle.afdx_solve.proofs.WayRiseLemmas.{switch_named-same}
use Rattle.afdx_solve.proofs.AtLemmas.{link-at, alike-tables, alike-link}
use Rattle.afdx_solve.proofs.BeginLemmas.{lawful-at}
use Rattle.afdx_solve.proofs.CascadeLeastLemmas.{flow_stands, cascade-least}
use Rattle.afdx_solve.proofs.RiseLemmas.{LinkRises, jitter_at-same, RowsRise}
use Rattle.afdx_solve.proofs.FitLemmas.{kept-or, cut-or, of-div_ceil, all-flows, load-fits, buffer-fits, high-fits, low-fits}
use Rattle.afdx_solve.proofs.FitLemmas.{latency-or}

-- ---- the same at both

module _ (a b : List NamedRows) (alike : AreAlike a b) (rise : AllZip SwitchRises a b) where
  -- what stands before a row, and the sum of its way
  pub before-there : (r q p : RowAt) → RowAtRises r q → row_before b q ≡ Some p
      → (x : RowAt) × (row_before a r ≡ Some x) × RowAtRises x p
  before-there r q p h e = zip-back RowAtRises (row_before a r) (row_before b q) p (before-rises a b alike rise r q h) e

  pub way-there : (r q : RowAt) (sum : ℕ) → RowAtRises r q → way_latency b q ≡ Some sum
      → (x : ℕ) × (way_latency a r ≡ Some x) × (x ≤ sum)
  way-there r q sum h e = zip-back (λ x y. x ≤ y) (way_latency a r) (way_latency b q) sum
      (way-rises a b alike rise r q h) e

  comes-same : (t u : Rows) → RowsRise t u → (name : List ℕ) (vl : ℕ) → comes_from t name vl ≡ comes_from u name vl
  unfolding neighbour_named
  comes-same t u h name vl = zip-test LinkRises (λ l. is_neighbour t name l.from) (λ l. is_neighbour u name l.from)
      (λ l m r. ap (λ (x : Rows). is_neighbour x name l.from) h.bare
      ∙ ap (λ (x : LinkRow). is_neighbour u name x.from) r.bare)
      (row_of t vl) (row_of u vl) (row_of-rises t u h vl)

  reads_at-same : (name : List ℕ) (vl : ℕ) (e : SystemRow) → reads_at a name vl e ≡ reads_at b name vl e
  reads_at-same name vl e =
      zip-test SwitchRises (λ (s : NamedRows). comes_from s.rows name vl) (λ (s : NamedRows). comes_from s.rows name vl)
      (λ s v h. comes-same s.rows v.rows h.rows name vl) (option_and_then (slice_get a) (switch_named a e.name))
      (option_and_then (slice_get b) (switch_named b e.name))
      (subst (λ o. OptionZip SwitchRises (option_and_then (slice_get a) (switch_named a e.name))
      (option_and_then (slice_get b) o))
      (switch_named-same a b alike rise e.name) (by (switch_named a e.name)))
    where
      by : (o : Option ℕ) → OptionZip SwitchRises (option_and_then (slice_get a) o) (option_and_then (slice_get b) o)
      by None = tt
      by (Some j) = zip-get SwitchRises a b rise j

  pub reads-same : (s v : NamedRows) → SwitchRises s v → (l m : LinkRow) → LinkRises l m → (place : ℕ)
      → reads a s l place ≡ reads b v m place
  reads-same s v h l m r place =
      or-tests (reads_at a s.name l.vl) (reads_at b s.name l.vl) (reads_at-same s.name l.vl)
      (slice_get s.rows.systems place)
      ∙ ap (λ n. option_map_or (reads_at b n l.vl) (slice_get s.rows.systems place) false) h.name
      ∙ ap (λ (x : LinkRow). option_map_or (reads_at b v.name x.vl) (slice_get s.rows.systems place) false) r.bare
      ∙ ap (λ (x : Rows). option_map_or (reads_at b v.name m.vl) (slice_get x.systems place) false) h.rows.bare
    where
      or-tests : (f g : SystemRow → Bool) → ((e : SystemRow) → f e ≡ g e) → (o : Option SystemRow)
          → option_map_or f o false ≡ option_map_or g o false
      or-tests f g same None = refl
      or-tests f g same (Some e) = same e

-- ---- a switch, of those that are solved for, and of others

module _ (o : SolveOptions) (file solved others : List NamedRows) (least : IsLeastSolution o file solved)
    (fine : AreSwitches solved) (are : AreSwitches others) (allowed : IsAdmittedApart o others)
    (may : MayStandFor o file others) where
  h : IsCascadeAdmitted others
  h = allowed.admitted

  more : AreAtMost solved others
  more = cascade-least o file solved others least are allowed may

  alike : AreAlike solved others
  alike = sym least.solution.alike ∙ may.alike

  all : AllZip SwitchRises solved others
  all = all-rise solved others alike more

  module _ (k : ℕ) (s : NamedRows) (at : slice_get solved k ≡ Some s) where
    abbrev there : (v : NamedRows) × (slice_get others k ≡ Some v) × SwitchRises s v
    there = zip-there SwitchRises (slice_get solved k) (slice_get others k) s
        (zip-get SwitchRises solved others all k) at

    abbrev t : Rows
    t = s.rows

    abbrev u : Rows
    u = there.0.rows

    abbrev rise : RowsRise t u
    rise = there.2.rows

    abbrev at_t : tables_at solved k ≡ Some t
    at_t = ap (option_map (λ (r : NamedRows). r.rows)) at

    abbrev at_u : tables_at others k ≡ Some u
    at_u = ap (option_map (λ (r : NamedRows). r.rows)) there.1

    lawful : IsLawfulSwitch t
    lawful = lawful-at solved fine k t at_t

    lawful_u : IsLawfulSwitch u
    lawful_u = lawful-at others are k u at_u

    admitted : IsAdmitted u
    admitted = h.each k there.0 there.1

    abbrev f : (x : Rows) × (tables_at file k ≡ Some x) × (bare t ≡ bare x)
    f = alike-tables solved file (sym least.solution.alike) k t at_t

    ends : t.systems ≡ u.systems
    ends = ap (λ (r : Rows). r.systems) rise.bare

    own : t.own ≡ u.own
    own = ap (λ (r : Rows). r.own) rise.bare

    -- a row, with those in the others and in the file
    record Row (i : ℕ) (l : LinkRow) : Type 0 where
      m : LinkRow
      row : slice_get t.links i ≡ Some l
      row_u : slice_get u.links i ≡ Some m
      rises : LinkRises l m
      link : IsLinkUpTo jitter_from_any (length t.systems) l
      link_u : IsLinkUpTo jitter_from_any (length u.systems) m
      jitter : (l.jitter_us ≡ m.jitter_us) ⊎ (jitter_needed solved t (row_at k l) ≤ l.jitter_us)
      latency : (l.latency_us ≡ m.latency_us) ⊎ (latency_needed t l ≤ l.latency_us)
      skew : (l.skew_us ≡ m.skew_us) ⊎ (skew_needed (apart_us o) solved t (row_at k l) ≤ l.skew_us)

    row-of : (i : ℕ) (l : LinkRow) → slice_get t.links i ≡ Some l → Row i l
    row-of i l row =
        let m = zip-there LinkRises (slice_get t.links i) (slice_get u.links i) l
        (zip-get LinkRises t.links u.links rise.links i) row in
        let there_l = link-at solved k i t l at_t row in
        let g = alike-link solved file (sym least.solution.alike) k i l there_l in
        let x = least.solution.times k i t g.0 l at_t g.1 row in
        let y = may.times k i g.0 m.0 g.1 (link-at others k i u m.0 at_u m.1) in
        record {
          m = m.0;
          row = row;
          row_u = m.1;
          rises = m.2;
          link = AllByRecursion-slice_get (IsLinkUpTo jitter_from_any (length t.systems)) t.links i l
              lawful.links.each row;
          link_u = AllByRecursion-slice_get (IsLinkUpTo jitter_from_any (length u.systems)) u.links i m.0
              lawful_u.links.each m.1;
          jitter = kept-or o.kept.jitter o.raise_only g.0.jitter_us (jitter_needed solved t (row_at k l)) l.jitter_us
              m.0.jitter_us x.jitter y.jitter;
          latency = kept-or o.kept.latency o.raise_only g.0.latency_us (latency_needed t l) l.latency_us
              m.0.latency_us x.latency y.latency;
          skew = kept-or o.kept.skew o.raise_only g.0.skew_us (skew_needed (apart_us o) solved t (row_at k l)) l.skew_us
              m.0.skew_us x.skew y.skew;
        }

    buffer-or : (t.buffer ≡ u.buffer) ⊎ (greatest_need t (length t.systems) ≤ t.buffer)
    buffer-or = elim (kept-or o.kept.buffer o.raise_only f.0.buffer (least_buffer t) t.buffer u.buffer
        (least.solution.buffers k f.0 t f.1 at_t) (may.buffers k f.0 u f.1 at_u)) [
          | inl same ↦ inl same
          | inr enough ↦ elim (cut-or 4194304 (max 64 (greatest_need t (length t.systems))) t.buffer u.buffer enough
              (more.buffers k t u at_t at_u) lawful_u.buffer.1) [
                | inl same ↦ inl same
                | inr needed ↦ inr (omega (arith, needed))
              ]
        ]

    port : (place : ℕ) (e : SystemRow) → slice_get t.systems place ≡ Some e
        → IsPortAdmitted (byte_ns e) t.buffer (flows_to t.links place)
    port place e there_e =
        let there_u : slice_get u.systems place ≡ Some e = ap (λ es. slice_get es place) (sym ends) ∙ there_e in
        let p = admitted.ports place e there_u in
        let ns = byte_ns e in
        let ts = flows_to t.links place in
        let us = flows_to u.links place in
        let system = AllByRecursion-slice_get (IsSystem u.profile) u.systems place e lawful_u.systems.each there_u in
        record {
          no_overload = load-fits t u rise place e there_e p.no_overload;
          fits_buffer = buffer-fits t u rise place e there_e buffer-or p.fits_buffer;
          high_in_time = All-from_recursion (λ x. x.priority ≡ High → high_wait ns ts ≤ x.latency * byte_units) ts
              (all-flows (λ x. x.priority ≡ High → high_wait ns ts ≤ x.latency * byte_units) place t.links
              (λ i l row goes is.
              let x = row-of i l row in
              let goes_u : is_to place x.m ≡ true = ap (is_to place) (sym x.rises.bare) ∙ goes in
              let is_u : x.m.priority ≡ High = ap (λ (r : LinkRow). r.priority) (sym x.rises.bare) ∙ is in
              let soon = All-contains (λ y. y.priority ≡ High → high_wait ns us ≤ y.latency * byte_units) us
              (flow_of_link x.m) p.high_in_time (flow_stands place u.links i x.m x.row_u goes_u) is_u in
              let either = latency-or t u rise place e there_e l x.m goes x.latency x.rises.times.latency
              x.link_u.latency_us.1 in
              high-fits t u rise place e there_e l x.m
              (subst (λ c. (l.latency_us ≡ x.m.latency_us) ⊎ (delay_to t c place ≤ l.latency_us)) is either) soon));
          low_in_time = All-from_recursion (λ x. x.priority ≡ Low
              → low_wait ns ts ≤ x.latency * (byte_units - high_load ns ts)) ts
              (all-flows (λ x. x.priority ≡ Low → low_wait ns ts ≤ x.latency * (byte_units - high_load ns ts)) place
              t.links
              (λ i l row goes is.
              let x = row-of i l row in
              let goes_u : is_to place x.m ≡ true = ap (is_to place) (sym x.rises.bare) ∙ goes in
              let is_u : x.m.priority ≡ Low = ap (λ (r : LinkRow). r.priority) (sym x.rises.bare) ∙ is in
              let soon = All-contains (λ y. y.priority ≡ Low
              → low_wait ns us ≤ y.latency * (byte_units - high_load ns us)) us
              (flow_of_link x.m) p.low_in_time (flow_stands place u.links i x.m x.row_u goes_u) is_u in
              let left = left_some_at ns (is_rate u.profile e.rate system.rate).fast us (flow_of_link x.m)
              (rates_some jitter_from_any (length u.systems) place u.links lawful_u.links.each) p.no_overload
              (low_stands place u.links i x.m x.row_u goes_u is_u) in
              let either = latency-or t u rise place e there_e l x.m goes x.latency x.rises.times.latency
              x.link_u.latency_us.1 in
              low-fits t u rise place e there_e l x.m
              (subst (λ c. (l.latency_us ≡ x.m.latency_us) ⊎ (delay_to t c place ≤ l.latency_us)) is either) left
              soon));
        }

    sender-same : (place : ℕ) (e : SystemRow) → slice_get t.systems place ≡ Some e
        → sender_jitter (byte_ns e) (links_from t.links place) ≡ sender_jitter (byte_ns e) (links_from u.links place)
    sender-same place e there_e =
        let there_u : slice_get u.systems place ≡ Some e = ap (λ es. slice_get es place) (sym ends) ∙ there_e in
        sym (jitter_at-stands t place e there_e) ∙ jitter_at-same t u rise place ∙ jitter_at-stands u place e there_u

    jitter-fits : (i : ℕ) (l : LinkRow) (e : SystemRow) → slice_get t.links i ≡ Some l → slice_get t.systems l.from
        ≡ Some e
        → l.from < t.own → sender_jitter (byte_ns e) (links_from t.links l.from) ≤ 1000 * l.jitter_us
    unfolding jitter_needed
    jitter-fits i l e row there_e from =
        let x = row-of i l row in
        let same_from : l.from ≡ x.m.from = ap (λ (r : LinkRow). r.from) x.rises.bare in
        let bag : l.bag_ms ≡ x.m.bag_ms = ap (λ (r : LinkRow). r.bag_ms) x.rises.bare in
        let there_u : slice_get u.systems x.m.from ≡ Some e =
        ap (λ es. slice_get es x.m.from) (sym ends) ∙ ap (slice_get t.systems) (sym same_from) ∙ there_e in
        let from_u : x.m.from < u.own = omega (arith, from, same_from, own) in
        let other = admitted.jitters i x.m e x.row_u there_u from_u in
        let same : sender_jitter (byte_ns e) (links_from t.links l.from) ≡ sender_jitter (byte_ns e)
        (links_from u.links x.m.from) =
        sender-same l.from e there_e ∙ ap (λ n. sender_jitter (byte_ns e) (links_from u.links n)) same_from in
        elim x.jitter [
          | inl is ↦ omega (arith, same, other, is)
          | inr enough ↦
              let needed = jitter_at t l.from in
              let cut : min (1000 * l.bag_ms) (div_ceil needed 1000) ≤ l.jitter_us =
              subst (λ b. (if b then least_jitter needed l else min (jitter_from_any l.bag_ms)
              (late_before solved (row_at k l)))
              ≤ l.jitter_us) (lt-ltb l.from t.own from) enough in
              let sent_u = lawful_u.sent i x.m x.row_u from_u in
              elim (cut-or (1000 * l.bag_ms) (div_ceil needed 1000) l.jitter_us x.m.jitter_us cut x.rises.times.jitter
              (omega (arith, sent_u, bag))) [
                | inl is ↦ omega (arith, same, other, is)
                | inr rounded ↦
                    let enough_ns = of-div_ceil needed 1000 l.jitter_us (omega arith) rounded in
                    omega (arith, enough_ns, jitter_at-stands t l.from e there_e)
              ]
        ]

    skew-fits : (i : ℕ) (l : LinkRow) → slice_get t.links i ≡ Some l → l.latency_us ≤ l.skew_us
    unfolding skew_needed
    skew-fits i l row =
        let x = row-of i l row in
        elim x.skew [
          | inl is ↦ omega (arith, is, x.rises.times.latency, admitted.skews i x.m x.row_u)
          | inr enough ↦ omega (arith, enough, x.link.latency_us.1)
        ]

    hop-fits : (i : ℕ) (l : LinkRow) → slice_get t.links i ≡ Some l → t.own ≤ l.from → IsHop solved t (row_at k l)
    unfolding jitter_needed skew_needed late_before
    hop-fits i l row past =
        let x = row-of i l row in
        let same_from : l.from ≡ x.m.from = ap (λ (r : LinkRow). r.from) x.rises.bare in
        let bag : l.bag_ms ≡ x.m.bag_ms = ap (λ (r : LinkRow). r.bag_ms) x.rises.bare in
        let other = h.hops k there.0 there.1 i x.m x.row_u (omega (arith, past, same_from, own)) in
        let rises : RowAtRises (row_at k l) (row_at k x.m) = record { switch = refl; row = x.rises } in
        let b = before-there solved others alike all (row_at k l) (row_at k x.m) other.before rises other.stands in
        let way = way-there solved others alike all (row_at k l) (row_at k x.m) other.sum rises other.way in
        let behind : late_behind b.0.row ≤ late_behind other.before.row =
        omega (arith, b.2.row.times.jitter, b.2.row.times.latency) in
        let late : late_before solved (row_at k l) ≡ late_behind b.0.row =
        ap (λ w. option_map_or (λ (sum : ℕ). option_map_or (λ (r : RowAt). late_behind r.row)
        (row_before solved (row_at k l)) 0) w 0) way.1
        ∙ ap (λ o. option_map_or (λ (r : RowAt). late_behind r.row) o 0) b.1 in
        record {
          before = b.0;
          sum = way.0;
          stands = b.1;
          way = way.1;
          contract = ap (λ (r : LinkRow). same_contract r l) b.2.row.bare
              ∙ ap (same_contract other.before.row) x.rises.bare ∙ other.contract;
          jitter = elim x.jitter [
            | inl is ↦ omega (arith, is, behind, other.jitter)
            | inr enough ↦
                let after : nat_lt l.from t.own ≡ false = grind (arith, nat_tests) in
                let cut : min (jitter_from_any l.bag_ms) (late_before solved (row_at k l)) ≤ l.jitter_us =
                subst (λ b. (if b then least_jitter (jitter_at t l.from) l
                else min (jitter_from_any l.bag_ms) (late_before solved (row_at k l))) ≤ l.jitter_us) after enough in
                elim (cut-or (jitter_from_any l.bag_ms) (late_before solved (row_at k l)) l.jitter_us x.m.jitter_us cut
                x.rises.times.jitter (omega (arith, x.link_u.jitter_us.1, bag))) [
                  | inl is ↦ omega (arith, is, behind, other.jitter)
                  | inr needed ↦ omega (arith, needed, late)
                ]
          ];
          skew = λ goes.
              let goes_u : goes_to_system u x.m ≡ true =
              ap (λ (r : LinkRow). goes_to_system u r) (sym x.rises.bare)
              ∙ ap (λ (r : Rows). goes_to_system r l) (sym rise.bare) ∙ goes in
              elim x.skew [
                | inl is ↦ omega (arith, is, way.2, other.skew goes_u)
                | inr enough ↦
                    let sum : way_to_system (apart_us o) solved t (row_at k l) ≡ way.0 + apart_us o =
                    ap (λ b. if b then unwrap_or (way_latency solved (row_at k l)) 0 + apart_us o else 0) goes
                    ∙ ap (λ w. unwrap_or w 0 + apart_us o) way.1 in
                    omega (arith, enough, sum, way.2, other.skew goes_u, x.link_u.skew_us.1)
              ];
        }

    reader-fits : (i : ℕ) (l : LinkRow) → slice_get t.links i ≡ Some l → (place : ℕ) → Contains l.to place
        → t.own ≤ place → reads solved s l place ≡ true
    reader-fits i l row place goes past =
        let x = row-of i l row in
        let goes_u = subst (λ (r : LinkRow). Contains r.to place) x.rises.bare goes in
        reads-same solved others alike all s there.0 there.2 l x.m x.rises place
        ∙ h.readers k there.0 there.1 i x.m x.row_u place goes_u (omega (arith, past, own))

    each-fits : IsAdmitted t
    each-fits = record {
      ports = port;
      senders = λ i e there_e below.
          let there_u : slice_get u.systems i ≡ Some e = ap (λ es. slice_get es i) (sym ends) ∙ there_e in
          omega (arith, sender-same i e there_e, admitted.senders i e there_u (omega (arith, below, own)));
      jitters = λ i l e row there_e from. jitter-fits i l e row there_e from;
      skews = λ i l row. skew-fits i l row;
    }

  pub all-fit : IsCascadeAdmitted solved
  all-fit = record {
    each = λ k s at. each-fits k s at;
    hops = λ k s at i l row past. hop-fits k s at i l row past;
    readers = λ k s at i l row place goes past. reader-fits k s at i l row place goes past;
  }

pub least-admitted : LeastIsAdmitted
least-admitted o file solved others fine least are allowed may =
    all-fit o file solved others least fine are allowed may
