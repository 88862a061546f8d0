-- What a row needs rises with the jitters and latencies of all switches.
use Rattle.std.proofs.Common.{◌≡◌, ℕ, zero, suc, ◌+◌, ◌≤◌, min, Bool, true, false, List, length, Option, Some, None}
use Rattle.std.proofs.Common.{slice_get, option_map, option_and_then, nat_lt, if◌then◌else◌, refl, sym, ap, ◌∙◌, subst, arith}
use Rattle.std.specs.List.{AllZip}
use Rattle.std.specs.Option.{option_map_or, unwrap_or}
use Rattle.std.proofs.lemmas.List.Elements.{length_all_zip}
use Rattle.afdx_config.specs.Rows.{SystemRow, LinkRow, Rows, is_to}
use Rattle.afdx_config.specs.Reading.{link_of}
use Rattle.afdx_config.specs.Lawful.{jitter_from_any}
use Rattle.afdx_config.specs.Switches.{NamedRows, switch_named, neighbour_named}
use Rattle.afdx_config.specs.ChangedSwitches.{bare_link, bare_switch, AreAlike}
use Rattle.afdx_config.proofs.BareLemmas.{link_of-bare, switch_named-bare}
use Rattle.afdx_admit.specs.Cascade.{RowAt, row_at, row_of, neighbour_of, goes_towards, row_towards, row_from, row_before}
use Rattle.afdx_admit.specs.Cascade.{is_sent_here, latency_within, way_latency, late_behind, goes_to_system}
use Rattle.afdx_admit.specs.Lines.{jitter_at}
use Rattle.afdx_solve.specs.declared.options.SolveOptions.{SolveOptions}
use Rattle.afdx_solve.specs.Solved.{apart_us, least_jitter}
use Rattle.afdx_solve.specs.SolvedCascade.{AreAtMost, late_before, jitter_needed, skew_needed, way_to_system}
use Rattle.afdx_solve.proofs.ZipLemmas.{OptionZip, zip-get, zip-then, zip-map, zip-or, zip-from, zip-unwrap}
use Rattle.afdx_solve.proofs.RiseLemmas.{LinkRises, RowsRise, jitter_at-same}

pub record SwitchRises (s v : NamedRows) : Type 0 where
  pub name : s.name ≡ v.name
  pub rows : RowsRise s.rows v.rows

pub record RowAtRises (r q : RowAt) : Type 0 where
  pub switch : r.switch ≡ q.switch
  pub row : LinkRises r.row q.row

-- ---- from place by place

module _ (a b : List NamedRows) (alike : AreAlike a b) (more : AreAtMost a b) where
  -- switches that differ in the four keys alone, each of which isn't less
  pub all-rise : AllZip SwitchRises a b
  all-rise = zip-from bare_switch SwitchRises a b alike (λ k s v at at' same. record {
    name = ap (λ (r : NamedRows). r.name) same;
    rows = record {
      bare = ap (λ (r : NamedRows). r.rows) same;
      links = zip-from bare_link LinkRises s.rows.links v.rows.links (ap (λ (r : NamedRows). r.rows.links) same)
          (λ i l m row row' is. record {
            bare = is;
            times = more.times k i l m (ap (option_and_then (λ (r : NamedRows). slice_get r.rows.links i)) at ∙ row)
                (ap (option_and_then (λ (r : NamedRows). slice_get r.rows.links i)) at' ∙ row');
          });
    };
  })

-- ---- the row before

pub row_of-rises : (t u : Rows) → RowsRise t u → (vl : ℕ) → OptionZip LinkRises (row_of t vl) (row_of u vl)
row_of-rises t u h vl =
    let same : link_of t.links vl ≡ link_of u.links vl =
    sym (link_of-bare t.links vl) ∙ ap (λ (r : Rows). link_of r.links vl) h.bare ∙ link_of-bare u.links vl in
    subst (λ o. OptionZip LinkRises (row_of t vl) (option_and_then (slice_get u.links) o)) same
    (by (link_of t.links vl))
  where
    by : (o : Option ℕ) → OptionZip LinkRises (option_and_then (slice_get t.links) o)
        (option_and_then (slice_get u.links) o)
    by None = tt
    by (Some i) = zip-get LinkRises t.links u.links h.links i

goes_towards-same : (t u : Rows) → RowsRise t u → (name : List ℕ) (l m : LinkRow) → LinkRises l m
    → goes_towards t name l ≡ goes_towards u name m
unfolding neighbour_named
goes_towards-same t u h name l m r =
    ap (λ (x : Rows). option_map_or (λ place. is_to place l) (neighbour_named x name) false) h.bare
    ∙ ap (λ (x : LinkRow). option_map_or (λ place. is_to place x) (neighbour_named u name) false) r.bare

towards-rises : (t u : Rows) → RowsRise t u → (name : List ℕ) (vl : ℕ)
    → OptionZip LinkRises (row_towards t name vl) (row_towards u name vl)
towards-rises t u h name vl =
    zip-then LinkRises LinkRises (λ l. if goes_towards t name l then Some l else None)
    (λ m. if goes_towards u name m then Some m else None)
    (λ l m r. subst (λ b. OptionZip LinkRises (if goes_towards t name l then Some l else None)
    (if b then Some m else None))
    (goes_towards-same t u h name l m r) (by (goes_towards t name l) l m r))
    (row_of t vl) (row_of u vl) (row_of-rises t u h vl)
  where
    by : (b : Bool) (l m : LinkRow) → LinkRises l m
        → OptionZip LinkRises (if b then Some l else None) (if b then Some m else None)
    by true l m r = r
    by false l m r = tt

module _ (a b : List NamedRows) (alike : AreAlike a b) (rise : AllZip SwitchRises a b) where
  pub switch_named-same : (name : List ℕ) → switch_named a name ≡ switch_named b name
  switch_named-same name =
      sym (switch_named-bare a name) ∙ ap (λ ss. switch_named ss name) alike ∙ switch_named-bare b name

  from-rises : (name : List ℕ) (vl : ℕ) (e : SystemRow) → OptionZip RowAtRises (row_from a name vl e)
      (row_from b name vl e)
  from-rises name vl e =
      subst (λ o. OptionZip RowAtRises (row_from a name vl e) (option_and_then (at b) o)) (switch_named-same e.name)
      (by (switch_named a e.name))
    where
      at : List NamedRows → ℕ → Option RowAt
      at ss j = option_and_then (λ (s : NamedRows). option_map (row_at j) (row_towards s.rows name vl)) (slice_get ss j)

      by : (o : Option ℕ) → OptionZip RowAtRises (option_and_then (at a) o) (option_and_then (at b) o)
      by None = tt
      by (Some j) = zip-then SwitchRises RowAtRises
          (λ s. option_map (row_at j) (row_towards s.rows name vl))
          (λ s. option_map (row_at j) (row_towards s.rows name vl))
          (λ s v h. zip-map LinkRises RowAtRises (row_at j) (row_at j)
          (λ l m r. let it : RowAtRises (row_at j l) (row_at j m) = record { switch = refl; row = r } in it)
          (row_towards s.rows name vl) (row_towards v.rows name vl) (towards-rises s.rows v.rows h.rows name vl))
          (slice_get a j) (slice_get b j) (zip-get SwitchRises a b rise j)

  -- of what stands at a place
  abbrev of : List NamedRows → (vl from : ℕ) → NamedRows → Option RowAt
  of ss vl from s = option_and_then (row_from ss s.name vl) (neighbour_of s.rows from)

  of-rises : (vl from : ℕ) (s v : NamedRows) → SwitchRises s v → OptionZip RowAtRises (of a vl from s) (of b vl from v)
  of-rises vl from s v h =
      let there : neighbour_of s.rows from ≡ neighbour_of v.rows from =
      ap (λ (r : Rows). neighbour_of r from) h.rows.bare in
      subst (λ o. OptionZip RowAtRises (of a vl from s) (option_and_then (row_from b v.name vl) o)) there
      (subst (λ n. OptionZip RowAtRises (of a vl from s) (option_and_then (row_from b n vl) (neighbour_of s.rows from)))
      h.name (by (neighbour_of s.rows from)))
    where
      by : (o : Option SystemRow)
          → OptionZip RowAtRises (option_and_then (row_from a s.name vl) o) (option_and_then (row_from b s.name vl) o)
      by None = tt
      by (Some e) = from-rises s.name vl e

  pub before-rises : (r q : RowAt) → RowAtRises r q → OptionZip RowAtRises (row_before a r) (row_before b q)
  unfolding row_before
  before-rises r q h =
      let vl : r.row.vl ≡ q.row.vl = ap (λ (l : LinkRow). l.vl) h.row.bare in
      let from : r.row.from ≡ q.row.from = ap (λ (l : LinkRow). l.from) h.row.bare in
      subst (λ k. OptionZip RowAtRises (row_before a r) (option_and_then (of b q.row.vl q.row.from) (slice_get b k)))
      h.switch
      (subst (λ n. OptionZip RowAtRises (row_before a r) (option_and_then (of b n q.row.from) (slice_get b r.switch)))
      vl
      (subst (λ n. OptionZip RowAtRises (row_before a r) (option_and_then (of b r.row.vl n) (slice_get b r.switch)))
      from
      (zip-then SwitchRises RowAtRises (of a r.row.vl r.row.from) (of b r.row.vl r.row.from)
      (of-rises r.row.vl r.row.from) (slice_get a r.switch) (slice_get b r.switch)
      (zip-get SwitchRises a b rise r.switch))))

  sent-same : (r q : RowAt) → RowAtRises r q → is_sent_here a r ≡ is_sent_here b q
  unfolding is_sent_here
  sent-same r q h =
      let from : r.row.from ≡ q.row.from = ap (λ (l : LinkRow). l.from) h.row.bare in
      by (slice_get a r.switch) (slice_get b r.switch) (zip-get SwitchRises a b rise r.switch)
      ∙ ap (λ n. option_map_or (λ (s : NamedRows). nat_lt n s.rows.own) (slice_get b r.switch) false) from
      ∙ ap (λ k. option_map_or (λ (s : NamedRows). nat_lt q.row.from s.rows.own) (slice_get b k) false) h.switch
    where
      by : (o p : Option NamedRows) → OptionZip SwitchRises o p
          → option_map_or (λ (s : NamedRows). nat_lt r.row.from s.rows.own) o false
          ≡ option_map_or (λ (s : NamedRows). nat_lt r.row.from s.rows.own) p false
      by None None h = refl
      by None (Some y) h = absurd h
      by (Some x) None h = absurd h
      by (Some x) (Some y) h = ap (λ (t : Rows). nat_lt r.row.from t.own) h.rows.bare

  -- ---- the way

  abbrev AtMost : ℕ → ℕ → Type 0
  AtMost x y = x ≤ y

  within-rises : (n : ℕ) (r q : RowAt) → RowAtRises r q → OptionZip AtMost (latency_within n a r) (latency_within n b q)
  within-rises zero r q h = tt
  within-rises (suc n) r q h =
      subst (λ sent. OptionZip AtMost (latency_within (suc n) a r) (if sent then Some q.row.latency_us else
      option_and_then (λ before. option_map (λ sum. sum + q.row.latency_us) (latency_within n b before))
      (row_before b q)))
      (sent-same r q h) (by (is_sent_here a r) (λ x y g. within-rises n x y g))
    where
      sums : (x y : RowAt) → OptionZip AtMost (latency_within n a x) (latency_within n b y)
          → OptionZip AtMost (option_map (λ sum. sum + r.row.latency_us) (latency_within n a x))
          (option_map (λ sum. sum + q.row.latency_us) (latency_within n b y))
      sums x y g = zip-map AtMost AtMost (λ sum. sum + r.row.latency_us) (λ sum. sum + q.row.latency_us)
          (λ c d le. omega (arith, le, h.row.times.latency)) (latency_within n a x) (latency_within n b y) g

      by : (sent : Bool)
          → ((x y : RowAt) → RowAtRises x y → OptionZip AtMost (latency_within n a x) (latency_within n b y))
          → OptionZip AtMost
          (if sent then Some r.row.latency_us else
          option_and_then (λ before. option_map (λ sum. sum + r.row.latency_us) (latency_within n a before))
          (row_before a r))
          (if sent then Some q.row.latency_us else
          option_and_then (λ before. option_map (λ sum. sum + q.row.latency_us) (latency_within n b before))
          (row_before b q))
      by true later = h.row.times.latency
      by false later = zip-then RowAtRises AtMost
          (λ before. option_map (λ sum. sum + r.row.latency_us) (latency_within n a before))
          (λ before. option_map (λ sum. sum + q.row.latency_us) (latency_within n b before))
          (λ x y g. sums x y (later x y g)) (row_before a r) (row_before b q) (before-rises r q h)

  pub way-rises : (r q : RowAt) → RowAtRises r q → OptionZip AtMost (way_latency a r) (way_latency b q)
  unfolding way_latency
  way-rises r q h = subst (λ n. OptionZip AtMost (way_latency a r) (latency_within n b q))
      (length_zip a b rise) (within-rises (length a) r q h)
    where
      length_zip : (xs ys : List NamedRows) → AllZip SwitchRises xs ys → length xs ≡ length ys
      length_zip = length_all_zip SwitchRises

  late-rises : (r q : RowAt) → RowAtRises r q → late_before a r ≤ late_before b q
  unfolding late_before
  late-rises r q h = zip-or AtMost
      (λ sum. option_map_or (λ before. late_behind before.row) (row_before a r) 0)
      (λ sum. option_map_or (λ before. late_behind before.row) (row_before b q) 0) 0
      (λ x y le. zip-or RowAtRises (λ before. late_behind before.row) (λ before. late_behind before.row) 0
      (λ c d g. omega (arith, g.row.times.jitter, g.row.times.latency))
      (row_before a r) (row_before b q) (before-rises r q h))
      (way_latency a r) (way_latency b q) (way-rises r q h)

  module _ (t u : Rows) (rows : RowsRise t u) (r q : RowAt) (h : RowAtRises r q) where
    pub jitter-rises : jitter_needed a t r ≤ jitter_needed b u q
    unfolding jitter_needed
    jitter-rises =
        let from : r.row.from ≡ q.row.from = ap (λ (l : LinkRow). l.from) h.row.bare in
        let bag : r.row.bag_ms ≡ q.row.bag_ms = ap (λ (l : LinkRow). l.bag_ms) h.row.bare in
        let test : nat_lt r.row.from t.own ≡ nat_lt q.row.from u.own =
        ap (λ n. nat_lt n t.own) from ∙ ap (λ (x : Rows). nat_lt q.row.from x.own) rows.bare in
        let sender : jitter_at t r.row.from ≡ jitter_at u q.row.from =
        ap (jitter_at t) from ∙ jitter_at-same t u rows q.row.from in
        let least : least_jitter (jitter_at t r.row.from) r.row ≡ least_jitter (jitter_at u q.row.from) q.row =
        ap (λ n. least_jitter n r.row) sender ∙ ap (λ (l : LinkRow). least_jitter (jitter_at u q.row.from) l)
        h.row.bare in
        subst (λ c. jitter_needed a t r ≤ (if c then least_jitter (jitter_at u q.row.from) q.row
        else min (jitter_from_any q.row.bag_ms) (late_before b q))) test
        (by (nat_lt r.row.from t.own) (omega (arith, least)) (omega (arith, bag, late-rises r q h)))
      where
        by : (c : Bool) {x y z w : ℕ} → x ≤ y → z ≤ w → (if c then x else z) ≤ (if c then y else w)
        by true one two = one
        by false one two = two

    pub skew-rises : (o : SolveOptions) → skew_needed (apart_us o) a t r ≤ skew_needed (apart_us o) b u q
    unfolding skew_needed
    skew-rises o =
        let goes : goes_to_system t r.row ≡ goes_to_system u q.row =
        ap (λ (l : LinkRow). goes_to_system t l) h.row.bare ∙ ap (λ (x : Rows). goes_to_system x q.row) rows.bare in
        let way = zip-unwrap (way_latency a r) (way_latency b q) (way-rises r q h) in
        let more : unwrap_or (way_latency a r) 0 + apart_us o ≤ unwrap_or (way_latency b q) 0 + apart_us o =
        omega (arith, way) in
        let whole : way_to_system (apart_us o) a t r ≤ way_to_system (apart_us o) b u q =
        subst (λ c. way_to_system (apart_us o) a t r
        ≤ (if c then unwrap_or (way_latency b q) 0 + apart_us o else 0)) goes
        (by (goes_to_system t r.row) more) in
        omega (arith, whole, h.row.times.latency)
      where
        by : (c : Bool) {x y : ℕ} → x ≤ y → (if c then x else 0) ≤ (if c then y else 0)
        by true le = le
        by false le = omega arith
