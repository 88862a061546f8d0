-- Values that were raised to what they need, or to less, are still at or below all that are enough.
use Rattle.std.proofs.Common.{◌≡◌, ℕ, zero, suc, ◌+◌, ◌-◌, ◌<◌, ◌≤◌, Bool, true, false, ◌||◌, List, [], ◌∷◌}
use Rattle.std.proofs.Common.{Some, slice_get, refl, sym, ap, ◌∙◌, arith}
use Rattle.std.proofs.lemmas.Option.{same_Some}
use Rattle.afdx_frame.specs.Lengths.{greatest_buffer}
use Rattle.afdx_config.specs.declared.rows.Times.{Times}
use Rattle.afdx_config.specs.Rows.{LinkRow, Rows}
use Rattle.afdx_config.specs.Changed.{with_times, changed_at}
use Rattle.afdx_config.specs.Switches.{NamedRows, named_rows}
use Rattle.afdx_config.specs.AtSwitch.{tables_at, link_at}
use Rattle.afdx_config.specs.ChangedSwitches.{changed_switch, with_times_at, with_buffer_at, AreAlike}
use Rattle.afdx_admit.specs.Cascade.{row_at}
use Rattle.afdx_admit.proofs.CascadeLemmas.{with_tables}
use Rattle.afdx_solve.specs.declared.options.SolveOptions.{SolveOptions}
use Rattle.afdx_solve.specs.Solved.{apart_us, chosen, least_buffer}
use Rattle.afdx_solve.specs.SolvedCascade.{jitter_needed, latency_needed, skew_needed}
use Rattle.afdx_solve.specs.SolvedCascade.{AreAtMost, AreTimesAtMost}
use Rattle.afdx_solve.specs.Raising.{begun, IsNoLessThanBegun, IsRising, left_of, left_at, left, Raises}
use Rattle.afdx_solve.proofs.ZipLemmas.{zip-at}
use Rattle.afdx_solve.proofs.RiseLemmas.{LinkRises, RowsRise, latency-rises, buffer-rises}
use Rattle.afdx_solve.proofs.WayRiseLemmas.{SwitchRises, RowAtRises, all-rise, jitter-rises, skew-rises}
use Rattle.afdx_solve.proofs.AtLemmas.{link-at, at-link, alike-tables, alike-link}

-- ---- what a key takes

pub chosen-rises : (keep raise : Bool) (as_is n m : ℕ) → n ≤ m → chosen keep raise as_is n ≤ chosen keep raise as_is m
chosen-rises true raise as_is n m h = omega arith
chosen-rises false true as_is n m h = omega (arith, h)
chosen-rises false false as_is n m h = h

-- one that is raised from what it has isn't less, and isn't more than it takes
pub raised-more : (keep : Bool) (value n : ℕ) → value ≤ chosen keep true value n
raised-more true value n = omega arith
raised-more false value n = omega arith

pub raised-takes : (keep raise : Bool) (file value n m : ℕ) → value ≤ chosen keep raise file m → n ≤ m
    → chosen keep true value n ≤ chosen keep raise file m
raised-takes true raise file value n m h le = h
raised-takes false true file value n m h le = omega (arith, h, le)
raised-takes false false file value n m h le = omega (arith, h, le)

-- one that has what it needs has what it takes
pub settled-takes : (keep raise : Bool) (file low value n : ℕ) → chosen keep raise file low ≤ value
    → value ≤ chosen keep raise file n → chosen keep true value n ≤ value → value ≡ chosen keep raise file n
settled-takes true raise file low value n from to h = omega (arith, from, to)
settled-takes false true file low value n from to h = omega (arith, from, to, h)
settled-takes false false file low value n from to h = omega (arith, from, to, h)

-- ---- what is needed rises

pub times-trans : (l m n : LinkRow) → AreTimesAtMost l m → AreTimesAtMost m n → AreTimesAtMost l n
times-trans l m n d e = record {
  jitter = omega (arith, d.jitter, e.jitter);
  latency = omega (arith, d.latency, e.latency);
  skew = omega (arith, d.skew, e.skew);
}

pub record NeedsRise (a b : List NamedRows) (t u : Rows) (k : ℕ) (l m : LinkRow) : Type 0 where
  pub jitter : jitter_needed a t (row_at k l) ≤ jitter_needed b u (row_at k m)
  pub latency : latency_needed t l ≤ latency_needed u m
  pub skew : (o : SolveOptions) → skew_needed (apart_us o) a t (row_at k l) ≤ skew_needed (apart_us o) b u (row_at k m)

module _ (a b : List NamedRows) (alike : AreAlike a b) (more : AreAtMost a b) (k : ℕ) (t u : Rows)
    (at : tables_at a k ≡ Some t) (at' : tables_at b k ≡ Some u) where
  pub rows-rise : RowsRise t u
  rows-rise =
      let s = with_tables (slice_get a k) t at in
      let v = with_tables (slice_get b k) u at' in
      (zip-at SwitchRises a b (all-rise a b alike more) k (named_rows s.0 t) (named_rows v.0 u) s.1 v.1).rows

  pub need-rises : least_buffer t ≤ least_buffer u
  need-rises = buffer-rises t u rows-rise

  pub times-rise : (i : ℕ) (l m : LinkRow) → slice_get t.links i ≡ Some l → slice_get u.links i ≡ Some m
      → NeedsRise a b t u k l m
  times-rise i l m row row' =
      let rises = zip-at LinkRises t.links u.links rows-rise.links i l m row row' in
      let there : RowAtRises (row_at k l) (row_at k m) = record { switch = refl; row = rises } in
      let all = all-rise a b alike more in
      record {
        jitter = jitter-rises a b alike all t u rows-rise (row_at k l) (row_at k m) there;
        latency = latency-rises t u rows-rise l m rises;
        skew = λ o. skew-rises a b alike all t u rows-rise (row_at k l) (row_at k m) there o;
      }

-- ---- a step

pub record TimesTaken (o : SolveOptions) (old : List NamedRows) (s : Rows) (f : LinkRow) (k : ℕ)
    (l m : LinkRow) : Type 0 where
  pub jitter : m.jitter_us ≤ chosen o.kept.jitter o.raise_only f.jitter_us (jitter_needed old s (row_at k l))
  pub latency : m.latency_us ≤ chosen o.kept.latency o.raise_only f.latency_us (latency_needed s l)
  pub skew : m.skew_us ≤ chosen o.kept.skew o.raise_only f.skew_us (skew_needed (apart_us o) old s (row_at k l))

-- each key of the new switches is at most what it takes by the old ones
pub record AreTaken (o : SolveOptions) (file old new : List NamedRows) : Type 0 where
  pub buffers : (k : ℕ) (f s u : Rows) → tables_at file k ≡ Some f → tables_at old k ≡ Some s → tables_at new k ≡ Some u
      → u.buffer ≤ chosen o.kept.buffer o.raise_only f.buffer (least_buffer s)
  pub times : (k i : ℕ) (s : Rows) (f l m : LinkRow) → tables_at old k ≡ Some s → link_at file k i ≡ Some f
      → slice_get s.links i ≡ Some l → link_at new k i ≡ Some m
      → TimesTaken o old s f k l m

module _ (o : SolveOptions) (file old new : List NamedRows) (h : IsRising o file old) (alike : AreAlike old new)
    (more : AreAtMost old new) (taken : AreTaken o file old new) where
  new-from : IsNoLessThanBegun o file new
  new-from = record {
    buffers = λ k f u at at'.
        let s = alike-tables new old (sym alike) k u at' in
        omega (arith, h.from.buffers k f s.0 at s.1, more.buffers k s.0 u s.1 at');
    times = λ k i f m row row'.
        let l = alike-link new old (sym alike) k i m row' in
        times-trans (begun o f) l.0 m (h.from.times k i f l.0 row l.1) (more.times k i l.0 m l.1 row');
  }

  -- what is at most taken by the old ones, by others that are no less
  module _ (others : List NamedRows) (like : AreAlike old others) (above : AreAtMost old others) where
    buffer-by : (k : ℕ) (f u v : Rows) → tables_at file k ≡ Some f → tables_at new k ≡ Some u
        → tables_at others k ≡ Some v
        → u.buffer ≤ chosen o.kept.buffer o.raise_only f.buffer (least_buffer v)
    buffer-by k f u v at at' at'' =
        let s = alike-tables new old (sym alike) k u at' in
        omega (
          arith,
          taken.buffers k f s.0 u at s.1 at',
          chosen-rises o.kept.buffer o.raise_only f.buffer (least_buffer s.0) (least_buffer v)
              (need-rises old others like above k s.0 v s.1 at''),
        )

    times-by : (k i : ℕ) (v : Rows) (f m n : LinkRow) → tables_at others k ≡ Some v → link_at file k i ≡ Some f
        → link_at new k i ≡ Some m → slice_get v.links i ≡ Some n → TimesTaken o others v f k n m
    times-by k i v f m n at row row' row'' =
        let l = alike-link new old (sym alike) k i m row' in
        let s = at-link old k i l.0 l.1 in
        let x = taken.times k i s.0 f l.0 m s.1 row s.2 row' in
        let y = times-rise old others like above k s.0 v s.1 at i l.0 n s.2 row'' in
        record {
          jitter = omega (
            arith,
            x.jitter,
            chosen-rises o.kept.jitter o.raise_only f.jitter_us
                (jitter_needed old s.0 (row_at k l.0)) (jitter_needed others v (row_at k n)) y.jitter,
          );
          latency = omega (
            arith,
            x.latency,
            chosen-rises o.kept.latency o.raise_only f.latency_us
                (latency_needed s.0 l.0) (latency_needed v n) y.latency,
          );
          skew = omega (
            arith,
            x.skew,
            chosen-rises o.kept.skew o.raise_only f.skew_us
                (skew_needed (apart_us o) old s.0 (row_at k l.0))
                (skew_needed (apart_us o) others v (row_at k n)) (y.skew o),
          );
        }

  pub step : IsRising o file new
  step = record {
    from = new-from;
    to = record {
      alike = h.to.alike ∙ alike;
      buffers = λ k f u at at'. buffer-by new alike more k f u u at at' at';
      times = λ k i u f m at row row'.
          let x = times-by new alike more k i u f m m at row (link-at new k i u m at row') row' in
          record { jitter = x.jitter; latency = x.latency; skew = x.skew };
    };
    least = λ others enough.
        let like : AreAlike old others = sym h.to.alike ∙ enough.alike in
        let above = h.least others enough in
        record {
          buffers = λ k u v at at'.
              let s = alike-tables new old (sym alike) k u at in
              let f = alike-tables old file (sym h.to.alike) k s.0 s.1 in
              omega (arith, buffer-by others like above k f.0 u v f.1 at at', enough.buffers k f.0 v f.1 at');
          times = λ k i m n row row'.
              let l = alike-link new old (sym alike) k i m row in
              let f = alike-link old file (sym h.to.alike) k i l.0 l.1 in
              let v = at-link others k i n row' in
              let x = times-by others like above k i v.0 f.0 m n v.1 f.1 row v.2 in
              let y = enough.times k i v.0 f.0 n v.1 f.1 v.2 in
              record {
                jitter = omega (arith, x.jitter, y.jitter);
                latency = omega (arith, x.latency, y.latency);
                skew = omega (arith, x.skew, y.skew);
              };
        };
  }

-- ---- none raised, and several steps

most-trans : (a b c : List NamedRows) → AreAlike a b → AreAtMost a b → AreAtMost b c → AreAtMost a c
most-trans a b c alike d e = record {
  buffers = λ k s u at at'.
      let t = alike-tables a b alike k s at in
      omega (arith, d.buffers k s t.0 at t.1, e.buffers k t.0 u t.1 at');
  times = λ k i l n row row'.
      let m = alike-link a b alike k i l row in
      times-trans l m.0 n (d.times k i l m.0 row m.1) (e.times k i m.0 n m.1 row');
}

pub raises-then : (o : SolveOptions) (a b c : List NamedRows) (r q : Bool) → Raises o a b r → Raises o b c q
    → Raises o a c (r || q)
raises-then o a b c r q d e = record {
  alike = d.alike ∙ e.alike;
  more = most-trans a b c d.alike d.more e.more;
  rising = λ file h. e.rising file (d.rising file h);
  less = λ h. less r q d e h;
  same = λ h. same r q d e h;
}
  where
    no-more : (q : Bool) → Raises o b c q → left c ≤ left b
    no-more true e = omega (arith, e.less refl)
    no-more false e = omega (arith, ap left (e.same refl))

    less : (r q : Bool) → Raises o a b r → Raises o b c q → r || q ≡ true → left c < left a
    less true q d e h = omega (arith, d.less refl, no-more q e)
    less false q d e h = omega (arith, e.less h, ap left (d.same refl))

    same : (r q : Bool) → Raises o a b r → Raises o b c q → r || q ≡ false → c ≡ a
    same true q d e h = absurd (cc h)
    same false q d e h = e.same h ∙ d.same refl

-- ---- what is left

left-times-at : (times : Times) (ls : List LinkRow) (i : ℕ) (l : LinkRow) → slice_get ls i ≡ Some l
    → left_at (changed_at i times ls) + left_of l ≡ left_at ls + left_of (with_times times l)
unfolding changed_at
left-times-at times [] i l at = absurd (cc at)
left-times-at times (x ∷ ls) zero l at =
    let same = same_Some x l at in
    omega (arith, ap left_of same, ap (λ r. left_of (with_times times r)) same)
left-times-at times (x ∷ ls) (suc i) l at = omega (arith, left-times-at times ls i l at)

pub left-times : (times : Times) (ss : List NamedRows) (k i : ℕ) (l : LinkRow) → link_at ss k i ≡ Some l
    → left (with_times_at k i times ss) + left_of l ≡ left ss + left_of (with_times times l)
unfolding left changed_switch
left-times times [] k i l at = absurd (cc at)
left-times times (s ∷ ss) zero i l at = omega (arith, left-times-at times s.rows.links i l at)
left-times times (s ∷ ss) (suc k) i l at = omega (arith, left-times times ss k i l at)

pub left-buffer : (buffer : ℕ) (ss : List NamedRows) (k : ℕ) (t : Rows) → tables_at ss k ≡ Some t
    → left (with_buffer_at k buffer ss) + (greatest_buffer - t.buffer) ≡ left ss + (greatest_buffer - buffer)
unfolding left changed_switch
left-buffer buffer [] k t at = absurd (cc at)
left-buffer buffer (s ∷ ss) zero t at = omega (arith, ap (λ (r : Rows). r.buffer) (same_Some s.rows t at))
left-buffer buffer (s ∷ ss) (suc k) t at = omega (arith, left-buffer buffer ss k t at)
