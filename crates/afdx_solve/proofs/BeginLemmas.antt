-- Switches whose keys begin at their least.
use Rattle.std.proofs.Common.{◌≡◌, ℕ, zero, suc, ◌+◌, ◌≤◌, Bool, true, false, List, [], ◌∷◌, length, map, Some, slice_get}
use Rattle.std.proofs.Common.{refl, sym, ap, ◌∙◌, subst, arith}
use Rattle.std.proofs.lemmas.Option.{same_Some}
use Rattle.afdx_frame.specs.Lengths.{least_frame}
use Rattle.afdx_frame.proofs.ListLemmas.{AllByRecursion-slice_get}
use Rattle.afdx_config.specs.declared.rows.Times.{Times}
use Rattle.afdx_config.specs.Rows.{LinkRow, Rows}
use Rattle.afdx_config.specs.Changed.{with_times, with_link_at, with_buffer}
use Rattle.afdx_config.proofs.LawfulLinkLemmas.{with-others}
use Rattle.afdx_config.specs.Lawful.{IsLinkAmong, IsLinkUpTo, IsLawfulSwitch, jitter_from_any, jitter_from_system}
use Rattle.afdx_config.specs.Reading.{greatest_delay}
use Rattle.afdx_config.specs.Switches.{NamedRows, named_rows, AreSwitches}
use Rattle.afdx_config.specs.AtSwitch.{tables_at, link_at}
use Rattle.afdx_config.specs.ChangedSwitches.{changed_switch, bare_link, bare_switch, AreAlike}
use Rattle.afdx_admit.specs.Cascade.{row_at}
use Rattle.afdx_admit.proofs.CascadeLemmas.{with_tables}
use Rattle.afdx_solve.specs.declared.options.SolveOptions.{SolveOptions}
use Rattle.afdx_solve.specs.Solved.{apart_us, chosen, least_buffer}
use Rattle.afdx_solve.specs.SolvedCascade.{jitter_needed, latency_needed, skew_needed}
use Rattle.afdx_solve.specs.SolvedCascade.{AreTimesAtMost}
use Rattle.afdx_solve.specs.Raising.{begun, begun_buffer, begun_links, with_begun_buffer, begun_switch}
use Rattle.afdx_solve.specs.Raising.{IsRising}
use Rattle.afdx_solve.proofs.DelayLemmas.{chosen-within}
use Rattle.afdx_solve.proofs.LeastLemmas.{mapped}
use Rattle.afdx_solve.proofs.StageLemmas.{with_links, changed_first, get-first, length-first, stage-next, stage-done}
use Rattle.afdx_solve.proofs.AtLemmas.{link-at, at-link, link-one, tables-one}
use Rattle.afdx_solve.proofs.RaisingLemmas.{chosen-rises}
use Rattle.afdx_solve.proofs.RaisedLemmas.{latency-some, skew-some}

-- ---- what stands there

pub lawful-at : (ss : List NamedRows) → AreSwitches ss → (k : ℕ) (t : Rows) → tables_at ss k ≡ Some t → IsLawfulSwitch t
lawful-at ss h k t at =
    let s = with_tables (slice_get ss k) t at in
    AllByRecursion-slice_get (λ (r : NamedRows). IsLawfulSwitch r.rows) ss k (named_rows s.0 t) h.each s.1

pub lawful-link : (ss : List NamedRows) → AreSwitches ss → (k i : ℕ) (l : LinkRow) → link_at ss k i ≡ Some l
    → (t : Rows) × IsLinkAmong t.own (length t.systems) l
lawful-link ss h k i l row =
    let t = at-link ss k i l row in
    let lawful = lawful-at ss h k t.0 t.1 in (
      t.0,
      record {
        link = AllByRecursion-slice_get (IsLinkUpTo jitter_from_any (length t.0.systems)) t.0.links i l
            lawful.links.each t.2;
        sent = lawful.sent i l t.2;
      },
    )

chosen-some : (keep raise : Bool) (file n : ℕ) → 1 ≤ file → 1 ≤ n → 1 ≤ chosen keep raise file n
chosen-some true raise file n a b = a
chosen-some false true file n a b = omega (arith, a)
chosen-some false false file n a b = b

module _ (o : SolveOptions) where
  pub begun-lawful : (own ends : ℕ) (l : LinkRow) → IsLinkAmong own ends l → IsLinkAmong own ends (begun o l)
  begun-lawful own ends l h = record {
    link =
        let new = begun o l in
        let jitter = chosen-within o.kept.jitter o.raise_only 0 (jitter_from_any l.bag_ms) l.jitter_us 0
        h.link.jitter_us (omega arith, omega arith) in
        with-others jitter_from_any jitter_from_any ends l h.link l.policing new.jitter_us new.latency_us
        new.skew_us jitter.1
        (chosen-within o.kept.latency o.raise_only 1 greatest_delay l.latency_us 1 h.link.latency_us
        (omega arith, omega arith))
        (chosen-within o.kept.skew o.raise_only 1 greatest_delay l.skew_us 1 h.link.skew_us
        (omega arith, omega arith));
    sent = λ from. (chosen-within o.kept.jitter o.raise_only 0 (jitter_from_system l.bag_ms) l.jitter_us 0
        (omega arith, h.sent from) (omega arith, omega arith)).1;
  }

  -- ---- they rise

  bare-begun : (ls : List LinkRow) → map bare_link ls ≡ map bare_link (map (begun o) ls)
  bare-begun [] = refl
  bare-begun (l ∷ ls) = ap (λ rest. bare_link l ∷ rest) (bare-begun ls)

  pub alike-begun : (ss : List NamedRows) → AreAlike ss (map (begun_switch o) ss)
  alike-begun [] = refl
  alike-begun (s ∷ ss) =
      ap (λ ls. named_rows s.name (record s.rows { buffer = 0; links = ls }) ∷ map bare_switch ss)
      (bare-begun s.rows.links)
      ∙ ap (λ rest. bare_switch (begun_switch o s) ∷ rest) (alike-begun ss)

  begun-link : (ss : List NamedRows) (k i : ℕ) (m : LinkRow) → link_at (map (begun_switch o) ss) k i ≡ Some m
      → (l : LinkRow) × (link_at ss k i ≡ Some l) × (begun o l ≡ m)
  begun-link [] k i m at = absurd (cc at)
  begun-link (s ∷ ss) zero i m at = mapped (begun o) s.rows.links i m at
  begun-link (s ∷ ss) (suc k) i m at = begun-link ss k i m at

  begun-tables : (ss : List NamedRows) (k : ℕ) (u : Rows) → tables_at (map (begun_switch o) ss) k ≡ Some u
      → (t : Rows) × (tables_at ss k ≡ Some t) × (u.buffer ≡ begun_buffer o t.buffer)
  begun-tables [] k u at = absurd (cc at)
  begun-tables (s ∷ ss) zero u at = (s.rows, refl, sym (ap (λ (r : Rows). r.buffer) (same_Some _ u at)))
  begun-tables (s ∷ ss) (suc k) u at = begun-tables ss k u at

  module _ (file : List NamedRows) (lawful : AreSwitches file) where
    abbrev start : List NamedRows
    start = map (begun_switch o) file

    buffer-is : (k : ℕ) (f t : Rows) → tables_at file k ≡ Some f → tables_at start k ≡ Some t
        → t.buffer ≡ begun_buffer o f.buffer
    buffer-is k f t at at' =
        let x = begun-tables file k t at' in
        x.2 ∙ ap (λ (r : Rows). begun_buffer o r.buffer) (tables-one file k x.0 f x.1 at)

    row-is : (k i : ℕ) (f l : LinkRow) → link_at file k i ≡ Some f → link_at start k i ≡ Some l → begun o f ≡ l
    row-is k i f l row row' =
        let x = begun-link file k i l row' in
        ap (begun o) (link-one file k i f x.0 row x.1) ∙ x.2

    latency-one : (k i : ℕ) (f : LinkRow) → link_at file k i ≡ Some f → 1 ≤ f.latency_us
    latency-one k i f row = (lawful-link file lawful k i f row).1.link.latency_us.0

    -- below what a row takes, by any values
    jitter-below : (f : LinkRow) (n : ℕ) → (begun o f).jitter_us ≤ chosen o.kept.jitter o.raise_only f.jitter_us n
    jitter-below f n = chosen-rises o.kept.jitter o.raise_only f.jitter_us 0 n (omega arith)

    latency-below : (f : LinkRow) (t : Rows) (n : LinkRow)
        → (begun o f).latency_us ≤ chosen o.kept.latency o.raise_only f.latency_us (latency_needed t n)
    latency-below f t n = chosen-rises o.kept.latency o.raise_only f.latency_us 1 (latency_needed t n)
        (latency-some t n).0

    skew-below : (ss : List NamedRows) (f : LinkRow) (t : Rows) (k : ℕ) (n : LinkRow) → 1 ≤ n.latency_us
        → (begun o f).skew_us ≤ chosen o.kept.skew o.raise_only f.skew_us (skew_needed (apart_us o) ss t (row_at k n))
    skew-below ss f t k n some = chosen-rises o.kept.skew o.raise_only f.skew_us 1
        (skew_needed (apart_us o) ss t (row_at k n)) (skew-some o ss t (row_at k n) some).0

    buffer-below : (f t : Rows) → begun_buffer o f.buffer ≤ chosen o.kept.buffer o.raise_only f.buffer (least_buffer t)
    buffer-below f t = chosen-rises o.kept.buffer o.raise_only f.buffer least_frame (least_buffer t) (omega arith)

    pub begun-rising : IsRising o file start
    begun-rising = record {
      from = record {
        buffers = λ k f t at at'. omega (arith, buffer-is k f t at at');
        times = λ k i f l row row'. subst (AreTimesAtMost (begun o f)) (row-is k i f l row row') (record {
          jitter = omega arith;
          latency = omega arith;
          skew = omega arith;
        });
      };
      to = record {
        alike = alike-begun file;
        buffers = λ k f t at at'. omega (arith, buffer-is k f t at at', buffer-below f t);
        times = λ k i t f l at row row'.
            let same = row-is k i f l row (link-at start k i t l at row') in
            let some : 1 ≤ l.latency_us = subst (λ (r : LinkRow). 1 ≤ r.latency_us) same
            (chosen-some o.kept.latency o.raise_only f.latency_us 1 (latency-one k i f row) (omega arith)) in
            record {
              jitter = omega (
                arith,
                ap (λ (r : LinkRow). r.jitter_us) same,
                jitter-below f
                    (jitter_needed start t (row_at k l)),
              );
              latency = omega (arith, ap (λ (r : LinkRow). r.latency_us) same, latency-below f t l);
              skew = omega (arith, ap (λ (r : LinkRow). r.skew_us) same, skew-below start f t k l some);
            };
      };
      least = λ others enough. record {
        buffers = λ k t v at at'.
            let x = begun-tables file k t at in
            omega (arith, x.2, buffer-below x.0 v, enough.buffers k x.0 v x.1 at');
        times = λ k i l n row row'.
            let x = begun-link file k i l row in
            let v = at-link others k i n row' in
            let y = enough.times k i v.0 x.0 n v.1 x.1 v.2 in
            let some : 1 ≤ n.latency_us = omega (
              arith,
              y.latency,
              chosen-some o.kept.latency o.raise_only x.0.latency_us (latency_needed v.0 n) (latency-one k i x.0 x.1)
                  (latency-some v.0 n).0,
            ) in
            record {
              jitter = omega (
                arith,
                ap (λ (r : LinkRow). r.jitter_us) x.2,
                y.jitter,
                jitter-below x.0 (jitter_needed others v.0 (row_at k n)),
              );
              latency = omega (arith, ap (λ (r : LinkRow). r.latency_us) x.2, y.latency, latency-below x.0 v.0 n);
              skew = omega (arith, ap (λ (r : LinkRow). r.skew_us) x.2, y.skew, skew-below others x.0 v.0 k n some);
            };
      };
    }

  -- ---- one row, one switch after the other

  abbrev pub first_rows : ℕ → Rows → Rows
  first_rows i t = with_links t (changed_first (begun o) i t.links)

  pub rows-first : (ss : List NamedRows) (k : ℕ) → ss ≡ changed_switch k (first_rows 0) ss
  unfolding changed_switch changed_first
  rows-first [] k = refl
  rows-first (s ∷ ss) zero = refl
  rows-first (s ∷ ss) (suc k) = ap (λ rest. s ∷ rest) (rows-first ss k)

  pub link-first : (ss : List NamedRows) (k i : ℕ) → link_at (changed_switch k (first_rows i) ss) k i ≡ link_at ss k i
  unfolding changed_switch
  link-first [] k i = refl
  link-first (s ∷ ss) zero i = get-first (begun o) i s.rows.links
  link-first (s ∷ ss) (suc k) i = link-first ss k i

  pub rows-next : (ss : List NamedRows) (k i : ℕ) (times : Times) (l : LinkRow) → link_at ss k i ≡ Some l
      → with_times times l ≡ begun o l
      → changed_switch k (with_link_at i times) (changed_switch k (first_rows i) ss) ≡ changed_switch k
      (first_rows (i + 1)) ss
  unfolding changed_switch
  rows-next [] k i times l at same = absurd (cc at)
  rows-next (s ∷ ss) zero i times l at same = ap (λ r. named_rows s.name r ∷ ss)
      (stage-next (begun o) s.rows (first_rows i s.rows) (with_link_at i times (first_rows i s.rows)) i times l refl
      at same refl)
  rows-next (s ∷ ss) (suc k) i times l at same = ap (λ rest. s ∷ rest) (rows-next ss k i times l at same)

  pub rows-done : (ss : List NamedRows) (k i : ℕ) (t : Rows) → tables_at ss k ≡ Some t → length t.links ≤ i
      → changed_switch k (first_rows i) ss ≡ changed_switch k (begun_links o) ss
  unfolding changed_switch
  rows-done [] k i t at past = refl
  rows-done (s ∷ ss) zero i t at past = ap (λ r. named_rows s.name r ∷ ss)
      (stage-done (begun o) s.rows (first_rows i s.rows) i refl
      (omega (arith, past, ap (λ (r : Rows). length r.links) (same_Some s.rows t at))))
  rows-done (s ∷ ss) (suc k) i t at past = ap (λ rest. s ∷ rest) (rows-done ss k i t at past)

  switch-next : (ss : List NamedRows) (k : ℕ)
      → changed_switch k (with_begun_buffer o) (changed_switch k (begun_links o) (changed_first (begun_switch o) k ss))
      ≡ changed_first (begun_switch o) (suc k) ss
  unfolding changed_switch changed_first
  switch-next [] zero = refl
  switch-next [] (suc k) = refl
  switch-next (s ∷ ss) zero = refl
  switch-next (s ∷ ss) (suc k) = ap (λ rest. begun_switch o s ∷ rest) (switch-next ss k)

  pub switches-next : (ss : List NamedRows) (k : ℕ)
      → changed_switch k (with_begun_buffer o) (changed_switch k (begun_links o) (changed_first (begun_switch o) k ss))
      ≡ changed_first (begun_switch o) (k + 1) ss
  switches-next ss k =
      switch-next ss k ∙ ap (λ n. changed_first (begun_switch o) n ss) (let s : suc k ≡ k + 1 = omega arith in s)

-- a change that is another one at its place
pub change-same : (f g : Rows → Rows) (ss : List NamedRows) (k : ℕ) (t : Rows) → tables_at ss k ≡ Some t → f t ≡ g t
    → changed_switch k f ss ≡ changed_switch k g ss
unfolding changed_switch
change-same f g [] k t at same = refl
change-same f g (s ∷ ss) zero t at same =
    let here : s.rows ≡ t = same_Some s.rows t at in
    ap (λ r. named_rows s.name r ∷ ss) (ap f here ∙ same ∙ ap g (sym here))
change-same f g (s ∷ ss) (suc k) t at same = ap (λ rest. s ∷ rest) (change-same f g ss k t at same)

pub length-changed : (change : Rows → Rows) (ss : List NamedRows) (k : ℕ) → length (changed_switch k change ss)
    ≡ length ss
unfolding changed_switch
length-changed change [] k = refl
length-changed change (s ∷ ss) zero = refl
length-changed change (s ∷ ss) (suc k) = ap suc (length-changed change ss k)

pub buffer-begins : (o : SolveOptions) (ss : List NamedRows) (k : ℕ) (t : Rows) → tables_at ss k ≡ Some t → (buffer : ℕ)
    → buffer ≡ begun_buffer o t.buffer
    → changed_switch k (with_buffer buffer) ss ≡ changed_switch k (with_begun_buffer o) ss
buffer-begins o ss k t at buffer is =
    change-same (with_buffer buffer) (with_begun_buffer o) ss k t at (ap (λ n. with_buffer n t) is)

-- of the rows that are changed so far: how many there are
pub count-first : (o : SolveOptions) (ss : List NamedRows) (k i : ℕ) (t u : Rows) → tables_at ss k ≡ Some t
    → tables_at (changed_switch k (first_rows o i) ss) k ≡ Some u → length u.links ≡ length t.links
unfolding changed_switch
count-first o [] k i t u at at' = absurd (cc at)
count-first o (s ∷ ss) zero i t u at at' =
    ap (λ (r : Rows). length r.links) (sym (same_Some (first_rows o i s.rows) u at'))
    ∙ length-first (begun o) i s.rows.links
    ∙ ap (λ (r : Rows). length r.links) (same_Some s.rows t at)
count-first o (s ∷ ss) (suc k) i t u at at' = count-first o ss k i t u at at'
