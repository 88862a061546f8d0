-- One row, or one buffer, that is raised to what it needs.
use Rattle.std.proofs.Common.{◌≡◌, inl, inr, ℕ, ◌<◌, ◌≤◌, min, Bool, true, false, List, [], ◌∷◌, length, Some}
use Rattle.std.proofs.Common.{slice_get, slice_index, nat_lt, if◌then◌else◌, refl, sym, ap, ◌∙◌, subst, arith}
use Rattle.std.specs.List.{AllByRecursion}
use Rattle.std.proofs.lemmas.Bool.{lt-ltb}
use Rattle.afdx_frame.specs.Lengths.{least_frame, greatest_buffer}
use Rattle.afdx_config.specs.declared.rows.Times.{Times}
use Rattle.afdx_config.specs.Rows.{LinkRow, Rows}
use Rattle.afdx_config.specs.Changed.{with_times, with_link_at, with_buffer}
use Rattle.afdx_config.specs.Lawful.{IsLinkAmong, IsLinkUpTo, IsLawfulSwitch, IsWithin, jitter_from_any, jitter_from_system}
use Rattle.afdx_config.specs.Reading.{greatest_delay}
use Rattle.afdx_config.specs.Switches.{NamedRows}
use Rattle.afdx_config.specs.AtSwitch.{tables_at, link_at}
use Rattle.afdx_config.specs.ChangedSwitches.{with_times_at, with_buffer_at, AreAlike}
use Rattle.afdx_config.proofs.ChangedSwitchesLemmas.{alike-changed, bare-times}
use Rattle.afdx_config.proofs.LawfulLinkLemmas.{with-others}
use Rattle.afdx_admit.specs.Cascade.{RowAt, row_at}
use Rattle.afdx_admit.specs.Lines.{jitter_at}
use Rattle.afdx_solve.specs.declared.options.SolveOptions.{SolveOptions}
use Rattle.afdx_solve.specs.Solved.{chosen, least_buffer, latency_over, delay_to, least_jitter, apart_us}
use Rattle.afdx_solve.specs.SolvedCascade.{jitter_needed, latency_needed, skew_needed, late_before}
use Rattle.afdx_solve.specs.SolvedCascade.{AreAtMost, AreTimesAtMost, TimesTake}
use Rattle.afdx_solve.specs.Raising.{IsRising, left_of, Raises, raised_times, IsMoreIn, AreTimesSettled, AreDelaysBy}
use Rattle.afdx_solve.specs.declared.delays.Delays.{Delays}
use Rattle.afdx_solve.specs.Delays.{of_class}
use Rattle.afdx_solve.proofs.DelayLemmas.{chosen-within, latency_over-some, latency_over-same}
use Rattle.afdx_solve.proofs.AtLemmas.{link-at, link-one, tables-one, times-cases, times-buffer, buffer-cases}
use Rattle.afdx_solve.proofs.AtLemmas.{buffer-links}
use Rattle.afdx_solve.proofs.RaisingLemmas.{raised-more, raised-takes, TimesTaken, AreTaken, step, left-times, left-buffer}

-- ---- the ranges of what is needed

pub jitter-any : (ss : List NamedRows) (t : Rows) (r : RowAt) → jitter_needed ss t r ≤ jitter_from_any r.row.bag_ms
unfolding jitter_needed
jitter-any ss t r = by (nat_lt r.row.from t.own)
  where
    by : (b : Bool) → (if b then least_jitter (jitter_at t r.row.from) r.row
        else min (jitter_from_any r.row.bag_ms) (late_before ss r)) ≤ jitter_from_any r.row.bag_ms
    by true = omega arith
    by false = omega arith

pub jitter-system : (ss : List NamedRows) (t : Rows) (r : RowAt) → r.row.from < t.own
    → jitter_needed ss t r ≤ jitter_from_system r.row.bag_ms
unfolding jitter_needed
jitter-system ss t r from =
    subst (λ b. (if b then least_jitter (jitter_at t r.row.from) r.row
    else min (jitter_from_any r.row.bag_ms) (late_before ss r)) ≤ jitter_from_system r.row.bag_ms)
    (sym (lt-ltb r.row.from t.own from)) (omega arith)

pub latency-some : (t : Rows) (l : LinkRow) → IsWithin 1 greatest_delay (latency_needed t l)
unfolding latency_needed
latency-some t l = (omega (arith, latency_over-some (delay_to t l.priority) l.to), omega arith)

pub skew-some : (o : SolveOptions) (ss : List NamedRows) (t : Rows) (r : RowAt) → 1 ≤ r.row.latency_us
    → IsWithin 1 greatest_delay (skew_needed (apart_us o) ss t r)
unfolding skew_needed
skew-some o ss t r some = (omega (arith, some), omega arith)

-- ---- a row

-- these times are at most what the row needs
pub record AreNeeded (o : SolveOptions) (ss : List NamedRows) (t : Rows) (k : ℕ) (l : LinkRow)
    (needed : Times) : Type 0 where
  pub jitter : needed.jitter_us ≤ jitter_needed ss t (row_at k l)
  pub latency : needed.latency_us ≤ latency_needed t l
  pub latency_some : 1 ≤ needed.latency_us
  pub skew : needed.skew_us ≤ skew_needed (apart_us o) ss t (row_at k l)
  pub skew_some : 1 ≤ needed.skew_us

pub raised-lawful : (o : SolveOptions) (ss : List NamedRows) (t : Rows) (k : ℕ) (l : LinkRow) (needed : Times)
    → IsLinkAmong t.own (length t.systems) l → AreNeeded o ss t k l needed
    → IsLinkAmong t.own (length t.systems) (with_times (raised_times o needed l) l)
raised-lawful o ss t k l needed h n =
    let any = jitter-any ss t (row_at k l) in
    let latency = latency-some t l in
    let skew = skew-some o ss t (row_at k l) h.link.latency_us.0 in
    record {
      link =
          let times = raised_times o needed l in
          let jitter = chosen-within o.kept.jitter true 0 (jitter_from_any l.bag_ms) l.jitter_us needed.jitter_us
          h.link.jitter_us (omega arith, omega (arith, n.jitter, any)) in
          with-others jitter_from_any jitter_from_any (length t.systems) l h.link l.policing times.jitter_us
          times.latency_us times.skew_us jitter.1
          (chosen-within o.kept.latency true 1 greatest_delay l.latency_us needed.latency_us h.link.latency_us
          (n.latency_some, omega (arith, n.latency, latency.1)))
          (chosen-within o.kept.skew true 1 greatest_delay l.skew_us needed.skew_us h.link.skew_us
          (n.skew_some, omega (arith, n.skew, skew.1)));
      sent = λ from. (chosen-within o.kept.jitter true 0 (jitter_from_system l.bag_ms) l.jitter_us needed.jitter_us
          (omega arith, h.sent from) (omega arith, omega (arith, n.jitter, jitter-system ss t (row_at k l) from))).1;
    }

raised-is-more : (o : SolveOptions) (needed : Times) (l : LinkRow)
    → AreTimesAtMost l (with_times (raised_times o needed l) l)
raised-is-more o needed l = record {
  jitter = raised-more o.kept.jitter l.jitter_us needed.jitter_us;
  latency = raised-more o.kept.latency l.latency_us needed.latency_us;
  skew = raised-more o.kept.skew l.skew_us needed.skew_us;
}

left-less : (l : LinkRow) (times : Times) → AreTimesAtMost l (with_times times l)
    → times.jitter_us ≤ jitter_from_any l.bag_ms → times.latency_us ≤ greatest_delay → times.skew_us ≤ greatest_delay
    → IsMoreIn l times → left_of (with_times times l) < left_of l
left-less l times h j la s more = elim more [
  | inl a ↦ omega (arith, h.latency, h.skew, j, la, s, a)
  | inr rest ↦ elim rest [
    | inl b ↦ omega (arith, h.jitter, h.skew, j, la, s, b)
    | inr c ↦ omega (arith, h.jitter, h.latency, j, la, s, c)
  ]
]

module _ (o : SolveOptions) (ss : List NamedRows) (k i : ℕ) (t : Rows) (l : LinkRow) (at : tables_at ss k ≡ Some t)
    (row : slice_get t.links i ≡ Some l) (needed : Times) (n : AreNeeded o ss t k l needed) where
  abbrev times : Times
  times = raised_times o needed l

  abbrev new : List NamedRows
  new = with_times_at k i times ss

  -- the row at its place
  here-is : (j m : ℕ) (x : LinkRow) → j ≡ k → m ≡ i → link_at ss j m ≡ Some x → x ≡ l
  here-is j m x e d there =
      link-one ss k i x l (subst (λ a. link_at ss a i ≡ Some x) e (subst (λ a. link_at ss j a ≡ Some x) d there))
      (link-at ss k i t l at row)

  more : AreAtMost ss new
  more = record {
    buffers = λ j s u d e.
        let x = times-buffer times ss k i j u e in
        omega (arith, x.2, ap (λ (r : Rows). r.buffer) (tables-one ss j x.0 s x.1 d));
    times = λ j m a b d e.
        let x = times-cases times ss k i j m b e in
        let same : x.0 ≡ a = link-one ss j m x.0 a x.1 d in
        elim x.2 [
          | inl is ↦ as-it-is a b (sym (is ∙ same))
          | inr is ↦ raised a b (here-is j m a is.0.0 is.0.1 d) (is.1 ∙ ap (with_times times) same)
        ];
  }
    where
      as-it-is : (a b : LinkRow) → a ≡ b → AreTimesAtMost a b
      as-it-is a b e = record {
        jitter = omega (arith, ap (λ (r : LinkRow). r.jitter_us) e);
        latency = omega (arith, ap (λ (r : LinkRow). r.latency_us) e);
        skew = omega (arith, ap (λ (r : LinkRow). r.skew_us) e);
      }

      raised : (a b : LinkRow) → a ≡ l → b ≡ with_times times a → AreTimesAtMost a b
      raised a b e is = subst (AreTimesAtMost a) (sym is)
          (subst (λ (r : LinkRow). AreTimesAtMost r (with_times times r)) (sym e) (raised-is-more o needed l))

  module _ (file : List NamedRows) (h : IsRising o file ss) where
    -- what the raised row takes
    taken-here : (f : LinkRow) → link_at file k i ≡ Some f → TimesTaken o ss t f k l (with_times times l)
    taken-here f at' =
        let x = h.to.times k i t f l at at' row in
        record {
          jitter = raised-takes o.kept.jitter o.raise_only f.jitter_us l.jitter_us needed.jitter_us
              (jitter_needed ss t (row_at k l)) x.jitter n.jitter;
          latency = raised-takes o.kept.latency o.raise_only f.latency_us l.latency_us needed.latency_us
              (latency_needed t l) x.latency n.latency;
          skew = raised-takes o.kept.skew o.raise_only f.skew_us l.skew_us needed.skew_us
              (skew_needed (apart_us o) ss t (row_at k l)) x.skew n.skew;
        }

    taken : AreTaken o file ss new
    taken = record {
      buffers = λ j f s u d e g.
          let x = times-buffer times ss k i j u g in
          let b = h.to.buffers j f s d e in
          omega (arith, x.2, ap (λ (r : Rows). r.buffer) (tables-one ss j x.0 s x.1 e), b);
      times = λ j m s f a b e d r g.
          let x = times-cases times ss k i j m b g in
          let there = link-at ss j m s a e r in
          let same : x.0 ≡ a = link-one ss j m x.0 a x.1 there in
          elim x.2 [
            | inl is ↦ as-it-is j s f a b (is ∙ same) (h.to.times j m s f a e d r)
            | inr is ↦ raised j m s f a b is.0.0 is.0.1 e d there (is.1 ∙ ap (with_times times) same)
          ];
    }
      where
        as-it-is : (j : ℕ) (s : Rows) (f a b : LinkRow) → b ≡ a
            → TimesTake (λ taken value. value ≤ taken) o ss s f (row_at j a) → TimesTaken o ss s f j a b
        as-it-is j s f a b e x = record {
          jitter = omega (arith, ap (λ (r : LinkRow). r.jitter_us) e, x.jitter);
          latency = omega (arith, ap (λ (r : LinkRow). r.latency_us) e, x.latency);
          skew = omega (arith, ap (λ (r : LinkRow). r.skew_us) e, x.skew);
        }

        raised : (j m : ℕ) (s : Rows) (f a b : LinkRow) → j ≡ k → m ≡ i → tables_at ss j ≡ Some s
            → link_at file j m ≡ Some f → link_at ss j m ≡ Some a → b ≡ with_times times a → TimesTaken o ss s f j a b
        raised j m s f a b e d at' of there is =
            let row_is : a ≡ l = here-is j m a e d there in
            let tables_are : s ≡ t = tables-one ss k s t (subst (λ x. tables_at ss x ≡ Some s) e at') at in
            let of_here : link_at file k i ≡ Some f =
            subst (λ x. link_at file x i ≡ Some f) e (subst (λ x. link_at file j x ≡ Some f) d of) in
            subst (TimesTaken o ss s f j a) (sym is)
            (subst (λ (r : LinkRow). TimesTaken o ss s f j r (with_times times r)) (sym row_is)
            (subst (λ (x : Rows). TimesTaken o ss x f j l (with_times times l)) (sym tables_are)
            (subst (λ x. TimesTaken o ss t f x l (with_times times l)) (sym e) (taken-here f of_here))))

  alike : AreAlike ss new
  alike = sym (alike-changed (with_link_at i times) (bare-times i times) ss k)

  pub row-raises : IsLinkAmong t.own (length t.systems) l → IsMoreIn l times → Raises o ss new true
  row-raises lawful is_more =
      let may = raised-lawful o ss t k l needed lawful n in
      let less = left-less l times (raised-is-more o needed l) may.link.jitter_us.1 may.link.latency_us.1
      may.link.skew_us.1 is_more in
      let sum = left-times times ss k i l (link-at ss k i t l at row) in
      record {
        alike = alike;
        more = more;
        rising = λ file h. step o file ss new h alike more (taken file h);
        less = λ e. omega (arith, less, sum);
        same = λ e. absurd (cc e);
      }

-- where the times have what they need
pub times-settled : (o : SolveOptions) (ss : List NamedRows) (t : Rows) (k : ℕ) (l : LinkRow) (needed : Times)
    → AreTimesAtMost (with_times (raised_times o needed l) l) l
    → needed.jitter_us ≡ jitter_needed ss t (row_at k l) → needed.latency_us ≡ latency_needed t l
    → needed.skew_us ≡ skew_needed (apart_us o) ss t (row_at k l) → AreTimesSettled o ss t k l
times-settled o ss t k l needed h j la s = record {
  jitter = subst (λ n. chosen o.kept.jitter true l.jitter_us n ≤ l.jitter_us) j h.jitter;
  latency = subst (λ n. chosen o.kept.latency true l.latency_us n ≤ l.latency_us) la h.latency;
  skew = subst (λ n. chosen o.kept.skew true l.skew_us n ≤ l.skew_us) s h.skew;
}

-- ---- a buffer

module _ (o : SolveOptions) (ss : List NamedRows) (k : ℕ) (t : Rows) (at : tables_at ss k ≡ Some t) where
  abbrev buffer : ℕ
  buffer = chosen o.kept.buffer true t.buffer (least_buffer t)

  abbrev new_buffer : List NamedRows
  new_buffer = with_buffer_at k buffer ss

  here-tables : (j : ℕ) (s : Rows) → j ≡ k → tables_at ss j ≡ Some s → s ≡ t
  here-tables j s e d = tables-one ss k s t (subst (λ x. tables_at ss x ≡ Some s) e d) at

  buffer-more : AreAtMost ss new_buffer
  buffer-more = record {
    buffers = λ j s u d e.
        let x = buffer-cases buffer ss k j u e in
        let same : x.0 ≡ s = tables-one ss j x.0 s x.1 d in
        elim x.2 [
          | inl is ↦ omega (arith, ap (λ (r : Rows). r.buffer) (is ∙ same))
          | inr is ↦ omega (
            arith,
            ap (λ (r : Rows). r.buffer) is.1,
            ap (λ (r : Rows). r.buffer) (here-tables j s is.0 d),
            raised-more o.kept.buffer t.buffer (least_buffer t),
          )
        ];
    times = λ j i a b d e.
        let same = link-one ss j i a b d (sym (buffer-links buffer ss k j i) ∙ e) in record {
          jitter = omega (arith, ap (λ (r : LinkRow). r.jitter_us) same);
          latency = omega (arith, ap (λ (r : LinkRow). r.latency_us) same);
          skew = omega (arith, ap (λ (r : LinkRow). r.skew_us) same);
        };
  }

  buffer-taken : (file : List NamedRows) → IsRising o file ss → AreTaken o file ss new_buffer
  buffer-taken file h = record {
    buffers = λ j f s u d e g.
        let x = buffer-cases buffer ss k j u g in
        let same : x.0 ≡ s = tables-one ss j x.0 s x.1 e in
        elim x.2 [
          | inl is ↦ omega (arith, ap (λ (r : Rows). r.buffer) (is ∙ same), h.to.buffers j f s d e)
          | inr is ↦ raised j f s u is.0 d e (ap (λ (r : Rows). r.buffer) is.1)
        ];
    times = λ j i s f a b e d r g.
        let same : a ≡ b = link-one ss j i a b (link-at ss j i s a e r) (sym (buffer-links buffer ss k j i) ∙ g) in
        let x = h.to.times j i s f a e d r in
        record {
          jitter = omega (arith, ap (λ (l : LinkRow). l.jitter_us) same, x.jitter);
          latency = omega (arith, ap (λ (l : LinkRow). l.latency_us) same, x.latency);
          skew = omega (arith, ap (λ (l : LinkRow). l.skew_us) same, x.skew);
        };
  }
    where
      raised : (j : ℕ) (f s u : Rows) → j ≡ k → tables_at file j ≡ Some f → tables_at ss j ≡ Some s → u.buffer ≡ buffer
          → u.buffer ≤ chosen o.kept.buffer o.raise_only f.buffer (least_buffer s)
      raised j f s u e d at' is =
          let same : s ≡ t = here-tables j s e at' in
          let b : t.buffer ≤ chosen o.kept.buffer o.raise_only f.buffer (least_buffer t) =
          subst (λ (r : Rows). r.buffer ≤ chosen o.kept.buffer o.raise_only f.buffer (least_buffer r)) same
          (h.to.buffers j f s d at') in
          subst (λ (r : Rows). u.buffer ≤ chosen o.kept.buffer o.raise_only f.buffer (least_buffer r)) (sym same)
          (omega (
            arith,
            is,
            raised-takes o.kept.buffer o.raise_only f.buffer t.buffer (least_buffer t) (least_buffer t)
                b (omega arith),
          ))

  buffer-alike : AreAlike ss new_buffer
  buffer-alike = sym (alike-changed (with_buffer buffer) (λ r. refl) ss k)

  pub buffer-raises : IsWithin least_frame greatest_buffer t.buffer → (t.buffer ≡ buffer → ⊥)
      → Raises o ss new_buffer true
  buffer-raises within differs =
      let more = raised-more o.kept.buffer t.buffer (least_buffer t) in
      let may = chosen-within o.kept.buffer true least_frame greatest_buffer t.buffer (least_buffer t) within
      (omega arith, omega arith) in
      let sum = left-buffer buffer ss k t at in
      let strict : t.buffer < buffer = omega (arith, more, differs) in
      record {
        alike = buffer-alike;
        more = buffer-more;
        rising = λ file h. step o file ss new_buffer h buffer-alike buffer-more (buffer-taken file h);
        less = λ e. omega (arith, strict, sum, may.1);
        same = λ e. absurd (cc e);
      }

-- ---- by what is kept of the output ports

latency_over-within : (f g : ℕ → ℕ) (count : ℕ) → ((place : ℕ) → place < count → f place ≤ g place) → (places : List ℕ)
    → AllByRecursion (λ p. p < count) places → latency_over f places ≤ latency_over g places
unfolding latency_over
latency_over-within f g count each [] h = omega arith
latency_over-within f g count each (p ∷ ps) h = omega (arith, each p h.0, latency_over-within f g count each ps h.1)

module _ (o : SolveOptions) (ss : List NamedRows) (t : Rows) (k : ℕ) (l : LinkRow) (needed : Times) (d : Delays)
    (lawful : IsLinkUpTo jitter_from_any (length t.systems) l)
    (jitter : needed.jitter_us ≡ jitter_needed ss t (row_at k l))
    (latency : needed.latency_us ≡ min greatest_delay (latency_over (slice_index (of_class l.priority d)) l.to))
    (skew : needed.skew_us ≡ skew_needed (apart_us o) ss t (row_at k l)) where
  pub needed-are : AreDelaysBy (λ kept needs. kept ≤ needs) t d → AreNeeded o ss t k l needed
  unfolding latency_needed
  needed-are below =
      let over = latency_over-within (slice_index (of_class l.priority d)) (delay_to t l.priority) (length t.systems)
      (below.each l.priority) l.to lawful.to in
      record {
        jitter = omega (arith, jitter);
        latency = omega (arith, latency, over);
        latency_some = omega (arith, latency, latency_over-some (slice_index (of_class l.priority d)) l.to);
        skew = omega (arith, skew);
        skew_some = omega (arith, skew, (skew-some o ss t (row_at k l) lawful.latency_us.0).0);
      }

  pub row-settled : AreTimesAtMost (with_times (raised_times o needed l) l) l
      → AreDelaysBy (λ kept needs. kept ≡ needs) t d → AreTimesSettled o ss t k l
  unfolding latency_needed
  row-settled h exact =
      times-settled o ss t k l needed h jitter
      (latency ∙ ap (min greatest_delay) (latency_over-same (slice_index (of_class l.priority d))
      (delay_to t l.priority)
      (length t.systems) (exact.each l.priority) l.to lawful.to)) skew

pub among : (t : Rows) (i : ℕ) (l : LinkRow) → IsLawfulSwitch t → slice_get t.links i ≡ Some l
    → IsLinkUpTo jitter_from_any (length t.systems) l → IsLinkAmong t.own (length t.systems) l
among t i l lawful row link = record { link = link; sent = lawful.sent i l row }
