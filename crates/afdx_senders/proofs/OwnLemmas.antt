-- The sources that are followed, and their own frames.
use Rattle.std.proofs.Common.{◌≡◌, ℕ, Bool, true, false, List, ◌∷◌, map, refl, sym, ap, ◌∙◌}
use Rattle.std.proofs.lemmas.Bool.{eq-eqb, eqb-true}
use Rattle.std.proofs.lemmas.Option.{same_Some}
use Rattle.std.specs.Prelude.{filter, if◌then◌else◌, nat_eq, option_map, slice_get, Option, Some, None}
use Rattle.afdx_config.specs.Rows.{LinkRow}
use Rattle.afdx_law_bounds.specs.Tables.{port_of, rule_of}
use Rattle.afdx_lawful.specs.Sources.{Came, Source}
use Rattle.afdx_police.specs.Arrival.{Arrival}
use Rattle.afdx_senders.specs.AllLines.{found_among, found_when, lines_when}
use Rattle.afdx_senders.specs.Followed.{ByPlace, Followed, came_next}
use Rattle.afdx_senders.specs.History.{AreOwn}
use Rattle.afdx_senders.specs.Lines.{after_came, came_there, found_at, found_by, lines_found}
use Rattle.afdx_senders.specs.Settling.{AreSources}
use Rattle.afdx_senders.specs.Setups.{Setup, came_from, is_of, own_frames, source_at, source_in, whose}
use Rattle.afdx_senders.specs.Sites.{came_at}
use Rattle.afdx_senders.specs.Terms.{terms_at}
use Rattle.afdx_senders.specs.declared.site_frame.SiteFrame.{SiteFrame}
use Rattle.afdx_senders.specs.declared.sites.SourceOf.{SourceOf}
use Rattle.afdx_senders.specs.declared.sites.SourceOf.TheVariants.{Elsewhere, Nobody}
use Rattle.afdx_senders.specs.declared.sites.SourceOf.TheVariants.{Source as OfSource, Unknown}

-- ---- the source of a link of the tables

pub record IsTerms (z : Setup) (place : ℕ) (s : Source) : Type 0 where
  pub row : LinkRow
  pub there : slice_get z.tables.links place ≡ Some row
  pub are : s ≡ terms_at z.tables z.recorded z.asked place row

module _ (z : Setup) (place : ℕ) where
  pub terms_of : (s : Source) → source_at z place ≡ Some s → IsTerms z place s
  unfolding source_at
  terms_of s is = by (z.is_judged place) (slice_get z.tables.links place) refl is
    where
      by : (b : Bool) (o : Option LinkRow) → slice_get z.tables.links place ≡ o →
          (if b then source_in z place o else None) ≡ Some s → IsTerms z place s
      by true None at e = absurd (cc)
      by true (Some row) at e = record {
        row = row;
        there = at;
        are = sym (same_Some (terms_at z.tables z.recorded z.asked place row) s e);
      }
      by false o at e = absurd (cc)

  pub judged_terms : (l : LinkRow) → z.is_judged place ≡ true → slice_get z.tables.links place ≡ Some l →
      source_at z place ≡ Some (terms_at z.tables z.recorded z.asked place l)
  unfolding source_at
  judged_terms l judged at =
      ap (λ (b : Bool). if b then source_in z place (slice_get z.tables.links place) else None) judged
      ∙ ap (source_in z place) at

-- its port is that of its link's system
pub port_same : (z : Setup) (place : ℕ) (s : Source) (l : LinkRow) → IsTerms z place s →
    slice_get z.tables.links place ≡ Some l → s.rule.port ≡ port_of z.tables l.from
unfolding rule_of
port_same z place s l is at =
    let same : is.row ≡ l = same_Some is.row l (sym is.there ∙ at) in
    ap (λ (t : Source). t.rule.port) is.are ∙ ap (λ (r : LinkRow). port_of z.tables r.from) same

-- ---- the sources that are followed

module _ (z : Setup) (xs : List Arrival) (at : ByPlace) (own : AreOwn z xs at) where
  pub source_there : (place : ℕ) (f : Followed) → at place ≡ Some f → source_at z place ≡ Some f.source
  source_there place f is = sym (own.sources place) ∙ ap (option_map (λ (g : Followed). g.source)) is

  pub none_there : (place : ℕ) → at place ≡ None → source_at z place ≡ None
  none_there place is = sym (own.sources place) ∙ ap (option_map (λ (g : Followed). g.source)) is

  pub all_sources : AreSources z.tables z.asked.until at
  all_sources place f is =
      let t = terms_of z place f.source (source_there place f is) in record {
        row = t.row;
        there = t.there;
        ends = ap (λ (s : Source). s.until) t.are;
      }

-- ---- one more frame

pub of_place : (place : ℕ) (w : SourceOf) → is_of place w ≡ true → w ≡ OfSource place
of_place place (OfSource k) is = ap OfSource (eqb-true k place is)
of_place place Elsewhere is = absurd (cc)
of_place place Unknown is = absurd (cc)
of_place place Nobody is = absurd (cc)

pub own_next : (z : Setup) (place : ℕ) (x : Arrival) (xs : List Arrival) (b : Bool) → is_of place (whose z x) ≡ b →
    own_frames z place (x ∷ xs) ≡ (if b then came_from x ∷ own_frames z place xs else own_frames z place xs)
unfolding own_frames
own_next z place x xs b is =
    ap (λ (c : Bool). map came_from (if c then x ∷ old else old)) is ∙ by b
  where
    old : List Arrival
    old = filter (λ y. is_of place (whose z y)) xs

    by : (c : Bool) → map came_from (if c then x ∷ old else old)
        ≡ (if c then came_from x ∷ map came_from old else map came_from old)
    by true = refl
    by false = refl

turned : (k place : ℕ) → nat_eq k place ≡ false → nat_eq place k ≡ false
turned k place other = by (nat_eq place k) refl
  where
    by : (b : Bool) → nat_eq place k ≡ b → nat_eq place k ≡ false
    by true same = let no = eq-eqb k place (sym (eqb-true place k same)) in absurd (cc)
    by false same = same

module _ (z : Setup) (x : SiteFrame) (xs : List Arrival) (at : ByPlace) (own : AreOwn z xs at) where
  abbrev a : Arrival
  a = came_at x

  not_its : (k : ℕ) (w : SourceOf) → whose z a ≡ w → is_of k w ≡ false →
      own_frames z k (a ∷ xs) ≡ own_frames z k xs
  not_its k w is other = own_next z k a xs false (ap (is_of k) is ∙ other)

  -- the frame is nobody's who is followed: all have the same frames as before
  same_own : ((k : ℕ) (f : Followed) → at k ≡ Some f → own_frames z k (a ∷ xs) ≡ own_frames z k xs) →
      AreOwn z (a ∷ xs) at
  same_own same = record {
    sources = own.sources;
    came = λ k f is. own.came k f is ∙ sym (same k f is);
  }

  at_source : (place : ℕ) (o : Option Followed) → at place ≡ o → whose z a ≡ OfSource place →
      AreOwn z (a ∷ xs) (came_there at x place o)
  at_source place None is at_place = same_own (λ k f there. by k f there (nat_eq place k) refl)
    where
      by : (k : ℕ) (f : Followed) → at k ≡ Some f → (b : Bool) → nat_eq place k ≡ b →
          own_frames z k (a ∷ xs) ≡ own_frames z k xs
      by k f there true same =
          let e = eqb-true place k same in
          let no : None ≡ Some f = sym is ∙ ap at e ∙ there in absurd (cc)
      by k f there false other = not_its k (OfSource place) at_place other
  at_source place (Some f) is at_place = record {
    sources = λ k. one k (nat_eq k place) refl;
    came = λ k g. two k g (nat_eq k place) refl;
  }
    where
      one : (k : ℕ) (b : Bool) → nat_eq k place ≡ b →
          option_map (λ (g : Followed). g.source) (if b then Some (came_next f x) else at k) ≡ source_at z k
      one k true same =
          sym (ap (option_map (λ (g : Followed). g.source)) is) ∙ own.sources place
          ∙ ap (source_at z) (sym (eqb-true k place same))
      one k false other = own.sources k

      two : (k : ℕ) (g : Followed) (b : Bool) → nat_eq k place ≡ b →
          (if b then Some (came_next f x) else at k) ≡ Some g → g.course.came ≡ own_frames z k (a ∷ xs)
      two k g true same there =
          let e = eqb-true k place same in
          ap (λ (h : Followed). h.course.came) (sym (same_Some (came_next f x) g there))
          ∙ ap (λ (l : List Came). came_from a ∷ l) (own.came place f is)
          ∙ sym (own_next z place a xs true (ap (is_of place) at_place ∙ eq-eqb place place refl))
          ∙ ap (λ (n : ℕ). own_frames z n (a ∷ xs)) (sym e)
      two k g false other there =
          own.came k g there
          ∙ sym (not_its k (OfSource place) at_place (turned k place other))

  pub came_own : (w : SourceOf) → whose z a ≡ w → AreOwn z (a ∷ xs) (after_came at x w)
  came_own (OfSource place) is = at_source place (at place) refl is
  came_own Elsewhere is = same_own (λ k f there. not_its k Elsewhere is refl)
  came_own Unknown is = same_own (λ k f there. not_its k Unknown is refl)
  came_own Nobody is = same_own (λ k f there. not_its k Nobody is refl)

  -- ---- what is found of it

  found_same : (w : SourceOf) → found_by at x w ≡ found_when z xs a w
  found_same (OfSource place) = by (at place) refl
    where
      by : (o : Option Followed) → at place ≡ o →
          found_at x o ≡ found_among (source_at z place) (own_frames z place xs) a
      by None is =
          ap (λ (s : Option Source). found_among s (own_frames z place xs) a) (sym (none_there z xs at own place is))
      by (Some f) is =
          ap (λ (l : List Came). found_among (Some f.source) l a) (own.came place f is)
          ∙ ap (λ (s : Option Source). found_among s (own_frames z place xs) a)
          (sym (source_there z xs at own place f is))
  found_same Elsewhere = refl
  found_same Unknown = refl
  found_same Nobody = refl

  pub lines_same : (w : SourceOf) → whose z a ≡ w → lines_found x (found_by at x w) ≡ lines_when z xs a
  unfolding lines_when
  lines_same w is = ap (lines_found x) (found_same w ∙ ap (found_when z xs a) (sym is))
