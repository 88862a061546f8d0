-- Of which frame a line is.
use Rattle.std.proofs.Common.{◌≡◌, ℕ, ◌*◌, ◌<◌, zero, suc, Bool, true, false, ◌&&◌, List, [], ◌∷◌, ◌++◌, length, map, refl, sym, ap, ◌∙◌, subst, arith, ◌⊎◌, inl, inr}
use Rattle.std.proofs.lemmas.Bool.{eqb-true}
use Rattle.std.proofs.lemmas.List.Elements.{recursion_from_All}
use Rattle.std.proofs.lemmas.Nat.{le-div}
use Rattle.std.specs.List.{AllByRecursion, list_any}
use Rattle.std.specs.Prelude.{filter, if◌then◌else◌, nat_eq, nat_lt, not, slice_get, Option, Some, None}
use Rattle.afdx_config.specs.Reading.{link_of}
use Rattle.afdx_config.specs.Rows.{LinkRow}
use Rattle.afdx_conform.specs.Levels.{parts}
use Rattle.afdx_frame.specs.Layout.{link_named_by}
use Rattle.afdx_frame.specs.Sides.{is_side}
use Rattle.afdx_frame.specs.declared.link.Side.{Side}
use Rattle.afdx_frame.specs.declared.link.Side.TheVariants.{A, B}
use Rattle.afdx_frame.specs.declared.link.VlId.{VlId}
use Rattle.afdx_law_bounds.specs.Tables.{port_of}
use Rattle.afdx_lawful.specs.Flaws.{is_whole, whole_of}
use Rattle.afdx_lawful.specs.Judged.{is_cut_of, singles, waiting_of}
use Rattle.afdx_lawful.specs.Partners.{Waiting, joined, may_pair, other, waiting, waits_now, without_first}
use Rattle.afdx_lawful.specs.Sources.{Came, Source, hold, slow}
use Rattle.afdx_lawful.specs.declared.finding.SenderFinding.TheVariants.{Single}
use Rattle.afdx_lawful.proofs.PastLemmas.{all_and, all_but}
use Rattle.afdx_police.specs.Arrival.{Arrival}
use Rattle.afdx_senders.specs.AllLines.{all_lines, all_singles, found_when, lines_coming, lines_when, single_of, singles_below, singles_in}
use Rattle.afdx_senders.specs.Lines.{FoundBy, Line, OfSource, line_at, lines_at}
use Rattle.afdx_senders.specs.SenderLaws.{AreNumbered, AreTwo}
use Rattle.afdx_senders.specs.Setups.{Setup, came_from, is_of, own_frames, source_at, whose}
use Rattle.afdx_senders.specs.Sites.{has_link, is_sent_at, is_site, named_as, sent_as, sent_by, sent_in, source_of}
use Rattle.afdx_senders.specs.declared.sites.SourceOf.TheVariants.{Elsewhere, Nobody, Unknown}
use Rattle.afdx_senders.specs.declared.sites.SourceOf.TheVariants.{Source as OfSourceAt}
use Rattle.afdx_senders.proofs.ListLemmas.{all_joined, all_mapped, all_passed}
use Rattle.afdx_senders.proofs.OwnLemmas.{of_place, port_same, terms_of}

-- ---- among all frames this one came, after these

pub IsAt : List Arrival → List Arrival → Arrival → Type 0
IsAt [] past x = ⊥
IsAt (y ∷ ys) past x = ((y ≡ x) × (ys ≡ past)) ⊎ IsAt ys past x

two_of : (w : Arrival) (ys past : List Arrival) (x : Arrival) → AllByRecursion (AreTwo w) ys → IsAt ys past x →
    AreTwo w x
unfolding IsAt
two_of w [] past x h at = absurd at
two_of w (y ∷ ys) past x h (inl is) = subst (AreTwo w) is.0 h.0
two_of w (y ∷ ys) past x h (inr at) = two_of w ys past x h.1 at

pub one_at : (xs : List Arrival) (p q : List Arrival) (x y : Arrival) → AreNumbered xs → IsAt xs p x → IsAt xs q y →
    x.tag ≡ y.tag → x.side ≡ y.side → x.port ≡ y.port → (p ≡ q) × (x ≡ y)
unfolding IsAt
one_at [] p q x y h at there tag side port = absurd at
one_at (w ∷ ws) p q x y h (inl a) (inl b) tag side port = (sym a.1 ∙ b.1, sym a.0 ∙ b.0)
one_at (w ∷ ws) p q x y h (inl a) (inr b) tag side port =
    absurd (two_of w ws q y (recursion_from_All (AreTwo w) ws h.0.apart) b
    (ap (λ (v : Arrival). v.tag) a.0 ∙ tag) (ap (λ (v : Arrival). v.side) a.0 ∙ side)
    (ap (λ (v : Arrival). v.port) a.0 ∙ port))
one_at (w ∷ ws) p q x y h (inr a) (inl b) tag side port =
    absurd (two_of w ws p x (recursion_from_All (AreTwo w) ws h.0.apart) a
    (ap (λ (v : Arrival). v.tag) b.0 ∙ sym tag) (ap (λ (v : Arrival). v.side) b.0 ∙ sym side)
    (ap (λ (v : Arrival). v.port) b.0 ∙ sym port))
one_at (w ∷ ws) p q x y h (inr a) (inr b) tag side port = one_at ws p q x y h.1 a b tag side port

-- its numbers are such as frames have
pub numbers_at : (xs p : List Arrival) (x : Arrival) → AreNumbered xs → IsAt xs p x →
    (x.port < 0x100) × (x.tag < 0x10000000000000000)
unfolding IsAt
numbers_at [] p x h at = absurd at
numbers_at (y ∷ ys) p x h (inl is) =
    subst (λ (v : Arrival). (v.port < 0x100) × (v.tag < 0x10000000000000000)) is.0 (h.0.port, h.0.line)
numbers_at (y ∷ ys) p x h (inr at) = numbers_at ys p x h.1 at

-- ---- a line

pub record IsHeard (z : Setup) (xs : List Arrival) (u : Line) : Type 0 where
  pub frame : Arrival
  pub past : List Arrival
  pub at : IsAt xs past frame
  pub found : FoundBy
  pub is : u ≡ line_at frame found
  pub line : lines_when z past frame ≡ u ∷ []

pub record IsSingle (xs : List Arrival) (u : Line) : Type 0 where
  pub frame : Arrival
  pub past : List Arrival
  pub at : IsAt xs past frame
  pub side : u.side ≡ frame.side
  pub port : u.port ≡ frame.port
  pub line : u.line ≡ frame.tag
  pub later : frame.time < u.moment
  pub found : u.found ≡ OfSource (Single u.line ∷ [])

abbrev pub IsLine : Setup → List Arrival → Line → Type 0
IsLine z xs u = IsHeard z xs u ⊎ IsSingle xs u

-- ---- of frames as they came

module _ (z : Setup) (xs : List Arrival) where
  when_lines : (past : List Arrival) (x : Arrival) → IsAt xs past x → AllByRecursion (IsLine z xs) (lines_when z past x)
  unfolding lines_when
  when_lines past x at = by (found_when z past x (whose z x)) refl
    where
      by : (o : Option FoundBy) → found_when z past x (whose z x) ≡ o → AllByRecursion (IsLine z xs) (lines_at x o)
      by None e = tt
      by (Some found) e = (
        inl (record {
          frame = x;
          past = past;
          at = at;
          found = found;
          is = refl;
          line = ap (lines_at x) e;
        }),
        tt,
      )

  coming_lines : (ys : List Arrival) → ((p : List Arrival) (x : Arrival) → IsAt ys p x → IsAt xs p x) →
      AllByRecursion (IsLine z xs) (lines_coming z ys)
  unfolding IsAt lines_coming
  coming_lines [] among = tt
  coming_lines (y ∷ ys) among =
      all_joined (IsLine z xs) (lines_when z ys y) (lines_coming z ys)
      (when_lines ys y (among ys y (inl (refl, refl))))
      (coming_lines ys (λ p x at. among p x (inr at)))

  -- ---- of those that waited in vain

  record IsOwn (place : ℕ) (c : Came) : Type 0 where
    pub frame : Arrival
    pub past : List Arrival
    pub at : IsAt xs past frame
    pub of : whose z frame ≡ OfSourceAt place
    pub is : c ≡ came_from frame

  all_at : (ys : List Arrival) → ((p : List Arrival) (x : Arrival) → IsAt ys p x → IsAt xs p x) →
      AllByRecursion (λ x. (p : List Arrival) × IsAt xs p x) ys
  unfolding IsAt
  all_at [] among = tt
  all_at (y ∷ ys) among = ((ys, among ys y (inl (refl, refl))), all_at ys (λ p x at. among p x (inr at)))

  own_are : (place : ℕ) → AllByRecursion (IsOwn place) (own_frames z place xs)
  unfolding own_frames
  own_are place =
      all_mapped (IsOwn place) came_from (filter (λ x. is_of place (whose z x)) xs)
      (all_passed (λ x. (p : List Arrival) × IsAt xs p x) (λ x. IsOwn place (came_from x))
      (λ x. is_of place (whose z x)) xs
      (λ x at is. record { frame = x; past = at.0; at = at.1; of = of_place place (whose z x) is; is = refl })
      (all_at xs (λ p x at. at)))

waiting_all : (s : Source) (P : Came → Type 0) (side : Side) (ws : List Came) → AllByRecursion P ws →
    AllByRecursion (λ y. P y.frame) (waiting s side ws)
unfolding waiting
waiting_all s P side [] h = tt
waiting_all s P side (x ∷ past) h = by (is_side side x.side) (waiting_all s P side past h.1)
  where
    Is : Waiting → Type 0
    Is y = P y.frame

    one : (b : Bool) → AllByRecursion (λ y. P y.frame) (waiting s side past) → AllByRecursion (λ y. P y.frame)
        (if b then waiting s side past else waiting s side past ++ waits_now s past x ∷ [])
    one true rest = rest
    one false rest = all_and (λ y. P y.frame) (waiting s side past) (waits_now s past x) rest h.0

    by : (b : Bool) → AllByRecursion (λ y. P y.frame) (waiting s side past) → AllByRecursion (λ y. P y.frame)
        (if b then joined s past x (waiting s side past) (waiting s (other side) past)
        else without_first (may_pair s x) (waiting s side past))
    by true rest = one (list_any (may_pair s x) (waiting s (other side) past)) rest
    by false rest = all_but (λ y. P y.frame) (may_pair s x) (waiting s side past) rest

waiting_are : (s : Source) (P : Came → Type 0) (side : Side) (ws : List Came) → AllByRecursion P ws →
    AllByRecursion (λ y. P y.frame) (waiting_of s side ws)
waiting_are s P side ws h =
    by s.is_paired (waiting_all s P side (whole_of ws) (all_passed P P is_whole ws (λ x k e. k) h))
  where
    by : (b : Bool) → AllByRecursion (λ y. P y.frame) (waiting s side (whole_of ws)) →
        AllByRecursion (λ y. P y.frame) (if b then waiting s side (whole_of ws) else [])
    by true rest = rest
    by false rest = tt

singles_are : (s : Source) (P : Came → Type 0) (side : Side) (ws : List Came) → AllByRecursion P ws →
    AllByRecursion (λ y. P y.frame) (singles s side ws)
singles_are s P side ws h =
    all_passed (λ y. P y.frame) (λ y. P y.frame) (λ y. not (is_cut_of s ws y)) (waiting_of s side ws) (λ y k e. k)
    (waiting_are s P side ws h)

-- ---- where its system stands

and_right : (a b : Bool) → (a && b) ≡ true → b ≡ true
and_right true b h = h
and_right false b h = absurd (cc)

module _ (z : Setup) (x : Arrival) (place : ℕ) where
  record IsSentFrom : Type 0 where
    pub row : LinkRow
    pub there : slice_get z.tables.links place ≡ Some row
    pub port : port_of z.tables row.from ≡ x.port

  sent_there : (k : ℕ) (o : Option LinkRow) → slice_get z.tables.links k ≡ o →
      sent_as z.tables x.port k o ≡ OfSourceAt place → IsSentFrom
  unfolding is_sent_at
  sent_there k None at is = absurd (cc)
  sent_there k (Some l) at is = by (is_sent_at z.tables l x.port) refl is
    where
      by : (b : Bool) → is_sent_at z.tables l x.port ≡ b → (if b then OfSourceAt k else Elsewhere) ≡ OfSourceAt place →
          IsSentFrom
      by true sent e =
          let same : k ≡ place = cc in record {
            row = l;
            there = subst (λ (n : ℕ). slice_get z.tables.links n ≡ Some l) same at;
            port = eqb-true (port_of z.tables l.from) x.port
                (and_right (nat_lt l.from z.tables.own) (nat_eq (port_of z.tables l.from) x.port) sent);
          }
      by false sent e = absurd (cc)

  sent_from : whose z x ≡ OfSourceAt place → IsSentFrom
  unfolding source_of sent_by
  sent_from is = by (link_named_by x.bytes) is
    where
      beyond : (b : Bool) → (if b then Elsewhere else Unknown) ≡ OfSourceAt place → IsSentFrom
      beyond true e = absurd (cc)
      beyond false e = absurd (cc)

      two : (vl : VlId) (o : Option ℕ) → sent_in z.tables z.among x.port vl o ≡ OfSourceAt place → IsSentFrom
      two vl None e = beyond (has_link z.among vl.0) e
      two vl (Some k) e = sent_there k (slice_get z.tables.links k) refl e

      one : (b : Bool) (vl : VlId) → (if b then sent_by z.tables z.among x.port vl else Nobody) ≡ OfSourceAt place
          → IsSentFrom
      one true vl e = two vl (link_of z.tables.links vl.0) e
      one false vl e = absurd (cc)

      by : (o : Option VlId) → named_as z.tables z.among z.recorded x o ≡ OfSourceAt place → IsSentFrom
      by None e = absurd (cc)
      by (Some vl) e = one (is_site z.tables z.recorded x.side x.port) vl e

-- a frame waits for some time
hold_some : (s : Source) → s.by.drift < parts → 0 < hold s
hold_some s small =
    let some = le-div 1 (parts * 100000000) (slow s) (omega (arith, small)) (omega arith) in
    omega (arith, some)

module _ (z : Setup) (xs : List Arrival) (place : ℕ) (s : Source) (is : source_at z place ≡ Some s)
    (small : s.by.drift < parts) where
  single_line : (y : Waiting) → IsOwn z xs place y.frame → IsLine z xs (single_of s y)
  single_line y own =
      let from = sent_from z own.frame place own.of in
      let some = hold_some s small in
      let time = ap (λ (c : Came). c.time) own.is in
      inr (record {
        frame = own.frame;
        past = own.past;
        at = own.at;
        side = ap (λ (c : Came). c.side) own.is;
        port = port_same z place s from.row (terms_of z place s is) from.there ∙ from.port;
        line = ap (λ (c : Came). c.line) own.is;
        later = omega (arith, some, time);
        found = refl;
      })

  its_lines : (ys : List Waiting) → AllByRecursion (λ y. IsOwn z xs place y.frame) ys →
      AllByRecursion (IsLine z xs) (map (single_of s) ys)
  its_lines [] h = tt
  its_lines (y ∷ ys) h = (single_line y h.0, its_lines ys h.1)

  pub place_lines : AllByRecursion (IsLine z xs) (singles_in (Some s) (own_frames z place xs))
  place_lines =
      let own = own_frames z place xs in
      its_lines (singles s A own ++ singles s B own)
      (all_joined (λ y. IsOwn z xs place y.frame) (singles s A own) (singles s B own)
      (singles_are s (IsOwn z xs place) A own (own_are z xs place))
      (singles_are s (IsOwn z xs place) B own (own_are z xs place)))

module _ (z : Setup) (xs : List Arrival) (small : z.asked.by.drift < parts) where
  below_lines : (n : ℕ) → AllByRecursion (IsLine z xs) (singles_below z xs n)
  unfolding singles_below
  below_lines zero = tt
  below_lines (suc n) =
      all_joined (IsLine z xs) (singles_in (source_at z n) (own_frames z n xs)) (singles_below z xs n)
      (by (source_at z n) refl) (below_lines n)
    where
      by : (o : Option Source) → source_at z n ≡ o → AllByRecursion (IsLine z xs) (singles_in o (own_frames z n xs))
      by None e = tt
      by (Some s) e =
          let same = ap (λ (t : Source). t.by.drift) (terms_of z n s e).are in
          place_lines z xs n s e (omega (arith, small, same))

  -- each line is of a frame
  pub all_are_lines : AllByRecursion (IsLine z xs) (all_lines z xs)
  unfolding all_lines
  all_are_lines =
      all_joined (IsLine z xs) (lines_coming z xs) (all_singles z xs) (coming_lines z xs xs (λ p x at. at))
      (below_lines (length z.tables.links))
