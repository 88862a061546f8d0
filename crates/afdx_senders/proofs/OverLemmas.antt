-- The lines of frames that wait no longer, of all sources that are followed.
use Rattle.std.proofs.Common.{◌≡◌, ℕ, ◌<◌, ◌≤◌, zero, suc, Bool, true, false, true≢false, ◌≢◌, List, [], ◌∷◌, ◌++◌, length, map, refl, sym, ap, ap₂, ◌∙◌, subst, arith}
use Rattle.std.proofs.lemmas.Bool.{eq-eqb, eqb-true}
use Rattle.std.proofs.lemmas.List.{append_assoc, map-append}
use Rattle.std.proofs.lemmas.List.Elements.{filter-append}
use Rattle.std.proofs.lemmas.List.Sorted.{IsPermutation-append_comm, IsPermutation-append_left, IsPermutation-append_right, IsPermutation-refl, IsPermutation-trans}
use Rattle.std.proofs.lemmas.Option.{same_Some, slice_get_within}
use Rattle.std.specs.List.Sorted.{IsPermutation}
use Rattle.std.specs.Prelude.{filter, if◌then◌else◌, nat_eq, not, option_map, Option, Some, None}
use Rattle.afdx_law_bounds.specs.Tables.{port_of}
use Rattle.afdx_frame.specs.declared.link.Side.{Side}
use Rattle.afdx_frame.specs.declared.link.Side.TheVariants.{A, B}
use Rattle.afdx_lawful.specs.Courses.{Course, Unpaired, judge_waiting, next_told, over, told_at, told_on, waited_of}
use Rattle.afdx_lawful.specs.Judged.{is_cut_of, singles, waiting_of}
use Rattle.afdx_lawful.specs.Partners.{Waiting}
use Rattle.afdx_lawful.specs.Sources.{Came, Source}
use Rattle.afdx_lawful.specs.Tallies.{alone_of}
use Rattle.afdx_lawful.proofs.TallyLemmas.{alone_is}
use Rattle.afdx_police.specs.Arrival.{Arrival}
use Rattle.afdx_senders.specs.AllLines.{all_singles, is_early, single_of, singles_below, singles_in}
use Rattle.afdx_senders.specs.Followed.{ByPlace, Followed, due_at, put_at, told_next}
use Rattle.afdx_senders.specs.History.{AreOwn, AreSettled, IsReachedBy, IsSettled}
use Rattle.afdx_senders.specs.Lines.{Line, lines_single}
use Rattle.afdx_senders.specs.Order.{is_moment_before}
use Rattle.afdx_senders.specs.Settling.{AreSteps, Step, after_steps, lines_told}
use Rattle.afdx_senders.specs.Setups.{Setup, own_frames, source_at}
use Rattle.afdx_senders.proofs.EarlyLemmas.{early_of}
use Rattle.afdx_senders.proofs.ListLemmas.{filter_swap, parts_swap}
use Rattle.afdx_senders.proofs.OwnLemmas.{none_there, port_same, source_there, terms_of}
use Rattle.afdx_senders.proofs.SettledLemmas.{IsPartly, told_reached}
use Rattle.afdx_senders.proofs.WaitingLemmas.{is_over}

-- the lines of a source's frames that were told to wait no longer
pub over_of : Option Followed → List Line
over_of None = []
over_of (Some f) = map (single_of f.source) (alone_of f.course.over_a ++ alone_of f.course.over_b)

-- of all sources before a place
pub over_below : ByPlace → ℕ → List Line
over_below at zero = []
over_below at (suc n) = over_of (at n) ++ over_below at n

-- ---- one more of a source

alone_more : (s : Source) (c : Course) (y : Waiting) (us : List Unpaired) → alone_of (us ++ judge_waiting s c y ∷ [])
    ≡ alone_of us ++ (if is_cut_of s c.came y then [] else y ∷ [])
alone_more s c y us =
    ap waited_of (filter-append (λ (u : Unpaired). not u.is_cut) us (judge_waiting s c y ∷ []))
    ∙ map-append (λ (u : Unpaired). u.waited) (filter (λ (u : Unpaired). not u.is_cut) us)
    (filter (λ (u : Unpaired). not u.is_cut) (judge_waiting s c y ∷ []))
    ∙ ap (λ (l : List Waiting). alone_of us ++ l) (by (is_cut_of s c.came y))
  where
    by : (b : Bool) → waited_of (if not b then judge_waiting s c y ∷ [] else []) ≡ (if b then [] else y ∷ [])
    by true = refl
    by false = refl

module _ (s : Source) (c : Course) (y : Waiting) where
  its_lines : map (single_of s) (if is_cut_of s c.came y then [] else y ∷ [])
      ≡ (if is_cut_of s c.came y then [] else single_of s y ∷ [])
  its_lines = by (is_cut_of s c.came y)
    where
      by : (b : Bool) → map (single_of s) (if b then [] else y ∷ []) ≡ (if b then [] else single_of s y ∷ [])
      by true = refl
      by false = refl

  one_over : (side : Side) →
      IsPermutation (over_of (Some (record { source = s; course = told_on s c y side })))
      ((if is_cut_of s c.came y then [] else single_of s y ∷ [])
      ++ over_of (Some (record { source = s; course = c })))
  unfolding over_of
  one_over A =
      let la = map (single_of s) (alone_of c.over_a) in
      let lb = map (single_of s) (alone_of c.over_b) in
      let ys = if is_cut_of s c.came y then [] else single_of s y ∷ [] in
      subst (λ (l : List Line). IsPermutation (map (single_of s)
      (alone_of (c.over_a ++ judge_waiting s c y ∷ []) ++ alone_of c.over_b)) (ys ++ l))
      (sym (map-append (single_of s) (alone_of c.over_a) (alone_of c.over_b)))
      (subst (λ (l : List Line). IsPermutation l (ys ++ (la ++ lb)))
      (sym (ap (λ (l : List Waiting). map (single_of s) (l ++ alone_of c.over_b)) (alone_more s c y c.over_a)
      ∙ map-append (single_of s) (alone_of c.over_a ++ (if is_cut_of s c.came y then [] else y ∷ []))
      (alone_of c.over_b)
      ∙ ap (λ (l : List Line). l ++ lb)
      (map-append (single_of s) (alone_of c.over_a) (if is_cut_of s c.came y then [] else y ∷ [])
      ∙ ap (λ (l : List Line). la ++ l) its_lines)
      ∙ append_assoc la ys lb))
      (parts_swap la ys lb))
  one_over B =
      let la = map (single_of s) (alone_of c.over_a) in
      let lb = map (single_of s) (alone_of c.over_b) in
      let ys = if is_cut_of s c.came y then [] else single_of s y ∷ [] in
      subst (λ (l : List Line). IsPermutation (map (single_of s)
      (alone_of c.over_a ++ alone_of (c.over_b ++ judge_waiting s c y ∷ []))) (ys ++ l))
      (sym (map-append (single_of s) (alone_of c.over_a) (alone_of c.over_b)))
      (subst (λ (l : List Line). IsPermutation l (ys ++ (la ++ lb)))
      (sym (ap (λ (l : List Waiting). map (single_of s) (alone_of c.over_a ++ l)) (alone_more s c y c.over_b)
      ∙ map-append (single_of s) (alone_of c.over_a)
      (alone_of c.over_b ++ (if is_cut_of s c.came y then [] else y ∷ []))
      ∙ ap (λ (l : List Line). la ++ l)
      (map-append (single_of s) (alone_of c.over_b) (if is_cut_of s c.came y then [] else y ∷ [])
      ∙ ap (λ (l : List Line). lb ++ l) its_lines)
      ∙ sym (append_assoc la lb ys)))
      (IsPermutation-append_comm (la ++ lb) ys))

pub told_over : (f : Followed) (y : Waiting) (port : ℕ) → f.source.rule.port ≡ port →
    IsPermutation (over_of (Some (told_next f y))) (lines_single port f y ++ over_of (Some f))
told_over f y port is =
    subst (λ (n : ℕ). IsPermutation (over_of (Some (told_next f y))) (lines_single n f y ++ over_of (Some f))) is
    (one_over f.source f.course y y.frame.side)

-- ---- of all sources

below_same : (at : ByPlace) (place n : ℕ) (g : Followed) → n ≤ place →
    over_below (put_at place g at) n ≡ over_below at n
unfolding over_below
below_same at place zero g past = refl
below_same at place (suc n) g past =
    ap₂ (λ (a b : List Line). a ++ b) (by (nat_eq n place) refl) (below_same at place n g (omega (arith, past)))
  where
    by : (b : Bool) → nat_eq n place ≡ b → over_of (if b then Some g else at n) ≡ over_of (at n)
    by true same = let e = eqb-true n place same in absurd (omega (arith, e, past))
    by false other = refl

pub below_put : (at : ByPlace) (place n : ℕ) (f g : Followed) (extra : List Line) → place < n → at place ≡ Some f →
    IsPermutation (over_of (Some g)) (extra ++ over_of (Some f)) →
    IsPermutation (over_below (put_at place g at) n) (extra ++ over_below at n)
unfolding over_below
below_put at place zero f g extra within is more = absurd (omega (arith, within))
below_put at place (suc n) f g extra within is more =
    by (nat_eq n place) refl (λ less. below_put at place n f g extra less is more)
  where
    rest : List Line
    rest = over_below at n

    by : (b : Bool) → nat_eq n place ≡ b
        → (place < n → IsPermutation (over_below (put_at place g at) n) (extra ++ rest))
        → IsPermutation (over_of (if b then Some g else at n) ++ over_below (put_at place g at) n)
        (extra ++ (over_of (at n) ++ rest))
    by true same below =
        let e : n ≡ place = eqb-true n place same in
        subst (λ (l : List Line). IsPermutation (over_of (Some g) ++ l) (extra ++ (over_of (at n) ++ rest)))
        (sym (below_same at place n g (omega (arith, e))))
        (subst (λ (l : List Line). IsPermutation (over_of (Some g) ++ rest) l)
        (append_assoc extra (over_of (at n)) rest)
        (subst (λ (o : Option Followed). IsPermutation (over_of (Some g) ++ rest) ((extra ++ over_of o) ++ rest))
        (sym (ap at e ∙ is))
        (IsPermutation-append_left rest (over_of (Some g)) (extra ++ over_of (Some f)) more)))
    by false other below =
        IsPermutation-trans (over_of (at n) ++ over_below (put_at place g at) n) (over_of (at n) ++ (extra ++ rest))
        (extra ++ (over_of (at n) ++ rest))
        (IsPermutation-append_right (over_of (at n)) (over_below (put_at place g at) n) (extra ++ rest)
        (below (still_less n place other within)))
        (parts_swap (over_of (at n)) extra rest)
      where
        still_less : (n place : ℕ) → nat_eq n place ≡ false → place < suc n → place < n
        still_less n place other less =
            let ne : n ≢ place = λ e. true≢false (sym (eq-eqb n place e) ∙ other) in omega (arith, less, ne)

-- ---- steps

module _ (z : Setup) (before : Option ℕ) (xs : List Arrival) where
  abbrev AreReached : ByPlace → Type 0
  AreReached at = (place : ℕ) (f : Followed) → at place ≡ Some f → IsReachedBy before f.course

  came_as : (s : Source) (c : Course) (y : Waiting) (side : Side) → (told_on s c y side).came ≡ c.came
  came_as s c y A = refl
  came_as s c y B = refl

  step_own : (at : ByPlace) (place : ℕ) (f : Followed) (y : Waiting) → at place ≡ Some f → AreOwn z xs at →
      AreOwn z xs (put_at place (told_next f y) at)
  step_own at place f y is own = record {
    sources = λ k. one k (nat_eq k place) refl;
    came = λ k g. two k g (nat_eq k place) refl;
  }
    where
      one : (k : ℕ) (b : Bool) → nat_eq k place ≡ b →
          option_map (λ (g : Followed). g.source) (if b then Some (told_next f y) else at k) ≡ source_at z k
      one k true same =
          sym (ap (option_map (λ (g : Followed). g.source)) is) ∙ own.sources place
          ∙ ap (source_at z) (sym (eqb-true k place same))
      one k false other = own.sources k

      two : (k : ℕ) (g : Followed) (b : Bool) → nat_eq k place ≡ b →
          (if b then Some (told_next f y) else at k) ≡ Some g → g.course.came ≡ own_frames z k xs
      two k g true same there =
          ap (λ (h : Followed). h.course.came) (sym (same_Some (told_next f y) g there))
          ∙ came_as f.source f.course y y.frame.side ∙ own.came place f is
          ∙ ap (λ (n : ℕ). own_frames z n xs) (sym (eqb-true k place same))
      two k g false other there = own.came k g there

  step_reached : (at : ByPlace) (place : ℕ) (f : Followed) (y : Waiting) → at place ≡ Some f →
      is_moment_before before (told_at f.source y) ≡ true → AreReached at → AreReached (put_at place (told_next f y) at)
  step_reached at place f y is due reached k g = by (nat_eq k place)
    where
      by : (b : Bool) → (if b then Some (told_next f y) else at k) ≡ Some g → IsReachedBy before g.course
      by true there =
          subst (λ (h : Followed). IsReachedBy before h.course) (same_Some (told_next f y) g there)
          (told_reached before f.source f.course y y.frame.side (reached place f is) due)
      by false there = reached k g there

  -- it is due before that time
  due_then : (f : Followed) (y : Waiting) (o : Option Followed) (m : ℕ) → o ≡ Some f →
      next_told f.source f.course ≡ Some y → due_at o ≡ Some m → is_moment_before before m ≡ true →
      is_moment_before before (told_at f.source y) ≡ true
  due_then f y o m is next due early =
      ap (is_moment_before before) (same_Some (told_at f.source y) m
      (sym (ap due_at is ∙ ap (option_map (told_at f.source)) next) ∙ due)) ∙ early

  pub record AreAfter (at : ByPlace) (steps : List Step) : Type 0 where
    pub own : AreOwn z xs (after_steps at steps)
    pub reached : AreReached (after_steps at steps)
    pub lines : IsPermutation (over_below (after_steps at steps) (length z.tables.links))
        (lines_told z.tables steps ++ over_below at (length z.tables.links))

  pub are_after : (at : ByPlace) (steps : List Step) → AreSteps z.tables before at steps → AreOwn z xs at →
      AreReached at → AreAfter at steps
  unfolding after_steps AreSteps lines_told
  are_after at [] are own reached =
      record { own = own; reached = reached; lines = IsPermutation-refl (over_below at (length z.tables.links)) }
  are_after at (s ∷ past) are own reached =
      let n = length z.tables.links in
      let mid = after_steps at past in
      let so_far = are_after at past are.1 own reached in
      let is = are.0 in
      let f = s.followed in
      let t = terms_of z s.place f.source (source_there z xs mid so_far.own s.place f is.is_followed) in
      let single = lines_single (port_of z.tables s.row.from) f s.waited in
      record {
        own = step_own mid s.place f s.waited is.is_followed so_far.own;
        reached = step_reached mid s.place f s.waited is.is_followed
            (due_then f s.waited (mid s.place) is.due.0 is.is_followed is.next is.due.1 is.due.2) so_far.reached;
        lines =
            subst (λ (l : List Line). IsPermutation (over_below (put_at s.place (told_next f s.waited) mid) n) l)
            (sym (append_assoc single (lines_told z.tables past) (over_below at n)))
            (IsPermutation-trans (over_below (put_at s.place (told_next f s.waited) mid) n) (single ++ over_below mid n)
            (single ++ (lines_told z.tables past ++ over_below at n))
            (below_put mid s.place n f (told_next f s.waited) single
            (slice_get_within z.tables.links s.place s.row is.there)
            is.is_followed
            (told_over f s.waited (port_of z.tables s.row.from) (port_same z s.place f.source s.row t is.there)))
            (IsPermutation-append_right single (over_below mid n) (lines_told z.tables past ++ over_below at n)
            so_far.lines));
      }

  -- ---- what is settled

  module _ (at : ByPlace) (own : AreOwn z xs at) (settled : AreSettled before at)
      (partly : (place : ℕ) (f : Followed) → at place ≡ Some f → IsPartly f) where
    told_singles : (f : Followed) (side : Side) → IsPartly f → IsSettled before f →
        filter (is_over f.source before) (singles f.source side f.course.came) ≡ alone_of (over f.course side)
    told_singles f side is over_now =
        let whole = λ (y : Waiting). not (is_cut_of f.source f.course.came y) in
        filter_swap (is_over f.source before) whole (waiting_of f.source side f.course.came)
        ∙ ap (filter whole) (sym (over_now.over side))
        ∙ alone_is f.source f.course.came (over f.course side) (is.course.judged side)

    at_place : (place : ℕ) (o : Option Followed) → at place ≡ o →
        over_of o ≡ filter (is_early before) (singles_in (source_at z place) (own_frames z place xs))
    unfolding over_of
    at_place place None is =
        ap (λ (o : Option Source). filter (is_early before) (singles_in o (own_frames z place xs)))
        (sym (none_there z xs at own place is))
    at_place place (Some f) is =
        sym (ap (λ (o : Option Source). filter (is_early before) (singles_in o (own_frames z place xs)))
        (source_there z xs at own place f is)
        ∙ ap (λ (l : List Came). filter (is_early before) (singles_in (Some f.source) l)) (sym (own.came place f is))
        ∙ early_of f.source before f.course.came
        ∙ ap₂ (λ (a b : List Waiting). map (single_of f.source) (a ++ b))
        (told_singles f A (partly place f is) (settled place f is))
        (told_singles f B (partly place f is) (settled place f is)))

    below_settled : (n : ℕ) → over_below at n ≡ filter (is_early before) (singles_below z xs n)
    unfolding over_below singles_below
    below_settled zero = refl
    below_settled (suc n) =
        ap₂ (λ (a b : List Line). a ++ b) (at_place n (at n) refl) (below_settled n)
        ∙ sym (filter-append (is_early before) (singles_in (source_at z n) (own_frames z n xs)) (singles_below z xs n))

    pub all_over : over_below at (length z.tables.links) ≡ filter (is_early before) (all_singles z xs)
    all_over = below_settled (length z.tables.links)
