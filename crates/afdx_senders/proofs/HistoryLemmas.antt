-- What stands for all frames that came, as one more comes and lines are told.
use Rattle.std.proofs.Common.{◌≡◌, ℕ, ◌<◌, Bool, true, false, List, [], ◌∷◌, ◌++◌, length, map, refl, sym, ap, ◌∙◌, subst, arith}
use Rattle.std.proofs.lemmas.Bool.{lt-ltb, ltb-true}
use Rattle.std.proofs.lemmas.List.{append_assoc, length-append}
use Rattle.std.proofs.lemmas.List.Elements.{All-from_recursion, filter-append}
use Rattle.std.proofs.lemmas.List.Sorted.{IsPermutation-append_right, IsPermutation-refl, IsPermutation-sym, IsPermutation-trans, length_permutation}
use Rattle.std.proofs.lemmas.Option.{same_Some}
use Rattle.std.specs.List.{AllByRecursion}
use Rattle.std.specs.List.Sorted.{IsPermutation}
use Rattle.std.specs.Prelude.{filter, if◌then◌else◌, nat_eq, Option, Some, None, IfSome, Result, Ok, Err, OnErr, OnOk}
use Rattle.afdx_police.specs.Arrival.{Arrival}
use Rattle.afdx_senders.specs.AllLines.{all_singles, is_early, lines_coming, lines_when}
use Rattle.afdx_senders.specs.Followed.{AreFollowed, ByPlace, Followed, came_next, due_at, kept_at, StandsAt}
use Rattle.afdx_senders.specs.History.{AreOf, AreSettled, HaveTold, IsNoSooner, IsReachedBy, IsSettled, TellsNext}
use Rattle.afdx_senders.specs.Lines.{AddsLines, Line, MayComeThere, MayComeTo, after_came, came_there, found_by, line_of, lines_found}
use Rattle.afdx_senders.specs.Order.{AreInType, is_moment_before}
use Rattle.afdx_senders.specs.Settling.{Settled, Step, TakesOf, after_steps, lines_told}
use Rattle.afdx_senders.specs.Setups.{Setup, whose}
use Rattle.afdx_senders.specs.Sites.{among_of, came_at, recorded_in}
use Rattle.afdx_senders.specs.Standing.{SendersStand}
use Rattle.afdx_senders.specs.Telling.{AreTold, known_lines}
use Rattle.afdx_senders.specs.declared.followed.FollowedSources.{FollowedSources}
use Rattle.afdx_senders.specs.declared.sender_line.SenderLine.{SenderLine}
use Rattle.afdx_senders.specs.declared.senders.Senders.{Senders}
use Rattle.afdx_senders.specs.declared.site_frame.SiteFrame.{SiteFrame}
use Rattle.afdx_senders.specs.declared.sites.SenderSites.{SenderSites}
use Rattle.afdx_senders.specs.declared.sites.SourceOf.{SourceOf}
use Rattle.afdx_senders.specs.declared.sites.SourceOf.TheVariants.{Elsewhere, Nobody}
use Rattle.afdx_senders.specs.declared.sites.SourceOf.TheVariants.{Source as OfSource, Unknown}
use Rattle.afdx_senders.proofs.BegunLemmas.{when_late}
use Rattle.afdx_senders.proofs.EarlyLemmas.{early_singles}
use Rattle.afdx_senders.proofs.ListLemmas.{filter_permutation, filter_twice, none_passes, parts_swap}
use Rattle.afdx_senders.proofs.OverLemmas.{AreAfter, all_over, are_after, over_below}
use Rattle.afdx_senders.proofs.OwnLemmas.{came_own, lines_same}
use Rattle.afdx_senders.proofs.SettledLemmas.{IsPartly, all_settled, came_settled, may_come, partly}
use Rattle.afdx_senders.proofs.TellingLemmas.{holds_more, tells_all, tells_one}

pub always_err : {X E : Type 0} {P : Type 0} → P → (r : Result X E) → OnErr r P
always_err p (Ok x) = tt
always_err p (Err e) = p

pub ok_both : {X E : Type 0} {P Q R : Type 0} → (P → Q → R) → (r : Result X E) → OnOk r P → OnOk r Q → OnOk r R
ok_both f (Ok x) p q = f p q
ok_both f (Err e) p q = tt

all_partly : (at : ByPlace) (kept : FollowedSources) → AreFollowed at kept → (place : ℕ) (f : Followed) →
    at place ≡ Some f → IsPartly f
all_partly at kept are place f is =
    partly f (kept_at kept place) (subst (λ o. StandsAt o (kept_at kept place)) is (are place))

of_same : (z : Setup) (old new : Senders) → AreOf z old → new.sites ≡ old.sites →
    length new.kept.slots.items ≡ length old.kept.slots.items → AreOf z new
of_same z old new is sites room = record {
  tables = ap (λ (s : SenderSites). s.tables.now) sites ∙ is.tables;
  among = ap among_of sites ∙ is.among;
  recorded = ap (λ (s : SenderSites). recorded_in s.recorded) sites ∙ is.recorded;
  room = room ∙ is.room;
}

-- ---- one more frame

module _ (z : Setup) (x : SiteFrame) (xs : List Arrival) (told : List Line) (old : Senders)
    (h : HaveTold z (Some x.time) xs told old) (w : SourceOf) (is : whose z (came_at x) ≡ w) where
  abbrev a : Arrival
  a = came_at x

  may_there : (o : Option Followed) (place : ℕ) → h.at place ≡ o → MayComeThere x o
  may_there None place at = tt
  may_there (Some f) place at =
      may_come f (all_partly h.at old.kept h.stand.followed place f at) x.time (h.settled place f at)

  pub may_then : MayComeTo h.at x w
  may_then = by w
    where
      by : (v : SourceOf) → MayComeTo h.at x v
      by (OfSource place) = may_there (h.at place) place refl
      by Elsewhere = tt
      by Unknown = tt
      by Nobody = tt

  settled_there : (place : ℕ) (o : Option Followed) → h.at place ≡ o →
      AreSettled (Some x.time) (came_there h.at x place o)
  settled_there place None at = h.settled
  settled_there place (Some f) at = λ k g. by k g (nat_eq k place)
    where
      by : (k : ℕ) (g : Followed) (b : Bool) → (if b then Some (came_next f x) else h.at k) ≡ Some g →
          IsSettled (Some x.time) g
      by k g true there =
          subst (IsSettled (Some x.time)) (same_Some (came_next f x) g there)
          (came_settled f x (h.settled place f at))
      by k g false there = h.settled k g there

  settled_then : AreSettled (Some x.time) (after_came h.at x w)
  settled_then = by w
    where
      by : (v : SourceOf) → AreSettled (Some x.time) (after_came h.at x v)
      by (OfSource place) = settled_there place (h.at place) refl
      by Elsewhere = h.settled
      by Unknown = h.settled
      by Nobody = h.settled

  known_then : lines_when z xs a ++ known_lines z (Some x.time) xs ≡ known_lines z (Some x.time) (a ∷ xs)
  unfolding known_lines lines_coming
  known_then =
      ap (λ (l : List Line). lines_when z xs a ++ (lines_coming z xs ++ l))
      (sym (early_singles x.time z a xs (omega arith)))
      ∙ sym (append_assoc (lines_when z xs a) (lines_coming z xs)
      (filter (is_early (Some x.time)) (all_singles z (a ∷ xs))))

  pub one_came : (new : Senders) → new.sites ≡ old.sites →
      length new.kept.slots.items ≡ length old.kept.slots.items → SendersStand (after_came h.at x w) new →
      AddsLines (lines_found x (found_by h.at x w)) old.found new.found →
      HaveTold z (Some x.time) (a ∷ xs) told new
  one_came new sites room stand adds = record {
    at = after_came h.at x w;
    setup = of_same z old new h.setup sites room;
    own = came_own z x xs h.at h.own w is;
    settled = settled_then;
    stand = stand;
    lines =
        holds_more z (Some x.time) (Some x.time) xs (a ∷ xs) told (lines_when z xs a) old.found new.found h.lines
        (subst (λ (l : List Line). AddsLines l old.found new.found) (lines_same z x xs h.at h.own w is) adds)
        (subst (λ (l : List Line). IsPermutation (lines_when z xs a ++ known_lines z (Some x.time) xs) l) known_then
        (IsPermutation-refl (lines_when z xs a ++ known_lines z (Some x.time) xs)))
        (All-from_recursion (λ y. is_early (Some x.time) y ≡ false) (lines_when z xs a)
        (when_late z x.time xs a (omega arith)))
        (λ y e. e);
  }

-- ---- all that is due before a later time is told

early_later : (by before : Option ℕ) (m : ℕ) → IsNoSooner by before → is_moment_before by m ≡ true →
    is_moment_before before m ≡ true
early_later by None m later e = refl
early_later None (Some time) m later e = absurd later
early_later (Some by) (Some time) m later e =
    let less : m < by = ltb-true m by e in lt-ltb m time (omega (arith, less, later))

reached_later : (by before : Option ℕ) (f : Followed) → IsNoSooner by before → IsReachedBy by f.course →
    IsReachedBy before f.course
reached_later by None f later is = tt
reached_later None (Some time) f later is = absurd later
reached_later (Some by) (Some time) f later is = omega (arith, later, is)

module _ (z : Setup) (by before : Option ℕ) (xs : List Arrival) (told : List Line) (old mid : Senders)
    (h : HaveTold z by xs told old) (later : IsNoSooner by before) (steps : List Step)
    (settled : Settled z.tables before h.at steps mid)
    (adds : AddsLines (lines_told z.tables steps) old.found mid.found) where
  abbrev after : ByPlace
  after = after_steps h.at steps

  abbrev told_then : List Line
  told_then = lines_told z.tables steps

  abbrev soon : List Line
  soon = filter (is_early by) (all_singles z xs)

  abbrev until : List Line
  until = filter (is_early before) (all_singles z xs)

  then_after : AreAfter z before xs h.at steps
  then_after = are_after z before xs h.at steps settled.are h.own
      (λ place f is. reached_later by before f later (h.settled place f is).reached)

  then_settled : AreSettled before after
  then_settled place f is =
      all_settled before f (all_partly after mid.kept settled.stand.followed place f is)
      (then_after.reached place f is)
      (λ m due. settled.none place m (ap due_at is ∙ due))

  moved : IsPermutation until (told_then ++ soon)
  moved =
      subst (λ (l : List Line). IsPermutation l (told_then ++ soon))
      (all_over z before xs after then_after.own then_settled (all_partly after mid.kept settled.stand.followed))
      (subst (λ (l : List Line). IsPermutation (over_below after (length z.tables.links)) (told_then ++ l))
      (all_over z by xs h.at h.own h.settled (all_partly h.at old.kept h.stand.followed)) then_after.lines)

  -- none of these was to be told before
  none_soon : AllByRecursion (λ y. is_early by y ≡ false) told_then
  none_soon =
      let early = is_early by in
      let all = all_singles z xs in
      let same : filter early until ≡ soon =
      filter_twice early (is_early before) (λ y e. early_later by before y.moment later e) all in
      let twice : filter early soon ≡ soon = filter_twice early early (λ y e. e) all in
      let parts : filter early (told_then ++ soon) ≡ filter early told_then ++ soon =
      filter-append early told_then soon ∙ ap (λ (l : List Line). filter early told_then ++ l) twice in
      let long : length (filter early told_then ++ soon) ≡ length soon =
      ap length (sym parts)
      ∙ length_permutation (filter early until) (filter early (told_then ++ soon))
      (filter_permutation early until (told_then ++ soon) moved)
      ∙ ap length same in
      none_passes early told_then (none_of (filter early told_then)
      (omega (arith, long, length-append (filter early told_then) soon)))
    where
      none_of : (l : List Line) → length l ≡ 0 → l ≡ []
      none_of [] e = refl
      none_of (y ∷ l) e = absurd (omega (arith, e))

  known_more : IsPermutation (told_then ++ known_lines z by xs) (known_lines z before xs)
  unfolding known_lines
  known_more =
      IsPermutation-trans (told_then ++ (lines_coming z xs ++ soon)) (lines_coming z xs ++ (told_then ++ soon))
      (lines_coming z xs ++ until)
      (parts_swap told_then (lines_coming z xs) soon)
      (IsPermutation-append_right (lines_coming z xs) (told_then ++ soon) until
      (IsPermutation-sym until (told_then ++ soon) moved))

  pub is_settled : mid.sites ≡ old.sites → length mid.kept.slots.items ≡ length old.kept.slots.items →
      HaveTold z before xs told mid
  is_settled sites room = record {
    at = after;
    setup = of_same z old mid h.setup sites room;
    own = then_after.own;
    settled = then_settled;
    stand = settled.stand;
    lines =
        holds_more z by before xs xs told told_then old.found mid.found h.lines adds known_more
        (All-from_recursion (λ y. is_early by y ≡ false) told_then none_soon)
        (λ y e. early_later by before y.moment later e);
  }

-- ---- the next line is told

module _ (z : Setup) (before : Option ℕ) (xs : List Arrival) (told : List Line) (mid end : Senders)
    (h : HaveTold z before xs told mid) (sites : end.sites ≡ mid.sites)
    (room : length end.kept.slots.items ≡ length mid.kept.slots.items)
    (stands : (at : ByPlace) → SendersStand at mid → SendersStand at end) where
  with_lines : (told : List Line) → AreTold z before xs told (map line_of end.found) → HaveTold z before xs told end
  with_lines told lines = record {
    at = h.at;
    setup = of_same z mid end h.setup sites room;
    own = h.own;
    settled = h.settled;
    stand = stands h.at h.stand;
    lines = lines;
  }

  pub tells_next : (line : Option SenderLine) → TakesOf before mid.found line end.found → IfSome line AreInType →
      TellsNext z before xs told end line
  tells_next None takes numbers = (
    tells_all z before xs told mid.found mid.found h.lines takes.0,
    with_lines told (subst (λ (l : List SenderLine). AreTold z before xs told (map line_of l)) (sym takes.1) h.lines),
  )
  tells_next (Some x) takes numbers = (
    takes.0,
    with_lines (line_of x ∷ told) (tells_one z before xs told mid.found end.found h.lines x numbers takes),
  )
