-- What is kept of all keys, once a frame came or left.
use Rattle.std.proofs.Common.{◌≡◌, ℕ, zero, suc, ◌+◌, ◌<◌, ◌≤◌, Bool, true, false, ◌&&◌, ◌||◌, List, [], ◌∷◌, ◌++◌, map, length, take, get_or, reverse, refl, sym, ap, ◌∙◌, subst, arith, true≢false}
use Rattle.std.proofs.lemmas.Bool.{and_parts, eq-eqb, ltb-false}
use Rattle.std.proofs.lemmas.List.{length-map, length-reverse, map-append, take_more}
use Rattle.std.specs.Prelude.{Option, Some, None, cond, filter, nat_eq, nat_le, not, option_and_then, slice_get, if◌then◌else◌}
use Rattle.std.specs.List.{list_any, AllByRecursion}
use Rattle.afdx_law_bounds.specs.Tables.{port_of}
use Rattle.afdx_config.specs.Lawful.{IsLawfulSwitch}
use Rattle.afdx_config.specs.Reading.{link_of}
use Rattle.afdx_config.specs.Rows.{LinkRow, Rows}
use Rattle.afdx_conform.specs.Explanations.{from_time}
use Rattle.afdx_conform.specs.Leeway.{reach}
use Rattle.afdx_conform.specs.LimitRanges.{most_bytes}
use Rattle.afdx_frame.specs.Layout.{link_named_by}
use Rattle.afdx_frame.specs.declared.link.Side.{Side}
use Rattle.afdx_frame.specs.declared.link.VlId.{VlId}
use Rattle.afdx_frame.specs.Sides.{is_side}
use Rattle.afdx_police.specs.Arrival.{Arrival, names}
use Rattle.afdx_input_lines.specs.declared.role.Role.TheVariants.{Came, Left}
use Rattle.afdx_input_runs.specs.Joining.{Frame}
use Rattle.afdx_command_conform.specs.Choices.{Choices, counted, counts, is_behind, is_before, is_in_time, is_passed}
use Rattle.afdx_command_conform.specs.Frames.{frame_with, gone_of, is_arrival_of, is_stranger, left_at, link_to, place_named}
use Rattle.afdx_command_conform.specs.Keeping.{AreKept, Given, came_to, given_of, given_with, with_came, with_left, with_strange}
use Rattle.afdx_command_conform.specs.Keys.{is_key, is_link, key_with}
use Rattle.afdx_command_conform.specs.Lines.{Due, stranger_due}
use Rattle.afdx_command_conform.specs.Slots.{AreFalling}
use Rattle.afdx_command_conform.specs.Tapped.{is_heard, is_judged, judged_to}
use Rattle.afdx_command_conform.specs.declared.kept.KeptByKey.{KeptByKey}
use Rattle.afdx_command_conform.specs.declared.key.Key.{Key}
use Rattle.afdx_command_conform.proofs.GivenLemmas.{all-filter, counted-more, falling-more, given-from, given_from, kept-same, linked, strange-times}
use Rattle.afdx_command_conform.proofs.CameLemmas.{given-came, given-unheard, given-unnamed}
use Rattle.afdx_command_conform.proofs.LeftLemmas.{given-left, given-strange, given-unseen}
use Rattle.afdx_command_conform.proofs.TappedLemmas.{any-fewer, filter-push, filter-pushed, seen_ports}
use Rattle.afdx_command_conform.proofs.PortLemmas.{came-step, came-strange, fresh-port, none-yet}

-- ---- a frame counts

pub counts-time : (t : Rows) (c : Choices) (x : Frame) → counts t c x ≡ true → is_before c x.role x.arrival.time ≡ false
unfolding counts
counts-time t c x e = by (is_before c x.role x.arrival.time)
    (and_parts (not (is_before c x.role x.arrival.time)) (not (is_behind x.arrival.time c.until))
    (and_parts (is_in_time c x) (not (is_passed t c x))
    (and_parts (is_in_time c x && not (is_passed t c x)) (nat_le (length x.arrival.bytes) most_bytes) e).0).0).0
  where
    by : (v : Bool) → not v ≡ true → v ≡ false
    by false h = refl
    by true h = absurd (true≢false (sym h))

pub came-start : (t : Rows) (c : Choices) (a : Arrival) → counts t c (frame_with Came a) ≡ true
    → from_time c.by.start ≤ a.time
came-start t c a e = let h = ltb-false a.time (from_time c.by.start) (counts-time t c (frame_with Came a) e) in
    omega (arith, h)

pub left-start : (t : Rows) (c : Choices) (a : Arrival) → counts t c (frame_with Left a) ≡ true
    → from_time c.by.start ≤ a.time + reach c.by
left-start t c a e = let h = ltb-false (a.time + reach c.by) (from_time c.by.start)
    (counts-time t c (frame_with Left a) e) in
    omega (arith, h)

-- which place is named
pub place-is : (t : Rows) (bytes : List ℕ) (vl : Option VlId) → vl ≡ link_named_by bytes
    → option_and_then (λ v. link_of t.links v.0) vl ≡ place_named t bytes
unfolding place_named
place-is t bytes vl same = ap (λ o. option_and_then (λ v. link_of t.links v.0) o) same

linked-falls : (k : Key) (fs : List Frame) (o : Option LinkRow) → AreFalling (linked k fs o).strange
unfolding AreFalling
linked-falls k fs None = tt
linked-falls k fs (Some l) = tt

-- ---- all frames

module _ (t : Rows) (c : Choices) (until : ℕ) (ended : Option ℕ) (time : ℕ) (frames : List Frame) (lines : List Due)
    (kept : KeptByKey)
    (lawful : IsLawfulSwitch t) (a : Arrival) where
  given-more : (x : Frame) (k : Key) → counts t c x ≡ true
      → given_of t c (x ∷ frames) k ≡ given_from t c.sight k (x ∷ counted t c frames) k.link
  given-more x k e = given-from t c (x ∷ frames) k ∙ ap (λ fs. given_from t c.sight k fs k.link)
      (counted-more t c x frames e)

  strange-same : (x : Frame) (k : Key) → ((b : Bool) → left_at k.side k.port x && is_stranger t c.sight x.arrival
      ≡ false)
      → counts t c x ≡ true → (given_of t c (x ∷ frames) k).strange ≡ (given_of t c frames k).strange
  strange-same x k none e = ap (λ g. g.strange) (given-more x k e) ∙ by k.link
      ∙ sym (ap (λ g. g.strange) (given-from t c frames k))
    where
      by-link : (o : Option LinkRow) → (linked k (x ∷ counted t c frames) o).strange
          ≡ (linked k (counted t c frames) o).strange
      by-link None = refl
      by-link (Some l) = refl

      by : (o : Option ℕ) → (given_from t c.sight k (x ∷ counted t c frames) o).strange ≡ (given_from t c.sight k
          (counted t c frames) o).strange
      by None = ap (λ v. map (stranger_due t k) (map (λ y. y.arrival)
          (cond v (x ∷ filter (λ y. left_at k.side k.port y && is_stranger t c.sight y.arrival) (counted t c frames))
          (filter (λ y. left_at k.side k.port y && is_stranger t c.sight y.arrival) (counted t c frames))))) (none true)
      by (Some place) = by-link (judged_to t c.sight k.side place k.port)

  came-no-stranger : (k : Key) (b : Bool) → left_at k.side k.port (frame_with Came a) && is_stranger t c.sight a ≡ false
  unfolding left_at
  came-no-stranger k b = refl

  left-no-stranger : is_stranger t c.sight a ≡ false → (k : Key) (b : Bool)
      → left_at k.side k.port (frame_with Left a) && is_stranger t c.sight a ≡ false
  left-no-stranger none k b = ap (λ v. left_at k.side k.port (frame_with Left a) && v) none
      ∙ and-false (left_at k.side k.port (frame_with Left a))
    where
      and-false : (v : Bool) → (v && false) ≡ false
      and-false true = refl
      and-false false = refl

  pub join-came : (place : ℕ) (l : LinkRow) → counts t c (frame_with Came a) ≡ true
      → place_named t a.bytes ≡ Some place → slice_get t.links place ≡ Some l → is_heard t c.sight a.side l ≡ true
      → ((k : Key) → AreFalling (given_of t c frames k).strange)
      → AreKept t c until ended time (came_to a.side place (seen_ports t c.sight a.side l.to) a (given_of t c frames))
      lines kept
      → AreKept t c until ended time (given_of t c (frame_with Came a ∷ frames)) lines kept
  join-came place l e named at heard falling are =
      kept-same t c until ended time (came_to a.side place (seen_ports t c.sight a.side l.to) a (given_of t c frames))
      (given_of t c (frame_with Came a ∷ frames)) lines kept
      (λ k known. given-more (frame_with Came a) k e ∙ given-came t c.sight k (counted t c frames) a place l lawful
      named at known heard
      ∙ ap (λ g. if is_side a.side k.side && is_link (Some place) k.link && list_any (λ q. nat_eq q k.port)
      (seen_ports t c.sight a.side l.to)
      then given_with (g.came ++ a ∷ []) g.left g.strange else g) (sym (given-from t c frames k)))
      (λ k. subst AreFalling (sym (strange-same (frame_with Came a) k (came-no-stranger k) e)) (falling k)) are

  pub join-unnamed : counts t c (frame_with Came a) ≡ true → place_named t a.bytes ≡ None
      → AreKept t c until ended time (given_of t c frames) lines kept
      → AreKept t c until ended time (given_of t c (frame_with Came a ∷ frames)) lines kept
  join-unnamed e named are =
      kept-same t c until ended time (given_of t c frames) (given_of t c (frame_with Came a ∷ frames)) lines kept
      (λ k known. given-more (frame_with Came a) k e ∙ given-unnamed t c.sight k (counted t c frames) a lawful named
      ∙ sym (given-from t c frames k))
      (λ k. subst AreFalling (sym (strange-same (frame_with Came a) k (came-no-stranger k) e)) (are.falling k)) are

  pub join-unheard : (place : ℕ) (l : LinkRow) → counts t c (frame_with Came a) ≡ true
      → place_named t a.bytes ≡ Some place → slice_get t.links place ≡ Some l → is_heard t c.sight a.side l ≡ false
      → AreKept t c until ended time (given_of t c frames) lines kept
      → AreKept t c until ended time (given_of t c (frame_with Came a ∷ frames)) lines kept
  join-unheard place l e named at deaf are =
      kept-same t c until ended time (given_of t c frames) (given_of t c (frame_with Came a ∷ frames)) lines kept
      (λ k known. given-more (frame_with Came a) k e ∙ given-unheard t c.sight k (counted t c frames) a place l lawful
      named at deaf
      ∙ sym (given-from t c frames k))
      (λ k. subst AreFalling (sym (strange-same (frame_with Came a) k (came-no-stranger k) e)) (are.falling k)) are

  -- its stream isn't judged
  pub join-unseen : (place : ℕ) (l : LinkRow) → counts t c (frame_with Left a) ≡ true
      → place_named t a.bytes ≡ Some place → link_to t place a.port ≡ Some l → is_stranger t c.sight a ≡ false
      → is_judged t c.sight a.side l a.port ≡ false
      → AreKept t c until ended time (given_of t c frames) lines kept
      → AreKept t c until ended time (given_of t c (frame_with Left a ∷ frames)) lines kept
  join-unseen place l e named to none unseen are =
      kept-same t c until ended time (given_of t c frames) (given_of t c (frame_with Left a ∷ frames)) lines kept
      (λ k known. given-more (frame_with Left a) k e ∙ given-unseen t c.sight k (counted t c frames) a place l lawful
      named to none unseen
      ∙ sym (given-from t c frames k))
      (λ k. subst AreFalling (sym (strange-same (frame_with Left a) k (left-no-stranger none k) e)) (are.falling k)) are

  pub join-left : (place : ℕ) (l : LinkRow) → counts t c (frame_with Left a) ≡ true
      → place_named t a.bytes ≡ Some place → link_to t place a.port ≡ Some l → is_stranger t c.sight a ≡ false
      → is_judged t c.sight a.side l a.port ≡ true
      → ((k : Key) → AreFalling (given_of t c frames k).strange)
      → AreKept t c until ended time (with_left (key_with a.side a.port (Some place)) (gone_of a)
      (given_of t c frames)) lines kept
      → AreKept t c until ended time (given_of t c (frame_with Left a ∷ frames)) lines kept
  join-left place l e named to none judges falling are =
      kept-same t c until ended time (with_left (key_with a.side a.port (Some place)) (gone_of a) (given_of t c frames))
      (given_of t c (frame_with Left a ∷ frames)) lines kept
      (λ k known. given-more (frame_with Left a) k e ∙ given-left t c.sight k (counted t c frames) a place l lawful
      named to known judges
      ∙ ap (λ g. if is_key (key_with a.side a.port (Some place)) k
      then given_with g.came (g.left ++ gone_of a ∷ []) g.strange else g) (sym (given-from t c frames k)))
      (λ k. subst AreFalling (sym (strange-same (frame_with Left a) k (left-no-stranger none k) e)) (falling k)) are

  pub join-strange : counts t c (frame_with Left a) ≡ true → is_stranger t c.sight a ≡ true
      → AllByRecursion (λ x. x.arrival.time ≤ a.time) (counted t c frames)
      → ((k : Key) → AreFalling (given_of t c frames k).strange)
      → AreKept t c until ended time (with_strange (key_with a.side a.port None)
      (stranger_due t (key_with a.side a.port None) a)
      (given_of t c frames)) lines kept
      → AreKept t c until ended time (given_of t c (frame_with Left a ∷ frames)) lines kept
  join-strange e strange all falling are =
      kept-same t c until ended time (with_strange (key_with a.side a.port None)
      (stranger_due t (key_with a.side a.port None) a)
      (given_of t c frames)) (given_of t c (frame_with Left a ∷ frames)) lines kept
      (λ k known. given-more (frame_with Left a) k e ∙ given-strange t c.sight k (counted t c frames) a lawful strange
      known
      ∙ ap (λ g. if is_key (key_with a.side a.port None) k
      then given_with g.came g.left (stranger_due t (key_with a.side a.port None) a ∷ g.strange) else g)
      (sym (given-from t c frames k)))
      (λ k. subst (λ g. AreFalling g.strange) (sym (given-more (frame_with Left a) k e)) (by k k.link
      (subst (λ g. AreFalling g.strange) (given-from t c frames k) (falling k))
      (subst (λ g. AllByRecursion (λ d. d.moment ≤ a.time) g.strange) (given-from t c frames k)
      (strange-times t c frames a.time all k)))) are
    where
      by : (k : Key) (o : Option ℕ) → AreFalling (given_from t c.sight k (counted t c frames) o).strange
          → AllByRecursion (λ d. d.moment ≤ a.time) (given_from t c.sight k (counted t c frames) o).strange
          → AreFalling (given_from t c.sight k (frame_with Left a ∷ counted t c frames) o).strange
      by k None f times = tell (left_at k.side k.port (frame_with Left a) && is_stranger t c.sight a)
        where
          tell : (v : Bool) → AreFalling (map (stranger_due t k) (map (λ y. y.arrival)
              (cond v (frame_with Left a ∷ filter (λ y. left_at k.side k.port y && is_stranger t c.sight y.arrival)
              (counted t c frames))
              (filter (λ y. left_at k.side k.port y && is_stranger t c.sight y.arrival) (counted t c frames)))))
          tell true = falling-more (stranger_due t k a) (given_from t c.sight k (counted t c frames) None).strange
              times f
          tell false = f
      by k (Some place) f times = linked-falls k (frame_with Left a ∷ counted t c frames)
          (judged_to t c.sight k.side place k.port)

-- one of these is a system to which the link goes
pub any-in : (to : List ℕ) (i s : ℕ) → s ≡ get_or to i s → i < length to → list_any (λ j. nat_eq j s) to ≡ true
any-in [] i s is lt = absurd (omega (arith, lt))
any-in (j ∷ to) zero s is lt = ap (λ v. v || list_any (λ q. nat_eq q s) to) (eq-eqb j s (sym is))
any-in (j ∷ to) (suc i) s is lt = or-true (nat_eq j s) (list_any (λ q. nat_eq q s) to)
    (any-in to i s is (omega (arith, lt)))
  where
    or-true : (a b : Bool) → b ≡ true → (a || b) ≡ true
    or-true true b e = refl
    or-true false b e = e

filter-few : {X : Type 0} (p : X → Bool) (xs : List X) → length (filter p xs) ≤ length xs
filter-few p [] = omega arith
filter-few p (x ∷ xs) = by (p x) (filter-few p xs)
  where
    by : (b : Bool) → length (filter p xs) ≤ length xs → length (cond b (x ∷ filter p xs) (filter p xs))
        ≤ length (x ∷ xs)
    by true h = omega (arith, h)
    by false h = omega (arith, h)

back-few : {X Y : Type 0} (f : X → Y) (p : X → Bool) (xs : List X) → length (reverse (map f (filter p xs))) ≤ length xs
back-few f p xs = subst (λ n. n ≤ length xs) (sym (length-reverse (map f (filter p xs)) ∙ length-map (filter p xs) f))
    (filter-few p xs)

pub came-few : (t : Rows) (c : Choices) (frames : List Frame) (k : Key) → length (given_of t c frames k).came
    ≤ length frames
came-few t c frames k = subst (λ g. length g.came ≤ length frames) (sym (given-from t c frames k)) (by k.link)
  where
    by-link : (o : Option LinkRow) → length (linked k (counted t c frames) o).came ≤ length frames
    by-link None = omega arith
    by-link (Some l) = let a = back-few (λ (x : Frame). x.arrival) (is_arrival_of l.vl k.side) (counted t c frames) in
        let b = filter-few (counts t c) frames in omega (arith, a, b)

    by : (o : Option ℕ) → length (given_from t c.sight k (counted t c frames) o).came ≤ length frames
    by None = omega arith
    by (Some place) = by-link (judged_to t c.sight k.side place k.port)

pub left-few : (t : Rows) (c : Choices) (frames : List Frame) (k : Key) → length (given_of t c frames k).left
    ≤ length frames
left-few t c frames k = subst (λ g. length g.left ≤ length frames) (sym (given-from t c frames k)) (by k.link)
  where
    by-link : (o : Option LinkRow) → length (linked k (counted t c frames) o).left ≤ length frames
    by-link None = omega arith
    by-link (Some l) = let a = back-few (λ (x : Frame). gone_of x.arrival)
        (λ x. left_at k.side k.port x && names l.vl x.arrival.bytes) (counted t c frames) in
        let b = filter-few (counts t c) frames in omega (arith, a, b)

    by : (o : Option ℕ) → length (given_from t c.sight k (counted t c frames) o).left ≤ length frames
    by None = omega arith
    by (Some place) = by-link (judged_to t c.sight k.side place k.port)

pub counted-behind : (t : Rows) (c : Choices) (frames : List Frame) (time : ℕ)
    → AllByRecursion (λ x. x.arrival.time ≤ time) frames
    → AllByRecursion (λ x. x.arrival.time ≤ time) (counted t c frames)
counted-behind t c frames time all = all-filter (λ x. x.arrival.time ≤ time) (counts t c) frames all

-- one more port: it is recorded, or not
more-ports : (t : Rows) (row : LinkRow) (rank s : ℕ) → s ≡ get_or row.to rank s → rank < length row.to
    → map (port_of t) (take (rank + 1) row.to) ≡ map (port_of t) (take rank row.to) ++ port_of t s ∷ []
more-ports t row rank s is lt =
    ap (λ l. map (port_of t) l) (take_more row.to rank s lt)
    ∙ ap (λ n. map (port_of t) (take rank row.to ++ n ∷ [])) (sym is)
    ∙ map-append (port_of t) (take rank row.to) (s ∷ [])

pub come-next : (t : Rows) (c : Choices) (until time : ℕ) (side : Side) (place : ℕ) (row : LinkRow) (rank s : ℕ)
    (x : Arrival)
    (given : Key → Given) (lines : List Due) (kept : KeptByKey)
    → IsLawfulSwitch t → slice_get t.links place ≡ Some row → s ≡ get_or row.to rank s → rank < length row.to
    → c.sight.is_seen side (port_of t s) ≡ true
    → ((k : Key) → AreFalling (given k).strange)
    → AreKept t c until None time (with_came (key_with side (port_of t s) (Some place)) x
    (came_to side place (seen_ports t c.sight side (take rank row.to)) x given)) lines kept
    → AreKept t c until None time (came_to side place (seen_ports t c.sight side (take (rank + 1) row.to)) x given)
    lines kept
come-next t c until time side place row rank s x given lines kept lawful at is lt seen falling are =
    let more : seen_ports t c.sight side (take (rank + 1) row.to) ≡ seen_ports t c.sight side (take rank row.to)
    ++ port_of t s ∷ [] =
    ap (λ l. filter (c.sight.is_seen side) l) (more-ports t row rank s is lt)
    ∙ filter-pushed (c.sight.is_seen side) (map (port_of t) (take rank row.to)) (port_of t s) seen in
    kept-same t c until None time (with_came (key_with side (port_of t s) (Some place)) x
    (came_to side place (seen_ports t c.sight side (take rank row.to)) x given))
    (came_to side place (seen_ports t c.sight side (take (rank + 1) row.to)) x given) lines kept
    (λ k known. ap (λ ps. came_to side place ps x given k) more
    ∙ came-step side place (port_of t s) (seen_ports t c.sight side (take rank row.to)) x given k
    (any-fewer (c.sight.is_seen side) (port_of t s) (map (port_of t) (take rank row.to))
    (fresh-port t place row rank s lawful at is lt)))
    (λ k. subst AreFalling (sym (came-strange side place (seen_ports t c.sight side (take (rank + 1) row.to)) x given
    k)) (falling k)) are

pub come-past : (t : Rows) (c : Choices) (until time : ℕ) (side : Side) (place : ℕ) (row : LinkRow) (rank s : ℕ)
    (x : Arrival)
    (given : Key → Given) (lines : List Due) (kept : KeptByKey)
    → s ≡ get_or row.to rank s → rank < length row.to → c.sight.is_seen side (port_of t s) ≡ false
    → AreKept t c until None time (came_to side place (seen_ports t c.sight side (take rank row.to)) x given) lines kept
    → AreKept t c until None time (came_to side place (seen_ports t c.sight side (take (rank + 1) row.to)) x given)
    lines kept
come-past t c until time side place row rank s x given lines kept is lt unseen are =
    subst (λ ps. AreKept t c until None time (came_to side place ps x given) lines kept)
    (sym (ap (λ l. filter (c.sight.is_seen side) l) (more-ports t row rank s is lt)
    ∙ filter-push (c.sight.is_seen side) (map (port_of t) (take rank row.to)) (port_of t s) unseen)) are

pub come-first : (t : Rows) (c : Choices) (until time : ℕ) (side : Side) (place : ℕ) (row : LinkRow) (x : Arrival)
    (given : Key → Given) (lines : List Due) (kept : KeptByKey)
    → AreKept t c until None time given lines kept
    → AreKept t c until None time (came_to side place (seen_ports t c.sight side (take 0 row.to)) x given) lines kept
come-first t c until time side place row x given lines kept are =
    kept-same t c until None time given (came_to side place [] x given) lines kept
    (λ k known. none-yet side place x given k)
    (λ k. subst AreFalling (sym (came-strange side place [] x given k)) (are.falling k)) are
