-- The lines of moments before a time come first, and depend on the frames before it alone.
use Rattle.std.proofs.Common.{◌≡◌, ℕ, ◌+◌, ◌*◌, ◌<◌, ◌≤◌, inl, inr, Bool, true, false, ◌&&◌, List, [], ◌∷◌, ◌++◌, map, reverse, refl, sym, ap, ◌∙◌, subst, arith, true≢false}
use Rattle.std.proofs.lemmas.Bool.{and_parts, le-ltb, lt-ltb, ltb-false, ltb-true}
use Rattle.std.proofs.lemmas.List.Elements.{filter-append}
use Rattle.std.specs.Prelude.{Option, Some, None, cond, filter, if◌then◌else◌, nat_lt}
use Rattle.std.specs.List.{AllByRecursion}
use Rattle.afdx_config.specs.Rows.{LinkRow, Rows}
use Rattle.afdx_frame.specs.Sides.{is_side}
use Rattle.afdx_input_runs.specs.Joining.{Frame}
use Rattle.afdx_input_lines.specs.declared.role.Role.{Role}
use Rattle.afdx_input_lines.specs.declared.role.Role.TheVariants.{Came, Left}
use Rattle.afdx_police.specs.Arrival.{names}
use Rattle.afdx_conform.specs.Ahead.{until_then}
use Rattle.afdx_conform.specs.Events.{GoUp}
use Rattle.afdx_conform.specs.Explanations.{from_time}
use Rattle.afdx_conform.specs.Findings.{Judged, Marked}
use Rattle.afdx_conform.specs.Growing.{AreTold}
use Rattle.afdx_conform.specs.Histories.{judged_of, shown}
use Rattle.afdx_conform.specs.Leeway.{reach}
use Rattle.afdx_conform.specs.Streams.{Terms}
use Rattle.afdx_conform.proofs.EveryLemmas.{every-map, every-on, every-reverse}
use Rattle.afdx_command_conform.specs.Beginning.{ComeFrom, IsEndFrom}
use Rattle.afdx_command_conform.specs.Choices.{Choices, counted, counts, is_before}
use Rattle.afdx_command_conform.specs.EarlyLaw.{LinesBeginEarly}
use Rattle.afdx_command_conform.specs.Frames.{arrivals_of, frames_of, gone_of, is_arrival_of, left_at, strangers_of, terms_at}
use Rattle.afdx_command_conform.specs.Keeping.{IsOfLink, IsStreamOf, given_by, given_of, given_to}
use Rattle.afdx_command_conform.specs.Keys.{is_key, key_rank, link_rank, side_rank}
use Rattle.afdx_command_conform.specs.Lines.{AreInOrder, Due, dues_by, dues_of, found_due, judged_dues, last_rank, of_key, rank, stranger_due, unsure_dues}
use Rattle.afdx_command_conform.specs.RunLaws.{AreByTime}
use Rattle.afdx_command_conform.specs.Tapped.{is_of_came, judged_to}
use Rattle.afdx_command_conform.specs.declared.key.Key.{Key}
use Rattle.afdx_command_conform.proofs.BehindLemmas.{IsBehind, all-shown, dues-added}
use Rattle.afdx_command_conform.proofs.ByTimeLemmas.{arrivals-go, frames-go}
use Rattle.afdx_command_conform.proofs.FirstLemmas.{came-both, came-late, dues-are, filter-all, filter-none, known-or-not, left-both, left-late, none-counts, same-counted, strange-both, strange-late, unknown-own}
use Rattle.afdx_command_conform.proofs.JoinLemmas.{counts-time}
use Rattle.afdx_command_conform.proofs.KeyLemmas.{side-small}
use Rattle.afdx_command_conform.proofs.OneAnswerLemmas.{AreRanged, ranged}
use Rattle.afdx_command_conform.proofs.OverLemmas.{judged-to}
use Rattle.afdx_command_conform.proofs.StepLemmas.{known-cases}

-- ---- what is told of a stream goes by time, from the start on

filter-holds : {X : Type 0} (P : X → Type 0) (test : X → Bool) (xs : List X) → AllByRecursion P xs
    → AllByRecursion (λ x. (test x ≡ true) × P x) (filter test xs)
filter-holds P test [] h = tt
filter-holds {X = X} P test (x ∷ xs) h = by (test x) refl (filter-holds P test xs h.1)
  where
    by : (b : Bool) → test x ≡ b → AllByRecursion (λ v. (test v ≡ true) × P v) (filter test xs)
        → AllByRecursion (λ v. (test v ≡ true) × P v) (cond b (x ∷ filter test xs) (filter test xs))
    by true e k = ((e, h.0), k)
    by false e k = k

every-of : {X : Type 0} (xs : List X) → AllByRecursion (λ x. x ≡ x) xs
every-of [] = tt
every-of (x ∷ xs) = (refl, every-of xs)

came-from : (c : Choices) (role : Role) (time : ℕ) → is_of_came role ≡ true → is_before c role time ≡ false
    → from_time c.by.start ≤ time
came-from c Came time came h = ltb-false time (from_time c.by.start) h
came-from c Left time came h = absurd (true≢false (sym came))

left-from : (c : Choices) (role : Role) (time : ℕ) → is_before c role time ≡ false
    → from_time c.by.start ≤ time + reach c.by
left-from c Came time h = let le = ltb-false time (from_time c.by.start) h in omega (arith, le)
left-from c Left time h = ltb-false (time + reach c.by) (from_time c.by.start) h

module _ (t : Rows) (c : Choices) (frames : List Frame) where
  counted-pass : (test : Frame → Bool)
      → AllByRecursion (λ x. (test x ≡ true) × (counts t c x ≡ true)) (filter test (counted t c frames))
  counted-pass test = filter-holds (λ x. counts t c x ≡ true) test (counted t c frames)
      (every-on (λ x. (counts t c x ≡ true) × (x ≡ x)) (λ x. counts t c x ≡ true) (λ x h. h.0) (counted t c frames)
      (filter-holds (λ x. x ≡ x) (counts t c) frames (every-of frames)))

  came-role : (l : LinkRow) (k : Key) (x : Frame) → is_arrival_of l.vl k.side x ≡ true → is_of_came x.role ≡ true
  unfolding is_arrival_of
  came-role l k x e = (and_parts (is_of_came x.role) (is_side x.arrival.side k.side)
      (and_parts (is_of_came x.role && is_side x.arrival.side k.side) (names l.vl x.arrival.bytes) e).0).0

  came-start : (k : Key) (o : Option LinkRow) → AllByRecursion (λ x. from_time c.by.start ≤ x.time)
      (given_to t c k frames o).came
  came-start k None = tt
  came-start k (Some l) = every-reverse (λ x. from_time c.by.start ≤ x.time) (arrivals_of t c l.vl k.side frames)
      (every-map (λ x. from_time c.by.start ≤ x.time) (λ (x : Frame). x.arrival)
      (filter (is_arrival_of l.vl k.side) (counted t c frames))
      (every-on (λ x. (is_arrival_of l.vl k.side x ≡ true) × (counts t c x ≡ true))
      (λ x. from_time c.by.start ≤ x.arrival.time)
      (λ x h. came-from c x.role x.arrival.time (came-role l k x h.0) (counts-time t c x h.1))
      (filter (is_arrival_of l.vl k.side) (counted t c frames)) (counted-pass (is_arrival_of l.vl k.side))))

  left-start : (k : Key) (o : Option LinkRow)
      → AllByRecursion (λ y. from_time c.by.start ≤ y.time + reach c.by) (given_to t c k frames o).left
  left-start k None = tt
  left-start k (Some l) =
      let test : Frame → Bool = λ x. left_at k.side k.port x && names l.vl x.arrival.bytes in
      every-reverse (λ y. from_time c.by.start ≤ y.time + reach c.by) (frames_of t c l.vl k.side k.port frames)
      (every-map (λ y. from_time c.by.start ≤ y.time + reach c.by) (λ (x : Frame). gone_of x.arrival)
      (filter (λ x. left_at k.side k.port x && names l.vl x.arrival.bytes) (counted t c frames))
      (every-on (λ x. (test x ≡ true) × (counts t c x ≡ true))
      (λ x. from_time c.by.start ≤ x.arrival.time + reach c.by)
      (λ x h. left-from c x.role x.arrival.time (counts-time t c x h.1))
      (filter test (counted t c frames)) (counted-pass test)))

  module _ (order : AreByTime frames) (until : ℕ) where
    told-to : (z : Terms) (k : Key) (o : Option LinkRow) → z.by ≡ c.by
        → AreTold z (given_to t c k frames o).came (given_to t c k frames o).left
    unfolding GoUp
    told-to z k None same = record { came = tt; left = tt; start = tt; begun = tt }
    told-to z k (Some l) same = record {
      came = arrivals-go t c frames order l.vl k.side;
      left = frames-go t c frames order l.vl k.side k.port;
      start = subst (λ b. AllByRecursion (λ x. from_time b.start ≤ x.time) (given_to t c k frames (Some l)).came)
          (sym same)
          (came-start k (Some l));
      begun = subst (λ b. AllByRecursion (λ y. from_time b.start ≤ y.time + reach b)
          (given_to t c k frames (Some l)).left)
          (sym same) (left-start k (Some l));
    }

    told-of : (k : Key) (l : LinkRow) → IsStreamOf t k l
        → AreTold (terms_at t c until l k.port) (given_of t c frames k).came (given_of t c frames k).left
    unfolding given_of
    told-of k l is = by k.link is
      where
        by : (o : Option ℕ) → IsOfLink t k l o
            → AreTold (terms_at t c until l k.port) (given_by t c frames k o).came (given_by t c frames k o).left
        by None h = absurd h
        by (Some place) h = told-to (terms_at t c until l k.port) k (judged_to t c.sight k.side place k.port) refl

-- ---- the lines of a key

unsure-same : (z : Terms) (until : ℕ) (k : Key) (back : List Marked) → unsure_dues (until_then until z) k back
    ≡ unsure_dues z k back
unsure-same z until k [] = refl
unsure-same z until k (m ∷ back) = refl

dues-same : (z : Terms) (until : ℕ) (k : Key) (j : Judged) → judged_dues (until_then until z) k j ≡ judged_dues z k j
unfolding judged_dues
dues-same z until k j =
    ap (λ l. (if j.is_unsure then l else []) ++ map (found_due z k) j.findings)
    (unsure-same z until k (reverse j.arrivals))

behind-filter : (k : Key) (time : ℕ) (first all : List Due) → IsBehind k (λ m. time ≤ m) first all
    → filter (λ d. nat_lt d.moment time) all ≡ filter (λ d. nat_lt d.moment time) first
behind-filter k time first all b =
    ap (λ l. filter (λ d. nat_lt d.moment time) l) b.are
    ∙ filter-append (λ d. nat_lt d.moment time) b.rest first
    ∙ ap (λ l. l ++ filter (λ d. nat_lt d.moment time) first)
    (filter-none (λ d. nat_lt d.moment time) b.rest
    (every-on (λ d. (time ≤ d.moment) × (d.key ≡ k)) (λ d. nat_lt d.moment time ≡ false)
    (λ d h. le-ltb d.moment time h.0) b.rest b.later))

module _ (t : Rows) (c : Choices) (until end time : ℕ) (more frames : List Frame) (order : AreByTime frames)
    (late : ComeFrom time more) where
  abbrev Early : List Due → List Due
  Early lines = filter (λ d. nat_lt d.moment time) lines

  abbrev AreSame : Key → Type 0
  AreSame k = Early (dues_of t c until (more ++ frames) k) ≡ Early (dues_of t c end frames k)

  strange-early : (k : Key) → k.link ≡ None → AreSame k
  strange-early k none =
      ap (λ l. Early l) (ap (λ o. dues_by t c until (more ++ frames) k o) none ∙ strange-both t c more frames k)
      ∙ filter-append (λ d. nat_lt d.moment time) (map (stranger_due t k) (strangers_of t c k.side k.port more))
      (map (stranger_due t k) (strangers_of t c k.side k.port frames))
      ∙ ap (λ l. l ++ Early (map (stranger_due t k) (strangers_of t c k.side k.port frames)))
      (filter-none (λ d. nat_lt d.moment time) (map (stranger_due t k) (strangers_of t c k.side k.port more))
      (every-on (λ d. (time ≤ d.moment) × (d.key ≡ k)) (λ d. nat_lt d.moment time ≡ false)
      (λ d h. le-ltb d.moment time h.0)
      (map (stranger_due t k) (strangers_of t c k.side k.port more))
      (strange-late t c time more late k (λ m. time ≤ m) (λ a b le h. omega (arith, le, h)) (omega arith))))
      ∙ sym (ap (λ o. Early (dues_by t c end frames k o)) none)

  -- before the end
  running-early : time ≤ until → time ≤ end → (k : Key) (l : LinkRow) → IsStreamOf t k l → AreSame k
  running-early le end-le k l is =
      let z = terms_at t c until l k.port in
      let xs = (given_of t c frames k).came in
      let ys = (given_of t c frames k).left in
      let ls = (given_of t c more k).came in
      let ms = (given_of t c more k).left in
      let to = judged-to z end time xs ls ys ms (told-of t c frames order until k l is) le end-le
      (came-late t c time more late k)
      (left-late t c time more late k) in
      ap (λ l'. Early l') (dues-are t c until (more ++ frames) k l is
      ∙ ap (λ v. judged_dues z k (judged_of z v (given_of t c (more ++ frames) k).left)) (came-both t c more frames k)
      ∙ ap (λ v. judged_dues z k (judged_of z (xs ++ ls) v)) (left-both t c more frames k)
      ∙ sym (all-shown z k (judged_of z (xs ++ ls) (ys ++ ms))))
      ∙ behind-filter k time (judged_dues z k to.j) (judged_dues z k (shown (judged_of z (xs ++ ls) (ys ++ ms))))
      (dues-added z k (λ m. time ≤ m) to.j (shown (judged_of z (xs ++ ls) (ys ++ ms))) to.more)
      ∙ ap (λ l'. Early l') (sym (dues-same z end k to.j))
      ∙ sym (behind-filter k time (judged_dues (until_then end z) k to.j)
      (judged_dues (until_then end z) k (shown (judged_of (until_then end z) xs ys)))
      (dues-added (until_then end z) k (λ m. time ≤ m) to.j (shown (judged_of (until_then end z) xs ys)) to.so_far))
      ∙ ap (λ l'. Early l') (all-shown (until_then end z) k (judged_of (until_then end z) xs ys)
      ∙ sym (dues-are t c end frames k l is))

  -- behind it
  ended-early : until ≡ end → counted t c more ≡ [] → (k : Key) (l : LinkRow) → IsStreamOf t k l → AreSame k
  ended-early same none k l is =
      ap (λ l'. Early l') (dues-are t c until (more ++ frames) k l is
      ∙ ap (λ g. judged_dues (terms_at t c until l k.port) k (judged_of (terms_at t c until l k.port) g.came g.left))
      (same-counted t c more frames k none)
      ∙ sym (dues-are t c until frames k l is) ∙ ap (λ n. dues_of t c n frames k) same)

  key-early : IsEndFrom c.until time until → IsEndFrom c.until time end → (k : Key) → k.port < 256 → AreSame k
  key-early may may-end k small = elim (known-or-not t k) [
    | inl known ↦ elim (known-cases t k known) [
      | inl none ↦ strange-early k none
      | inr of ↦ by c.until refl may may-end of.0 of.1
    ]
    | inr unknown ↦ ap (λ l. Early l) (unknown-own t c until (more ++ frames) k small unknown)
        ∙ sym (ap (λ l. Early l) (unknown-own t c end frames k small unknown))
  ]
    where
      at : (u : ℕ) → c.until ≡ Some u → until ≡ u → end ≡ u → (b : Bool) → nat_lt u time ≡ b → (l : LinkRow)
          → IsStreamOf t k l
          → AreSame k
      at u said one two true lt l is = ended-early (one ∙ sym two) (none-counts t c time more late u said
          (ltb-true u time lt)) k l is
      at u said one two false ge l is =
          let le = ltb-false u time ge in running-early (omega (arith, le, one)) (omega (arith, le, two)) k l is

      by : (said : Option ℕ) → c.until ≡ said → IsEndFrom said time until → IsEndFrom said time end → (l : LinkRow)
          → IsStreamOf t k l → AreSame k
      by None said one two l is = running-early one two k l is
      by (Some u) said one two l is = at u said one two (nat_lt u time) refl l is

-- ---- all lines

record IsCut (time : ℕ) (lines : List Due) : Type 0 where
  pub later : List Due
  pub early : List Due
  pub parts : lines ≡ later ++ early
  pub are_later : AllByRecursion (λ d. time ≤ d.moment) later
  pub are_early : AllByRecursion (λ d. d.moment < time) early

all-below : (r : ℕ) (lines : List Due) → last_rank lines ≤ r → AreInOrder lines → AllByRecursion (λ d. rank d ≤ r) lines
unfolding AreInOrder
all-below r [] le order = tt
all-below r (d ∷ lines) le order = (le, all-below r lines (let h = order.0 in omega (arith, le, h)) order.1)

moments : (m n a s p l : ℕ) → s ≤ 1 → p < 256 → l < 0x100000000
    → m * 18446744073709551616 + a ≤ n * 18446744073709551616 + ((s * 256 + p) * 0x100000000 + l) → m ≤ n
moments m n a s p l s1 p1 l1 le = omega (arith, s1, p1, l1, le)

cut-lines : (time : ℕ) (lines : List Due) → AreRanged lines → AreInOrder lines → IsCut time lines
unfolding AreInOrder
cut-lines time [] ranged order = record { later = []; early = []; parts = refl; are_later = tt; are_early = tt }
cut-lines time (d ∷ lines) ranged order = by (nat_lt d.moment time) refl (cut-lines time lines ranged.1 order.1)
  where
    by : (b : Bool) → nat_lt d.moment time ≡ b → IsCut time lines → IsCut time (d ∷ lines)
    by true e c =
        let lt = ltb-true d.moment time e in
        record {
          later = [];
          early = d ∷ lines;
          parts = refl;
          are_later = tt;
          are_early = (
            lt,
            every-on (λ f. rank f ≤ rank d) (λ f. f.moment < time)
                (λ f le. (let m = moments f.moment d.moment (key_rank f.key) (side_rank d.key.side) d.key.port
                (link_rank d.key.link)
                (side-small d.key.side) ranged.0.port ranged.0.link le in omega (arith, m, lt))) lines
                (all-below (rank d) lines order.0 order.1),
          );
        }
    by false e c = record {
      later = d ∷ c.later;
      early = c.early;
      parts = ap (λ l. d ∷ l) c.parts;
      are_later = (ltb-false d.moment time e, c.are_later);
      are_early = c.are_early;
    }

order-behind : (xs ys : List Due) → AreInOrder (xs ++ ys) → AreInOrder ys
unfolding AreInOrder
order-behind [] ys h = h
order-behind (x ∷ xs) ys h = order-behind xs ys h.1

none-behind : (xs ys : List Due) → xs ++ ys ≡ [] → ys ≡ []
none-behind [] ys h = h
none-behind (x ∷ xs) ys h = absurd (cc)

all-of : (P : Due → Type 0) (k : Key) (lines : List Due) → AllByRecursion P lines → AllByRecursion P (of_key k lines)
all-of P k lines h = every-on (λ d. (is_key k d.key ≡ true) × P d) P (λ d both. both.1) (of_key k lines)
    (filter-holds P (λ d. is_key k d.key) lines h)

pub lines-begin : LinesBeginEarly
lines-begin t c until end time more frames lines few order late may may-end are =
    let cut = cut-lines time lines (ranged t c until (more ++ frames) few lines are) are.in_order in
    let parts : (k : Key) → of_key k lines ≡ of_key k cut.later ++ of_key k cut.early =
    λ k. ap (λ l. of_key k l) cut.parts ∙ filter-append (λ d. is_key k d.key) cut.later cut.early in
    record {
      early = cut.early;
      later = cut.later;
      parts = cut.parts;
      are_early = record {
        own = λ k small.
            sym (ap (λ l. filter (λ d. nat_lt d.moment time) l) (parts k)
            ∙ filter-append (λ d. nat_lt d.moment time) (of_key k cut.later) (of_key k cut.early)
            ∙ ap (λ l. l ++ filter (λ d. nat_lt d.moment time) (of_key k cut.early))
            (filter-none (λ d. nat_lt d.moment time) (of_key k cut.later)
            (every-on (λ d. time ≤ d.moment) (λ d. nat_lt d.moment time ≡ false) (λ d h. le-ltb d.moment time h)
            (of_key k cut.later)
            (all-of (λ d. time ≤ d.moment) k cut.later cut.are_later)))
            ∙ filter-all (λ d. nat_lt d.moment time) (of_key k cut.early)
            (every-on (λ d. d.moment < time) (λ d. nat_lt d.moment time ≡ true) (λ d h. lt-ltb d.moment time h)
            (of_key k cut.early)
            (all-of (λ d. d.moment < time) k cut.early cut.are_early)))
            ∙ ap (λ l. filter (λ d. nat_lt d.moment time) l) (are.own k small)
            ∙ key-early t c until end time more frames order late may may-end k small;
        only = λ k large. none-behind (of_key k cut.later) (of_key k cut.early) (sym (parts k) ∙ are.only k large);
        in_order = order-behind cut.later cut.early (subst (λ l. AreInOrder l) cut.parts are.in_order);
      };
      are_later = cut.are_later;
    }
