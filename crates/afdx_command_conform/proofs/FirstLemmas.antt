-- Of all lines those that are told come first, whatever comes later.
use Rattle.std.proofs.Common.{◌≡◌, ℕ, ◌+◌, ◌*◌, ◌<◌, ◌≤◌, ◌⊎◌, inl, inr, Bool, true, false, List, [], ◌∷◌, ◌++◌, map, reverse, refl, sym, ap, ◌∙◌, subst, arith, true≢false}
use Rattle.std.proofs.lemmas.Bool.{le-ltb, lt-ltb, ltb-true}
use Rattle.std.proofs.lemmas.List.{map-append, reverse-append}
use Rattle.std.proofs.lemmas.List.Elements.{filter-append}
use Rattle.std.specs.Prelude.{Option, Some, None, ◌&&◌, cond, filter, is_some, nat_lt, not}
use Rattle.std.specs.List.{AllByRecursion}
use Rattle.std.specs.Option.{option_map_or}
use Rattle.afdx_config.specs.Lawful.{IsLawfulSwitch}
use Rattle.afdx_config.specs.Rows.{LinkRow, Rows}
use Rattle.afdx_police.specs.Arrival.{Arrival, names}
use Rattle.afdx_conform.specs.Histories.{judged_of}
use Rattle.afdx_conform.proofs.EveryLemmas.{every-map, every-on, every-reverse}
use Rattle.afdx_input_runs.specs.Joining.{Frame}
use Rattle.afdx_command_conform.specs.Beginning.{AreFirstLines, AreLinesBefore, ComeFrom}
use Rattle.afdx_command_conform.specs.Choices.{Choices, counted, counts, is_before, is_behind}
use Rattle.afdx_command_conform.specs.Frames.{arrivals_of, frames_of, gone_of, is_arrival_of, is_stranger, left_at, strangers_of, terms_at}
use Rattle.afdx_command_conform.specs.Keeping.{AreKept, IsOfLink, IsStreamOf, given_by, given_of, given_to, is_known, is_known_by, slot_at}
use Rattle.afdx_command_conform.specs.Keys.{is_key, key_rank}
use Rattle.afdx_command_conform.specs.Lines.{AreLines, Due, dues_by, dues_of, judged_dues, last_rank, of_key, rank, stranger_due, stream_dues}
use Rattle.afdx_command_conform.specs.Tapped.{judged_to, link_to}
use Rattle.afdx_command_conform.specs.Waiting.{slot_due}
use Rattle.afdx_command_conform.specs.declared.kept.KeptByKey.{KeptByKey}
use Rattle.afdx_command_conform.specs.declared.key.Key.{Key}
use Rattle.afdx_command_conform.proofs.AddedLemmas.{to-ended, to-strangers, to-stream}
use Rattle.afdx_command_conform.proofs.BehindLemmas.{IsBehind, ended-behind, none-judged, stream-behind, strangers-behind}
use Rattle.afdx_command_conform.proofs.FullLemmas.{out-of-time}
use Rattle.afdx_command_conform.proofs.GivenLemmas.{given-from, given_from}
use Rattle.afdx_command_conform.proofs.KeyLemmas.{link-place}
use Rattle.afdx_command_conform.proofs.StepLemmas.{known-cases}
use Rattle.afdx_command_conform.proofs.TappedLemmas.{judged-cases, no-stream}

-- ---- lists

reverse-more : {X Y : Type 0} (f : X → Y) (xs ys : List X) → reverse (map f (xs ++ ys)) ≡ reverse (map f ys)
    ++ reverse (map f xs)
reverse-more f xs ys = ap (λ l. reverse l) (map-append f xs ys) ∙ reverse-append (map f xs) (map f ys)

filter-every : {X : Type 0} (P : X → Type 0) (test : X → Bool) (xs : List X) → AllByRecursion P xs
    → AllByRecursion P (filter test xs)
filter-every P test [] h = tt
filter-every P test (x ∷ xs) h = by (test x) (filter-every P test xs h.1)
  where
    by : (b : Bool) → AllByRecursion P (filter test xs)
        → AllByRecursion P (cond b (x ∷ filter test xs) (filter test xs))
    by true k = (h.0, k)
    by false k = k

pub filter-none : {X : Type 0} (test : X → Bool) (xs : List X) → AllByRecursion (λ x. test x ≡ false) xs
    → filter test xs ≡ []
filter-none test [] h = refl
filter-none test (x ∷ xs) h = ap (λ b. cond b (x ∷ filter test xs) (filter test xs)) h.0 ∙ filter-none test xs h.1

pub filter-all : {X : Type 0} (test : X → Bool) (xs : List X) → AllByRecursion (λ x. test x ≡ true) xs
    → filter test xs ≡ xs
filter-all test [] h = refl
filter-all test (x ∷ xs) h = ap (λ b. cond b (x ∷ filter test xs) (filter test xs)) h.0
    ∙ ap (λ l. x ∷ l) (filter-all test xs h.1)

-- ---- what more frames give

module _ (t : Rows) (c : Choices) (more frames : List Frame) where
  counted-both : counted t c (more ++ frames) ≡ counted t c more ++ counted t c frames
  counted-both = filter-append (counts t c) more frames

  came-to-both : (k : Key) (o : Option LinkRow)
      → (given_to t c k (more ++ frames) o).came ≡ (given_to t c k frames o).came ++ (given_to t c k more o).came
  came-to-both k None = refl
  came-to-both k (Some l) =
      ap (λ fs. reverse (map (λ (x : Frame). x.arrival) (filter (is_arrival_of l.vl k.side) fs))) counted-both
      ∙ ap (λ fs. reverse (map (λ (x : Frame). x.arrival) fs))
      (filter-append (is_arrival_of l.vl k.side) (counted t c more) (counted t c frames))
      ∙ reverse-more (λ (x : Frame). x.arrival) (filter (is_arrival_of l.vl k.side) (counted t c more))
      (filter (is_arrival_of l.vl k.side) (counted t c frames))

  left-to-both : (k : Key) (o : Option LinkRow)
      → (given_to t c k (more ++ frames) o).left ≡ (given_to t c k frames o).left ++ (given_to t c k more o).left
  left-to-both k None = refl
  left-to-both k (Some l) =
      let test : Frame → Bool = λ x. left_at k.side k.port x && names l.vl x.arrival.bytes in
      ap (λ fs. reverse (map (λ (x : Frame). gone_of x.arrival) (filter
      (λ x. left_at k.side k.port x && names l.vl x.arrival.bytes) fs))) counted-both
      ∙ ap (λ fs. reverse (map (λ (x : Frame). gone_of x.arrival) fs)) (filter-append test (counted t c more)
      (counted t c frames))
      ∙ reverse-more (λ (x : Frame). gone_of x.arrival) (filter test (counted t c more))
      (filter test (counted t c frames))

  pub came-both : (k : Key) → (given_of t c (more ++ frames) k).came ≡ (given_of t c frames k).came
      ++ (given_of t c more k).came
  unfolding given_of
  came-both k = by k.link
    where
      by : (o : Option ℕ) → (given_by t c (more ++ frames) k o).came ≡ (given_by t c frames k o).came
          ++ (given_by t c more k o).came
      by None = refl
      by (Some place) = came-to-both k (judged_to t c.sight k.side place k.port)

  pub left-both : (k : Key) → (given_of t c (more ++ frames) k).left ≡ (given_of t c frames k).left
      ++ (given_of t c more k).left
  unfolding given_of
  left-both k = by k.link
    where
      by : (o : Option ℕ) → (given_by t c (more ++ frames) k o).left ≡ (given_by t c frames k o).left
          ++ (given_by t c more k o).left
      by None = refl
      by (Some place) = left-to-both k (judged_to t c.sight k.side place k.port)

  pub strange-both : (k : Key) → map (stranger_due t k) (strangers_of t c k.side k.port (more ++ frames))
      ≡ map (stranger_due t k) (strangers_of t c k.side k.port more) ++ map (stranger_due t k)
      (strangers_of t c k.side k.port frames)
  strange-both k =
      let test : Frame → Bool = λ x. left_at k.side k.port x && is_stranger t c.sight x.arrival in
      ap (λ fs. map (stranger_due t k) (map (λ (x : Frame). x.arrival) (filter
      (λ x. left_at k.side k.port x && is_stranger t c.sight x.arrival) fs)))
      counted-both
      ∙ ap (λ fs. map (stranger_due t k) (map (λ (x : Frame). x.arrival) fs)) (filter-append test (counted t c more)
      (counted t c frames))
      ∙ ap (λ l. map (stranger_due t k) l)
      (map-append (λ (x : Frame). x.arrival) (filter test (counted t c more)) (filter test (counted t c frames)))
      ∙ map-append (stranger_due t k) (strangers_of t c k.side k.port more) (strangers_of t c k.side k.port frames)

  -- where none counts it is the same
  pub same-counted : (k : Key) → counted t c more ≡ [] → given_of t c (more ++ frames) k ≡ given_of t c frames k
  same-counted k none = given-from t c (more ++ frames) k
      ∙ ap (λ fs. given_from t c.sight k fs k.link) (counted-both ∙ ap (λ l. l ++ counted t c frames) none)
      ∙ sym (given-from t c frames k)

module _ (t : Rows) (c : Choices) (time : ℕ) (more : List Frame) (late : ComeFrom time more) where
  passed-late : (test : Frame → Bool) → ComeFrom time (filter test (counted t c more))
  passed-late test = filter-every (λ x. time ≤ x.arrival.time) test (counted t c more)
      (filter-every (λ x. time ≤ x.arrival.time) (counts t c) more late)

  came-to-late : (k : Key) (o : Option LinkRow) → AllByRecursion (λ x. time ≤ x.time) (given_to t c k more o).came
  came-to-late k None = tt
  came-to-late k (Some l) = every-reverse (λ x. time ≤ x.time) (arrivals_of t c l.vl k.side more)
      (every-map (λ x. time ≤ x.time) (λ (x : Frame). x.arrival) (filter (is_arrival_of l.vl k.side) (counted t c more))
      (passed-late (is_arrival_of l.vl k.side)))

  left-to-late : (k : Key) (o : Option LinkRow) → AllByRecursion (λ y. time ≤ y.time) (given_to t c k more o).left
  left-to-late k None = tt
  left-to-late k (Some l) = every-reverse (λ y. time ≤ y.time) (frames_of t c l.vl k.side k.port more)
      (every-map (λ y. time ≤ y.time) (λ (x : Frame). gone_of x.arrival)
      (filter (λ x. left_at k.side k.port x && names l.vl x.arrival.bytes) (counted t c more))
      (passed-late (λ x. left_at k.side k.port x && names l.vl x.arrival.bytes)))

  pub came-late : (k : Key) → AllByRecursion (λ x. time ≤ x.time) (given_of t c more k).came
  unfolding given_of
  came-late k = by k.link
    where
      by : (o : Option ℕ) → AllByRecursion (λ x. time ≤ x.time) (given_by t c more k o).came
      by None = tt
      by (Some place) = came-to-late k (judged_to t c.sight k.side place k.port)

  pub left-late : (k : Key) → AllByRecursion (λ y. time ≤ y.time) (given_of t c more k).left
  unfolding given_of
  left-late k = by k.link
    where
      by : (o : Option ℕ) → AllByRecursion (λ y. time ≤ y.time) (given_by t c more k o).left
      by None = tt
      by (Some place) = left-to-late k (judged_to t c.sight k.side place k.port)

  pub strange-late : (k : Key) (Q : ℕ → Type 0) → ((a b : ℕ) → a ≤ b → Q a → Q b) → Q time
      → AllByRecursion (λ d. Q d.moment × (d.key ≡ k)) (map (stranger_due t k) (strangers_of t c k.side k.port more))
  strange-late k Q up here =
      every-map (λ d. Q d.moment × (d.key ≡ k)) (stranger_due t k) (strangers_of t c k.side k.port more)
      (every-map (λ (x : Arrival). Q x.time × (k ≡ k)) (λ (x : Frame). x.arrival)
      (filter (λ x. left_at k.side k.port x && is_stranger t c.sight x.arrival) (counted t c more))
      (every-on (λ x. time ≤ x.arrival.time) (λ x. Q x.arrival.time × (k ≡ k))
      (λ x le. (up time x.arrival.time le here, refl))
      (filter (λ x. left_at k.side k.port x && is_stranger t c.sight x.arrival) (counted t c more))
      (passed-late (λ x. left_at k.side k.port x && is_stranger t c.sight x.arrival))))

  -- behind the end that is said none counts
  pub none-counts : (end : ℕ) → c.until ≡ Some end → end < time → counted t c more ≡ []
  none-counts end said lt = filter-none (counts t c) more
      (every-on (λ x. time ≤ x.arrival.time) (λ x. counts t c x ≡ false) (λ x le. behind x le) more late)
    where
      and-not : (a b : Bool) → b ≡ true → (a && not b) ≡ false
      and-not true true e = refl
      and-not false true e = refl
      and-not a false e = absurd (true≢false (sym e))

      behind : (x : Frame) → time ≤ x.arrival.time → counts t c x ≡ false
      behind x le = out-of-time t c x (and-not (not (is_before c x.role x.arrival.time))
          (is_behind x.arrival.time c.until)
          (ap (λ o. is_behind x.arrival.time o) said ∙ lt-ltb end x.arrival.time (omega (arith, lt, le))))

-- ---- the lines of one key

module _ (t : Rows) (c : Choices) (until : ℕ) (frames : List Frame) where
  pub dues-are : (k : Key) (l : LinkRow) → IsStreamOf t k l
      → dues_of t c until frames k ≡ judged_dues (terms_at t c until l k.port) k
      (judged_of (terms_at t c until l k.port) (given_of t c frames k).came (given_of t c frames k).left)
  unfolding given_of
  dues-are k l is = by k.link is
    where
      judged : (o : Option LinkRow) → (o ≡ Some l) ⊎ (o ≡ None)
          → option_map_or (stream_dues t c until frames k) o []
          ≡ judged_dues (terms_at t c until l k.port) k
          (judged_of (terms_at t c until l k.port) (given_to t c k frames o).came (given_to t c k frames o).left)
      judged o (inl is) = subst (λ v. option_map_or (stream_dues t c until frames k) v []
          ≡ judged_dues (terms_at t c until l k.port) k
          (judged_of (terms_at t c until l k.port) (given_to t c k frames v).came (given_to t c k frames v).left))
          (sym is) refl
      judged o (inr is) = subst (λ v. option_map_or (stream_dues t c until frames k) v []
          ≡ judged_dues (terms_at t c until l k.port) k
          (judged_of (terms_at t c until l k.port) (given_to t c k frames v).came (given_to t c k frames v).left))
          (sym is)
          (sym (none-judged (terms_at t c until l k.port) k))

      by : (o : Option ℕ) → IsOfLink t k l o → dues_by t c until frames k o
          ≡ judged_dues (terms_at t c until l k.port) k
          (judged_of (terms_at t c until l k.port) (given_by t c frames k o).came (given_by t c frames k o).left)
      by None h = absurd h
      by (Some place) h = judged (judged_to t c.sight k.side place k.port)
          (elim (judged-cases t c.sight k.side place k.port l h) [
            | inl is ↦ inl is.0
            | inr is ↦ inr is.0
          ])

  no-link : (o : Option LinkRow) → is_some o ≡ false → o ≡ None
  no-link None e = refl
  no-link (Some l) e = absurd (true≢false e)

  pub unknown-own : (k : Key) → k.port < 256 → is_known t k ≡ false → dues_of t c until frames k ≡ []
  unfolding is_known
  unknown-own k small unknown = by k.link unknown
    where
      by : (o : Option ℕ) → is_known_by t k o ≡ false → dues_by t c until frames k o ≡ []
      by None e = absurd (true≢false (sym (lt-ltb k.port 256 small) ∙ e))
      by (Some place) e = ap (λ r. option_map_or (stream_dues t c until frames k) r [])
          (no-stream t c.sight k.side place k.port (no-link (link_to t place k.port) e))

pub is-small : (t : Rows) (k : Key) → IsLawfulSwitch t → is_known t k ≡ true → k.port < 256
unfolding is_known
is-small t k lawful known = by k.link known
  where
    by : (o : Option ℕ) → is_known_by t k o ≡ true → k.port < 256
    by None e = ltb-true k.port 256 e
    by (Some place) e = let p = (link-place t place k.port lawful e).1 in omega (arith, p)

-- ---- what is behind the lines that are told

module _ (t : Rows) (c : Choices) (until time : ℕ) (more frames : List Frame) (dues : List Due) (kept : KeptByKey)
    (k : Key)
    (known : is_known t k ≡ true) (Q : ℕ → Type 0) (up : (a b : ℕ) → a ≤ b → Q a → Q b)
    (due : (m : ℕ) → slot_due (slot_at kept.slots.items k) ≡ Some m → Q m) where
  abbrev Behind : Type 0
  Behind = IsBehind k Q (of_key k dues) (dues_of t c until (more ++ frames) k)

  given-strange : k.link ≡ None → (given_of t c frames k).strange ≡ map (stranger_due t k)
      (strangers_of t c k.side k.port frames)
  unfolding given_of
  given-strange none = ap (λ o. (given_by t c frames k o).strange) none

  strange-behind : (ended : Option ℕ) → k.link ≡ None
      → AllByRecursion (λ d. Q d.moment × (d.key ≡ k)) (map (stranger_due t k) (strangers_of t c k.side k.port more))
      → AreKept t c until ended time (given_of t c frames) dues kept → Behind
  strange-behind ended none newer are =
      subst (λ l. IsBehind k Q (of_key k dues) l)
      (sym (ap (λ o. dues_by t c until (more ++ frames) k o) none ∙ strange-both t c more frames k
      ∙ ap (λ l. map (stranger_due t k) (strangers_of t c k.side k.port more) ++ l) (sym (given-strange none))))
      (strangers-behind k Q up (map (stranger_due t k) (strangers_of t c k.side k.port more))
      (given_of t c frames k).strange
      (of_key k dues) (slot_at kept.slots.items k) newer (are.falling k) due
      (to-strangers t c until ended time k (given_of t c frames k) (of_key k dues) (slot_at kept.slots.items k) none
      (are.stand k known)))

  -- while frames come
  pub running-behind : ComeFrom time more → time ≤ until → Q time → AreKept t c until None time (given_of t c frames)
      dues kept
      → Behind
  running-behind late le here are = elim (known-cases t k known) [
    | inl none ↦ strange-behind None none (strange-late t c time more late k Q up here) are
    | inr of ↦
        (let z = terms_at t c until of.0 k.port in
        subst (λ l. IsBehind k Q (of_key k dues) l)
        (ap (λ l. judged_dues z k (judged_of z l ((given_of t c frames k).left ++ (given_of t c more k).left)))
        (sym (came-both t c more frames k))
        ∙ ap (λ l. judged_dues z k (judged_of z (given_of t c (more ++ frames) k).came l))
        (sym (left-both t c more frames k))
        ∙ sym (dues-are t c until (more ++ frames) k of.0 of.1))
        (stream-behind z k Q up time here le (given_of t c frames k).came (given_of t c more k).came
        (given_of t c frames k).left (given_of t c more k).left (of_key k dues) (slot_at kept.slots.items k) due
        (came-late t c time more late k) (left-late t c time more late k)
        (to-stream t c until time k of.0 (given_of t c frames k) (of_key k dues) (slot_at kept.slots.items k) of.1
        (are.stand k known))))
  ]

  -- behind the end that is known
  pub known-behind : counted t c more ≡ [] → AreKept t c until (Some until) time (given_of t c frames) dues kept
      → Behind
  known-behind none are = elim (known-cases t k known) [
    | inl no-link ↦ strange-behind (Some until) no-link
        (subst (λ fs. AllByRecursion (λ d. Q d.moment × (d.key ≡ k))
        (map (stranger_due t k) (map (λ (x : Frame). x.arrival)
        (filter (λ x. left_at k.side k.port x && is_stranger t c.sight x.arrival) fs)))) (sym none) tt) are
    | inr of ↦
        (let z = terms_at t c until of.0 k.port in
        subst (λ l. IsBehind k Q (of_key k dues) l)
        (ap (λ g. judged_dues z k (judged_of z g.came g.left)) (sym (same-counted t c more frames k none))
        ∙ sym (dues-are t c until (more ++ frames) k of.0 of.1))
        (ended-behind z k Q up (given_of t c frames k).came (given_of t c frames k).left (of_key k dues)
        (slot_at kept.slots.items k) due
        (to-ended t c until time k of.0 (given_of t c frames k) (of_key k dues) (slot_at kept.slots.items k) until of.1
        (are.stand k known)).1))
  ]

-- ---- all keys

pub known-or-not : (t : Rows) (k : Key) → (is_known t k ≡ true) ⊎ (is_known t k ≡ false)
known-or-not t k = by (is_known t k) refl
  where
    by : (b : Bool) → is_known t k ≡ b → (is_known t k ≡ true) ⊎ (is_known t k ≡ false)
    by true e = inl e
    by false e = inr e

-- the rank of a line of this key
abbrev pub IsRanked : ℕ → Key → ℕ → Type 0
IsRanked last k m = last ≤ m * 18446744073709551616 + key_rank k

pub ranked-up : (last : ℕ) (k : Key) (a b : ℕ) → a ≤ b → IsRanked last k a → IsRanked last k b
ranked-up last k a b le h = omega (arith, le, h)

module _ (t : Rows) (c : Choices) (until time : ℕ) (ended : Option ℕ) (frames all : List Frame) (dues : List Due)
    (lawful : IsLawfulSwitch t) (kept : KeptByKey) (are : AreKept t c until ended time (given_of t c frames) dues kept)
  where
    only-known : (k : Key) → 256 ≤ k.port → of_key k dues ≡ []
    only-known k large = elim (known-or-not t k) [
      | inl known ↦ absurd (let small = is-small t k lawful known in omega (arith, small, large))
      | inr unknown ↦ are.none k unknown
    ]

    pub first-lines : ((k : Key) → is_known t k ≡ true
        → IsBehind k (IsRanked (last_rank dues) k) (of_key k dues) (dues_of t c until all k))
        → AreFirstLines t c until all dues
    first-lines behind = record {
      own = λ k small. elim (known-or-not t k) [
        | inl known ↦
            (let b = behind k known in
            record {
              rest = b.rest;
              are = b.are;
              later = every-on (λ d. IsRanked (last_rank dues) k d.moment × (d.key ≡ k)) (λ d. last_rank dues ≤ rank d)
                  (λ d h. (let r = h.0 in let same = ap key_rank h.1 in omega (arith, r, same))) b.rest b.later;
            })
        | inr unknown ↦
            record {
              rest = [];
              are = unknown-own t c until all k small unknown ∙ sym (are.none k unknown);
              later = tt;
            }
      ];
      only = only-known;
      in_order = are.in_order;
    }

    pub lines-before : (to : ℕ) → AllByRecursion (λ d. d.moment < to) dues
        → ((k : Key) → is_known t k ≡ true → IsBehind k (λ m. to ≤ m) (of_key k dues) (dues_of t c until all k))
        → AreLinesBefore t c until all to dues
    lines-before to early behind = record {
      own = λ k small. elim (known-or-not t k) [
        | inl known ↦
            (let b = behind k known in
            sym (ap (λ l. filter (λ d. nat_lt d.moment to) l) b.are
            ∙ filter-append (λ d. nat_lt d.moment to) b.rest (of_key k dues)
            ∙ ap (λ l. l ++ filter (λ d. nat_lt d.moment to) (of_key k dues))
            (filter-none (λ d. nat_lt d.moment to) b.rest
            (every-on (λ d. (to ≤ d.moment) × (d.key ≡ k)) (λ d. nat_lt d.moment to ≡ false)
            (λ d h. le-ltb d.moment to h.0) b.rest b.later))
            ∙ filter-all (λ d. nat_lt d.moment to) (of_key k dues)
            (every-on (λ d. d.moment < to) (λ d. nat_lt d.moment to ≡ true) (λ d h. lt-ltb d.moment to h)
            (of_key k dues) (filter-every (λ d. d.moment < to) (λ d. is_key k d.key) dues early))))
        | inr unknown ↦ are.none k unknown
            ∙ sym (ap (λ l. filter (λ d. nat_lt d.moment to) l) (unknown-own t c until all k small unknown))
      ];
      only = only-known;
      in_order = are.in_order;
    }

    all-told : (k : Key) → IsBehind k (λ m. ⊥) (of_key k dues) (dues_of t c until all k)
        → of_key k dues ≡ dues_of t c until all k
    all-told k b = by b.rest b.are b.later
      where
        by : (rest : List Due) → dues_of t c until all k ≡ rest ++ of_key k dues
            → AllByRecursion (λ d. ⊥ × (d.key ≡ k)) rest → of_key k dues ≡ dues_of t c until all k
        by [] is none = sym is
        by (d ∷ rest) is none = absurd none.0.0

    pub only-lines : ((k : Key) → is_known t k ≡ true → IsBehind k (λ m. ⊥) (of_key k dues) (dues_of t c until all k))
        → AreLines t c until all dues
    only-lines behind = record {
      own = λ k small. elim (known-or-not t k) [
        | inl known ↦ all-told k (behind k known)
        | inr unknown ↦ are.none k unknown ∙ sym (unknown-own t c until all k small unknown)
      ];
      only = only-known;
      in_order = are.in_order;
    }
