-- What of a recording is a stream's. Lists have the newest first.
use Rattle.std.proofs.Common.{◌≡◌, ℕ, ◌≤◌, ◌==◌, Bool, true, false, not, ◌&&◌, ◌||◌, List, [], ◌∷◌, length, map, refl, sym, ap, ◌∙◌, subst, arith}
use Rattle.std.proofs.lemmas.Bool.{and_parts, eqb-true}
use Rattle.std.specs.Prelude.{Option, Some, None, filter, nat_eq, nat_le, if◌then◌else◌, option_and_then, slice_get}
use Rattle.std.specs.List.{AllByRecursion, list_any}
use Rattle.std.specs.Option.{option_map_or}
use Rattle.afdx_frame.specs.Layout.{link_named_by}
use Rattle.afdx_frame.specs.declared.link.Side.{Side}
use Rattle.afdx_frame.specs.declared.link.Side.TheVariants.{A, B}
use Rattle.afdx_frame.specs.declared.link.VlId.{VlId}
use Rattle.afdx_config.specs.Lawful.{IsLawfulSwitch}
use Rattle.afdx_config.specs.Rows.{LinkRow, Rows}
use Rattle.afdx_config.proofs.LookUpLemmas.{each_row-found}
use Rattle.afdx_input_lines.specs.declared.role.Role.{Role}
use Rattle.afdx_input_lines.specs.declared.role.Role.TheVariants.{Came, Left}
use Rattle.afdx_input_runs.specs.Joining.{Frame}
use Rattle.afdx_police.specs.Arrival.{Arrival, is_side, names, own}
use Rattle.afdx_law_bounds.specs.Tables.{goes_to, port_of}
use Rattle.afdx_law_promises.specs.Lines.{Leaving, is_leaving}
use Rattle.afdx_conform.specs.LimitRanges.{most_bytes}
use Rattle.afdx_conform.specs.Streams.{Gone}
use Rattle.afdx_conform.proofs.EveryLemmas.{every-on}
use Rattle.afdx_command_conform.specs.Choices.{Choices, is_in_time, is_left_out, is_passed, is_same_link, counts, latest_of}
use Rattle.afdx_command_conform.specs.Frames.{arrivals_of, frames_of, is_arrival_of, left_at, gone_of}
use Rattle.afdx_command_conform.specs.RunLaws.{AreByTime}
use Rattle.afdx_command_conform.specs.Sight.{Sight}
use Rattle.afdx_command_conform.specs.Tapped.{Taps, of_tables, is_heard_at, is_of_came, place_named, link_to, is_judged, is_unheard, judged_to}
use Rattle.afdx_command_conform.proofs.StrangerLemmas.{heard-at, heard-counts}
use Rattle.afdx_law_text.specs.Recorded.{came_among, left_among, AreRecordsOf}
use Rattle.afdx_law_text.proofs.ListLemmas.{filter-same, filter-twice, Descend, descend-filter, descend-map, and-false}
use Rattle.afdx_law_text.proofs.PromisedLemmas.{AreGone}

-- ---- a frame of a role

abbrev frame_as : Role → Arrival → Frame
frame_as role x = record { role = role; arrival = x }

-- of all frames those of a role that pass a test
pub came-filter : (p : Frame → Bool) (q : Arrival → Bool) → ((x : Arrival) → p (frame_as Came x) ≡ q x)
    → ((x : Arrival) → p (frame_as Left x) ≡ false) → (frames : List Frame)
    → map (λ x. x.arrival) (filter p frames) ≡ filter q (came_among frames)
came-filter p q came left [] = refl
came-filter p q came left (x ∷ frames) = by x.role x.arrival (came-filter p q came left frames)
  where
    by : (role : Role) (a : Arrival) → map (λ x. x.arrival) (filter p frames) ≡ filter q (came_among frames)
        → map (λ x. x.arrival) (if p (frame_as role a) then frame_as role a ∷ filter p frames else filter p frames)
        ≡ filter q (map (λ x. x.arrival) (if is_of_came role
        then frame_as role a ∷ filter (λ x. is_of_came x.role) frames
        else filter (λ x. is_of_came x.role) frames))
    by Left a rest = rw (left a) rest
    by Came a rest = rw (came a) (one (q a) a rest)
      where
        one : (b : Bool) (a : Arrival) → map (λ x. x.arrival) (filter p frames) ≡ filter q (came_among frames)
            → map (λ x. x.arrival) (if b then frame_as Came a ∷ filter p frames else filter p frames)
            ≡ (if b then a ∷ filter q (came_among frames) else filter q (came_among frames))
        one true a rest = ap (λ (l : List Arrival). a ∷ l) rest
        one false a rest = rest

pub left-filter : (p : Frame → Bool) (q : Arrival → Bool) → ((x : Arrival) → p (frame_as Left x) ≡ q x)
    → ((x : Arrival) → p (frame_as Came x) ≡ false) → (frames : List Frame)
    → map (λ x. x.arrival) (filter p frames) ≡ filter q (left_among frames)
left-filter p q left came [] = refl
left-filter p q left came (x ∷ frames) = by x.role x.arrival (left-filter p q left came frames)
  where
    by : (role : Role) (a : Arrival) → map (λ x. x.arrival) (filter p frames) ≡ filter q (left_among frames)
        → map (λ x. x.arrival) (if p (frame_as role a) then frame_as role a ∷ filter p frames else filter p frames)
        ≡ filter q (map (λ x. x.arrival) (if not (is_of_came role)
        then frame_as role a ∷ filter (λ x. not (is_of_came x.role)) frames
        else filter (λ x. not (is_of_came x.role)) frames))
    by Came a rest = rw (came a) rest
    by Left a rest = rw (left a) (one (q a) a rest)
      where
        one : (b : Bool) (a : Arrival) → map (λ x. x.arrival) (filter p frames) ≡ filter q (left_among frames)
            → map (λ x. x.arrival) (if b then frame_as Left a ∷ filter p frames else filter p frames)
            ≡ (if b then a ∷ filter q (left_among frames) else filter q (left_among frames))
        one true a rest = ap (λ (l : List Arrival). a ∷ l) rest
        one false a rest = rest

-- ---- frames go by time

pub frames-descend : (frames : List Frame) → AreByTime frames → Descend (λ x. x.arrival.time) frames
unfolding AreByTime Descend
frames-descend [] h = tt
frames-descend (x ∷ frames) h =
    let rest = frames-descend frames h.1 in
    (below frames h.0 rest, rest)
  where
    below : (fs : List Frame) → latest_of fs ≤ x.arrival.time → Descend (λ x. x.arrival.time) fs
        → AllByRecursion (λ w. w.arrival.time ≤ x.arrival.time) fs
    below [] h rest = tt
    below (w ∷ fs) h rest = (
      h,
      every-on (λ v. v.arrival.time ≤ w.arrival.time) (λ v. v.arrival.time ≤ x.arrival.time)
          (λ v k. omega (arith, k, h)) fs rest.0,
    )

pub left-descend : (frames : List Frame) → AreByTime frames → Descend (λ (x : Arrival). x.time) (left_among frames)
left-descend frames h =
    descend-map (λ (x : Frame). x.arrival) (λ (x : Arrival). x.time) (filter (λ x. not (is_of_came x.role)) frames)
    (descend-filter (λ x. x.arrival.time) (λ x. not (is_of_came x.role)) frames (frames-descend frames h))

-- ---- a link that is named

side-turned : (a b : Side) → is_side a b ≡ is_side b a
side-turned A A = refl
side-turned A B = refl
side-turned B A = refl
side-turned B B = refl

pub side-here : (a b : Side) → is_side a b ≡ true → a ≡ b
side-here A A h = refl
side-here A B h = absurd (cc h)
side-here B A h = absurd (cc h)
side-here B B h = refl

pub named-link : (vl : ℕ) (bytes : List ℕ) → names vl bytes ≡ true → link_named_by bytes ≡ Some (record { 0 = vl })
unfolding names
named-link vl bytes h = by (link_named_by bytes) refl h
  where
    by : (o : Option VlId) → link_named_by bytes ≡ o → option_map_or (λ n. n.0 == vl) o false ≡ true
        → o ≡ Some (record { 0 = vl })
    by None e k = absurd (cc k)
    by (Some v) e k = ap (λ (n : ℕ). Some (record { 0 = n })) (eqb-true v.0 vl k)

module _ (t : Rows) (lawful : IsLawfulSwitch t) (place : ℕ) (l : LinkRow) (at : slice_get t.links place ≡ Some l) where
  pub place-named-is : (bytes : List ℕ) → names l.vl bytes ≡ true → place_named t bytes ≡ Some place
  unfolding place_named
  place-named-is bytes h = rw (named-link l.vl bytes h) ((each_row-found t lawful).by_vl place l at)

  pub link-to-is : (port : ℕ) → goes_to t l port ≡ true → link_to t place port ≡ Some l
  unfolding link_to
  link-to-is port goes = rw (at, goes) refl

-- ---- a stream that is judged

pub record IsJudgedOf (t : Rows) (taps : Taps) (side : Side) (place port : ℕ) (l : LinkRow) : Type 0 where
  pub stands : slice_get t.links place ≡ Some l
  pub goes : goes_to t l port ≡ true
  pub heard : taps Came side (port_of t l.from) ≡ true
  pub seen : taps Left side port ≡ true

pub judged-of : (t : Rows) (taps : Taps) (side : Side) (place port : ℕ) (l : LinkRow)
    → judged_to t (of_tables t taps) side place port ≡ Some l → IsJudgedOf t taps side place port l
unfolding judged_to link_to
judged-of t taps side place port l h = by (slice_get t.links place) refl h
  where
    both : (k : LinkRow) (b : Bool) → is_judged t (of_tables t taps) side k port ≡ b
        → (if b then Some k else None) ≡ Some l
        → (k ≡ l) × (is_judged t (of_tables t taps) side k port ≡ true)
    both k true e f = (cc f, e)
    both k false e f = absurd (cc f)

    goes-on : (k : LinkRow) → slice_get t.links place ≡ Some k → (b : Bool) → goes_to t k port ≡ b
        → option_and_then (λ l. if is_judged t (of_tables t taps) side l port then Some l else None)
        (if b then Some k else None) ≡ Some l
        → IsJudgedOf t taps side place port l
    goes-on k e false f g = absurd (cc g)
    goes-on k e true f g =
        let is = both k (is_judged t (of_tables t taps) side k port) refl g in
        let parts = and_parts (taps Came side (port_of t k.from)) (taps Left side port) is.1 in
        subst (λ (m : LinkRow). IsJudgedOf t taps side place port m) is.0
        (record { stands = e; goes = f; heard = parts.0; seen = parts.1 })

    by : (o : Option LinkRow) → slice_get t.links place ≡ o
        → option_and_then (λ l. if is_judged t (of_tables t taps) side l port then Some l else None)
        (option_and_then (λ l. if goes_to t l port then Some l else None) o) ≡ Some l
        → IsJudgedOf t taps side place port l
    by None e g = absurd (cc g)
    by (Some k) e g = goes-on k e (goes_to t k port) refl g

-- and with both ports recorded it is
pub to-judged : (t : Rows) (taps : Taps) (side : Side) (place port : ℕ) (l : LinkRow)
    → slice_get t.links place ≡ Some l → goes_to t l port ≡ true → taps Came side (port_of t l.from) ≡ true
    → taps Left side port ≡ true → judged_to t (of_tables t taps) side place port ≡ Some l
unfolding judged_to link_to
to-judged t taps side place port l at goes heard seen = rw (at, goes, heard, seen) refl

-- ---- what is asked of a switch between taps

-- what is asked, where the switch is seen by its tables and these ports
abbrev pub with_taps : Rows → Taps → Choices → Choices
with_taps t taps c = record c { sight = of_tables t taps }

-- nothing else, where it is
pub with-same : (t : Rows) (taps : Taps) (c : Choices) → c.sight ≡ of_tables t taps → with_taps t taps c ≡ c
with-same t taps c sees = ap (λ (o : Sight). record c { sight = o }) (sym sees)

-- ---- what is passed over

-- the link is left out
abbrev pub leaves_out : Choices → ℕ → Bool
leaves_out c vl = list_any (λ link. is_same_link link (Some (record { 0 = vl }))) c.left_out

pub left-out-is : (c : Choices) (vl : ℕ) (x : Frame) → names vl x.arrival.bytes ≡ true
    → is_left_out c x ≡ leaves_out c vl
left-out-is c vl x named =
    ap (λ (o : Option VlId). list_any (λ link. is_same_link link o) c.left_out) (named-link vl x.arrival.bytes named)

module _ (t : Rows) (base : Choices) (taps : Taps) (lawful : IsLawfulSwitch t) (side : Side) (place port : ℕ)
    (l : LinkRow) (is : IsJudgedOf t taps side place port l) where
  abbrev c : Choices
  c = with_taps t taps base

  came-heard : (x : Arrival) → is_unheard t c.sight (frame_as Came x) ≡ false
  unfolding is_unheard
  came-heard x = refl

  left-heard : (x : Arrival) → is_side x.side side ≡ true → names l.vl x.bytes ≡ true
      → is_unheard t c.sight (frame_as Left x) ≡ false
  left-heard x here named =
      let same : x.side ≡ side = side-here x.side side here in
      heard-counts t c.sight (frame_as Left x) (ap (λ o. is_heard_at t c.sight x.side o)
      (place-named-is t lawful place l is.stands x.bytes named)
      ∙ ap (λ d. is_heard_at t c.sight d (Some place)) same ∙ heard-at t c.sight side place l is.stands ∙ is.heard)

  or-false : (a b : Bool) → b ≡ false → (a || b) ≡ a
  or-false true b e = refl
  or-false false b e = e

  pub came-passed : (x : Arrival) → names l.vl x.bytes ≡ true → is_passed t c (frame_as Came x) ≡ leaves_out c l.vl
  came-passed x named =
      or-false (is_left_out c (frame_as Came x)) (is_unheard t c.sight (frame_as Came x)) (came-heard x)
      ∙ left-out-is c l.vl (frame_as Came x) named

  pub left-passed : (x : Arrival) → is_side x.side side ≡ true → names l.vl x.bytes ≡ true
      → is_passed t c (frame_as Left x) ≡ leaves_out c l.vl
  left-passed x here named =
      or-false (is_left_out c (frame_as Left x)) (is_unheard t c.sight (frame_as Left x)) (left-heard x here named)
      ∙ left-out-is c l.vl (frame_as Left x) named

  -- ---- its arrivals

  abbrev pub asks_of : Arrival → Bool
  asks_of x = taps Came x.side x.port && (not (is_passed t c (frame_as Came x)) && nat_le (length x.bytes) most_bytes)

  abbrev pub came_of : Arrival → Bool
  came_of x = is_in_time c (frame_as Came x) && asks_of x

  turned : (tapped time passed short here named : Bool)
      → (tapped && ((time && passed && short) && (here && named))) ≡
      ((here && named) && (time && (tapped && (passed && short))))
  turned true true passed short true true = turned-by (passed && short)
    where
      turned-by : (b : Bool) → (b && true) ≡ b
      turned-by true = refl
      turned-by false = refl
  turned true true passed short true false = and-false (passed && short)
  turned true true passed short false named = and-false (passed && short)
  turned true false passed short true true = refl
  turned true false passed short true false = refl
  turned true false passed short false named = refl
  turned false true passed short true true = refl
  turned false true passed short true false = refl
  turned false true passed short false named = refl
  turned false false passed short true true = refl
  turned false false passed short true false = refl
  turned false false passed short false named = refl

  abbrev counts_came : Arrival → Bool
  counts_came x = counts t c (frame_as Came x) && (is_side x.side side && names l.vl x.bytes)

  came-test : (x : Arrival)
      → (counts t c (frame_as Came x) && is_arrival_of l.vl side (frame_as Came x)) ≡ counts_came x
  unfolding is_arrival_of
  came-test x = refl

  left-none : (x : Arrival) → (counts t c (frame_as Left x) && is_arrival_of l.vl side (frame_as Left x)) ≡ false
  unfolding is_arrival_of
  left-none x = and-false (counts t c (frame_as Left x))

  came-turned : (x : Arrival) → (taps Came x.side x.port && counts_came x)
      ≡ ((is_side side x.side && names l.vl x.bytes) && came_of x)
  unfolding counts
  came-turned x =
      turned (taps Came x.side x.port) (is_in_time c (frame_as Came x)) (not (is_passed t c (frame_as Came x)))
      (nat_le (length x.bytes) most_bytes) (is_side x.side side) (names l.vl x.bytes)
      ∙ ap (λ b. (b && names l.vl x.bytes) && came_of x) (side-turned x.side side)

  -- of the link's own arrivals those that count
  pub arrivals-are : (arrivals : List Arrival) (frames : List Frame)
      → came_among frames ≡ filter (λ x. taps Came x.side x.port) arrivals
      → arrivals_of t c l.vl side frames ≡ filter came_of (own l.vl side arrivals)
  arrivals-are arrivals frames came =
      ap (λ (fs : List Frame). map (λ x. x.arrival) fs) (filter-twice (is_arrival_of l.vl side) (counts t c) frames)
      ∙ came-filter (λ x. counts t c x && is_arrival_of l.vl side x) counts_came came-test left-none frames
      ∙ ap (λ (xs : List Arrival). filter counts_came xs) came
      ∙ filter-twice counts_came (λ x. taps Came x.side x.port) arrivals
      ∙ filter-same (λ x. taps Came x.side x.port && counts_came x)
      (λ x. (is_side side x.side && names l.vl x.bytes) && came_of x) arrivals (all arrivals)
      ∙ sym (filter-twice came_of (λ x. is_side side x.side && names l.vl x.bytes) arrivals)
    where
      all : (xs : List Arrival) → AllByRecursion (λ x. (taps Came x.side x.port && counts_came x)
          ≡ ((is_side side x.side && names l.vl x.bytes) && came_of x)) xs
      all [] = tt
      all (x ∷ xs) = (came-turned x, all xs)

  -- ---- its frames

  abbrev pub left_here : Arrival → Bool
  left_here x = (is_side x.side side && nat_eq x.port port) && names l.vl x.bytes

  -- all that left of it there
  abbrev pub all_gone : List Frame → List Arrival
  all_gone frames = filter left_here (left_among frames)

  left-test : (x : Arrival)
      → (counts t c (frame_as Left x) && (left_at side port (frame_as Left x) && names l.vl x.bytes))
      ≡ (counts t c (frame_as Left x) && left_here x)
  unfolding left_at
  left-test x = refl

  came-none : (x : Arrival)
      → (counts t c (frame_as Came x) && (left_at side port (frame_as Came x) && names l.vl x.bytes)) ≡ false
  unfolding left_at
  came-none x = and-false (counts t c (frame_as Came x))

  and-turned : (a b : Bool) → (a && b) ≡ (b && a)
  and-turned true true = refl
  and-turned true false = refl
  and-turned false true = refl
  and-turned false false = refl

  pub frames-are : (frames : List Frame) → frames_of t c l.vl side port frames
      ≡ map gone_of (filter (λ x. counts t c (frame_as Left x)) (all_gone frames))
  frames-are frames =
      ap (λ (fs : List Frame). map (λ x. gone_of x.arrival) fs)
      (filter-twice (λ x. left_at side port x && names l.vl x.arrival.bytes) (counts t c) frames)
      ∙ map-on (filter (λ x. counts t c x && (left_at side port x && names l.vl x.arrival.bytes)) frames)
      ∙ ap (λ (xs : List Arrival). map gone_of xs)
      (left-filter (λ x. counts t c x && (left_at side port x && names l.vl x.arrival.bytes))
      (λ x. counts t c (frame_as Left x) && left_here x) left-test came-none frames
      ∙ filter-same (λ x. counts t c (frame_as Left x) && left_here x)
      (λ x. left_here x && counts t c (frame_as Left x))
      (left_among frames) (all (left_among frames))
      ∙ sym (filter-twice (λ x. counts t c (frame_as Left x)) left_here (left_among frames)))
    where
      map-on : (fs : List Frame) → map (λ x. gone_of x.arrival) fs ≡ map gone_of (map (λ x. x.arrival) fs)
      map-on [] = refl
      map-on (x ∷ fs) = ap (λ (l : List Gone). gone_of x.arrival ∷ l) (map-on fs)

      all : (xs : List Arrival) → AllByRecursion (λ x. (counts t c (frame_as Left x) && left_here x)
          ≡ (left_here x && counts t c (frame_as Left x))) xs
      all [] = tt
      all (x ∷ xs) = (and-turned (counts t c (frame_as Left x)) (left_here x), all xs)

  -- ---- they are those that the replay tells

  gone-here : (ds : List Leaving) (ys : List Arrival) → AreRecordsOf ds ys
      → AreGone (filter (is_leaving l.vl side port) ds) (map gone_of (filter left_here ys))
  unfolding AreRecordsOf AreGone
  gone-here [] [] are = tt
  gone-here [] (y ∷ ys) are = absurd are
  gone-here (d ∷ ds) [] are = absurd are
  gone-here (d ∷ ds) (y ∷ ys) are = by (left_here y) refl (gone-here ds ys are.1)
    where
      same : is_leaving l.vl side port d ≡ left_here y
      same = rw (are.0.side, are.0.port, are.0.bytes, side-turned d.side side) refl

      by : (b : Bool) → left_here y ≡ b
          → AreGone (filter (is_leaving l.vl side port) ds) (map gone_of (filter left_here ys))
          → AreGone (filter (is_leaving l.vl side port) (d ∷ ds)) (map gone_of (filter left_here (y ∷ ys)))
      by true e rest = rw (same, e) (are.0.time, are.0.bytes, rest)
      by false e rest = rw (same, e) rest

  tapped-all : (ds : List Leaving) → AllByRecursion (λ d. (taps Left d.side d.port && is_leaving l.vl side port d)
      ≡ is_leaving l.vl side port d) ds
  tapped-all [] = tt
  tapped-all (d ∷ ds) = (by (is_leaving l.vl side port d) refl, tapped-all ds)
    where
      by : (b : Bool) → is_leaving l.vl side port d ≡ b → (taps Left d.side d.port && b) ≡ b
      by false e = and-false (taps Left d.side d.port)
      by true e =
          let parts = and_parts (is_side side d.side && (d.port == port)) (names l.vl d.frame.bytes) e in
          let at = and_parts (is_side side d.side) (d.port == port) parts.0 in
          let there : side ≡ d.side = side-here side d.side at.0 in
          let here : d.port ≡ port = eqb-true d.port port at.1 in
          rw (sym there, here, is.seen) refl

  pub gone-are : (left : List Leaving) (frames : List Frame)
      → AreRecordsOf (filter (λ d. taps Left d.side d.port) left) (left_among frames)
      → AreGone (filter (is_leaving l.vl side port) left) (map gone_of (all_gone frames))
  gone-are left frames are =
      subst (λ (ds : List Leaving). AreGone ds (map gone_of (all_gone frames)))
      (filter-twice (is_leaving l.vl side port) (λ d. taps Left d.side d.port) left
      ∙ filter-same (λ d. taps Left d.side d.port && is_leaving l.vl side port d) (is_leaving l.vl side port) left
      (tapped-all left))
      (gone-here (filter (λ d. taps Left d.side d.port) left) (left_among frames) are)
