-- Frames that go by time, and those of them that are of a stream.
use Rattle.std.proofs.Common.{◌≡◌, ℕ, ◌+◌, ◌≤◌, Bool, true, false, List, [], ◌∷◌, ◌++◌, map, reverse, refl, sym, ap, ◌∙◌, subst, arith}
use Rattle.std.specs.Prelude.{⊤, ◌&&◌, if◌then◌else◌, is_none, nat_le, Some}
use Rattle.std.specs.List.{AllByRecursion, filter}
use Rattle.afdx_config.specs.Rows.{Rows}
use Rattle.afdx_frame.specs.declared.link.Side.{Side}
use Rattle.afdx_input_runs.specs.Joining.{Frame}
use Rattle.afdx_police.specs.Arrival.{Arrival, names}
use Rattle.afdx_police.specs.Rule.{Rule}
use Rattle.afdx_police.specs.Shape.{fault_of}
use Rattle.afdx_conform.specs.Events.{GoUp, arrival_times, frame_times}
use Rattle.afdx_conform.specs.Headline.{GoByTime, sound_of}
use Rattle.afdx_conform.specs.Histories.{uncut}
use Rattle.afdx_conform.specs.Leeway.{reach}
use Rattle.afdx_conform.specs.Streams.{Gone, Terms}
use Rattle.afdx_conform.proofs.EveryLemmas.{every-append, every-reverse, reverse-first}
use Rattle.afdx_command_conform.specs.Choices.{Choices, counted, counts, latest_of}
use Rattle.afdx_command_conform.specs.Frames.{arrivals_of, frames_of, gone_of, is_arrival_of, left_at}
use Rattle.afdx_command_conform.specs.RunLaws.{AreByTime}

-- ---- times that go down, and up the other way round

abbrev Down : List ℕ → Type 0
Down [] = ⊤
Down (t ∷ ts) = AllByRecursion (λ u. u ≤ t) ts × Down ts

up-last : (ts : List ℕ) (t : ℕ) → GoUp ts → AllByRecursion (λ u. u ≤ t) ts → GoUp (ts ++ (t ∷ []))
unfolding GoUp
up-last [] t h k = (tt, tt)
up-last (u ∷ ts) t h k = (every-append (λ v. u ≤ v) ts (t ∷ []) h.0 (k.0, tt), up-last ts t h.1 k.1)

down-up : (ts : List ℕ) → Down ts → GoUp (reverse ts)
unfolding GoUp
down-up [] h = tt
down-up (t ∷ ts) h =
    subst (λ (l : List ℕ). GoUp l) (sym (reverse-first t ts))
    (up-last (reverse ts) t (down-up ts h.1) (every-reverse (λ u. u ≤ t) ts h.0))

pub map-reverse : {X Y : Type 0} (f : X → Y) (xs : List X) → map f (reverse xs) ≡ reverse (map f xs)
map-reverse f [] = refl
map-reverse f (x ∷ xs) =
    ap (λ l. map f l) (reverse-first x xs) ∙ map-last (reverse xs) x
    ∙ ap (λ l. l ++ (f x ∷ [])) (map-reverse f xs) ∙ sym (reverse-first (f x) (map f xs))
  where
    map-last : (ys : List _) (x : _) → map f (ys ++ (x ∷ [])) ≡ map f ys ++ (f x ∷ [])
    map-last [] x = refl
    map-last (y ∷ ys) x = ap (λ l. f y ∷ l) (map-last ys x)

-- ---- those that pass a test

every-filter : {X : Type 0} (time : X → ℕ) (test : X → Bool) (t : ℕ) (xs : List X)
    → AllByRecursion (λ u. u ≤ t) (map time xs)
    → AllByRecursion (λ u. u ≤ t) (map time (filter test xs))
every-filter time test t [] h = tt
every-filter time test t (x ∷ xs) h = by (test x) (every-filter time test t xs h.1)
  where
    by : (b : Bool) → AllByRecursion (λ u. u ≤ t) (map time (filter test xs))
        → AllByRecursion (λ u. u ≤ t) (map time (if b then x ∷ filter test xs else filter test xs))
    by true k = (h.0, k)
    by false k = k

down-filter : {X : Type 0} (time : X → ℕ) (test : X → Bool) (xs : List X) → Down (map time xs)
    → Down (map time (filter test xs))
down-filter time test [] h = tt
down-filter time test (x ∷ xs) h = by (test x) (down-filter time test xs h.1)
  where
    by : (b : Bool) → Down (map time (filter test xs))
        → Down (map time (if b then x ∷ filter test xs else filter test xs))
    by true k = (every-filter time test (time x) xs h.0, k)
    by false k = k

-- ---- all frames

abbrev time_of : Frame → ℕ
time_of x = x.arrival.time

pub all-before : (t : ℕ) (frames : List Frame) → AreByTime frames → latest_of frames ≤ t
    → AllByRecursion (λ x. x.arrival.time ≤ t) frames
unfolding AreByTime
all-before t [] h le = tt
all-before t (x ∷ frames) h le = (le, all-before t frames h.1 (let a = h.0 in omega (arith, a, le)))

pub none-by-time : AreByTime []
unfolding AreByTime
none-by-time = tt

times-before : (t : ℕ) (frames : List Frame) → AllByRecursion (λ x. x.arrival.time ≤ t) frames
    → AllByRecursion (λ u. u ≤ t) (map time_of frames)
times-before t [] h = tt
times-before t (x ∷ frames) h = (h.0, times-before t frames h.1)

down-frames : (frames : List Frame) → AreByTime frames → Down (map time_of frames)
unfolding AreByTime
down-frames [] h = tt
down-frames (x ∷ frames) h = (
  times-before x.arrival.time frames (all-before x.arrival.time frames h.1 h.0),
  down-frames frames h.1,
)

-- ---- a stream's

arrivals-times : (frames : List Frame) → map (λ (x : Arrival). x.time) (map (λ (x : Frame). x.arrival) frames)
    ≡ map time_of frames
arrivals-times [] = refl
arrivals-times (x ∷ frames) = ap (λ l. x.arrival.time ∷ l) (arrivals-times frames)

gone-times : (frames : List Frame) → map (λ (y : Gone). y.time) (map (λ (x : Frame). gone_of x.arrival) frames)
    ≡ map time_of frames
gone-times [] = refl
gone-times (x ∷ frames) = ap (λ l. x.arrival.time ∷ l) (gone-times frames)

by-time : (xs : List Arrival) → Down (map (λ x. x.time) xs) → GoByTime xs
unfolding GoByTime
by-time [] h = tt
by-time (x ∷ xs) h = (times xs h.0, by-time xs h.1)
  where
    times : (ws : List Arrival) → AllByRecursion (λ u. u ≤ x.time) (map (λ x. x.time) ws)
        → AllByRecursion (λ w. w.time ≤ x.time) ws
    times [] k = tt
    times (w ∷ ws) k = (k.0, times ws k.1)

sound-before : (rule : Rule) (t : ℕ) (xs : List Arrival) → AllByRecursion (λ w. w.time ≤ t) xs
    → AllByRecursion (λ w. w.time ≤ t) (sound_of rule xs)
unfolding sound_of
sound-before rule t [] h = tt
sound-before rule t (x ∷ xs) h = by (is_none (fault_of (Some rule) x.port x.bytes)) (sound-before rule t xs h.1)
  where
    by : (b : Bool) → AllByRecursion (λ w. w.time ≤ t) (sound_of rule xs)
        → AllByRecursion (λ w. w.time ≤ t) (if b then x ∷ sound_of rule xs else sound_of rule xs)
    by true k = (h.0, k)
    by false k = k

pub sound-by-time : (rule : Rule) (xs : List Arrival) → GoByTime xs → GoByTime (sound_of rule xs)
unfolding sound_of GoByTime
sound-by-time rule [] h = tt
sound-by-time rule (x ∷ xs) h = by (is_none (fault_of (Some rule) x.port x.bytes)) (sound-by-time rule xs h.1)
  where
    by : (b : Bool) → GoByTime (sound_of rule xs) → GoByTime (if b then x ∷ sound_of rule xs else sound_of rule xs)
    by true k = (sound-before rule x.time xs h.0, k)
    by false k = k

module _ (t : Rows) (c : Choices) (frames : List Frame) (order : AreByTime frames) (vl : ℕ) (side : Side) where
  down-arrivals : Down (map (λ x. x.time) (arrivals_of t c vl side frames))
  down-arrivals =
      subst (λ (l : List ℕ). Down l) (sym (arrivals-times (filter (is_arrival_of vl side) (counted t c frames))))
      (down-filter time_of (is_arrival_of vl side) (counted t c frames)
      (down-filter time_of (counts t c) frames (down-frames frames order)))

  pub arrivals-go : GoUp (arrival_times (reverse (arrivals_of t c vl side frames)))
  arrivals-go =
      subst (λ (l : List ℕ). GoUp l) (sym (map-reverse (λ (x : Arrival). x.time) (arrivals_of t c vl side frames)))
      (down-up (map (λ x. x.time) (arrivals_of t c vl side frames)) down-arrivals)

  pub arrivals-by-time : GoByTime (arrivals_of t c vl side frames)
  arrivals-by-time = by-time (arrivals_of t c vl side frames) down-arrivals

  module _ (port : ℕ) where
    down-gone : Down (map (λ y. y.time) (frames_of t c vl side port frames))
    down-gone =
        subst (λ (l : List ℕ). Down l)
        (sym (gone-times (filter (λ x. left_at side port x && names vl x.arrival.bytes) (counted t c frames))))
        (down-filter time_of (λ x. left_at side port x && names vl x.arrival.bytes) (counted t c frames)
        (down-filter time_of (counts t c) frames (down-frames frames order)))

    pub frames-go : GoUp (frame_times (reverse (frames_of t c vl side port frames)))
    frames-go =
        subst (λ (l : List ℕ). GoUp l) (sym (map-reverse (λ (y : Gone). y.time) (frames_of t c vl side port frames)))
        (down-up (map (λ y. y.time) (frames_of t c vl side port frames)) down-gone)

    -- those that aren't cut off
    pub uncut-go : (z : Terms) → GoUp (frame_times (reverse (uncut z (frames_of t c vl side port frames))))
    uncut-go z =
        subst (λ (l : List ℕ). GoUp l)
        (sym (map-reverse (λ (y : Gone). y.time) (uncut z (frames_of t c vl side port frames))))
        (down-up (map (λ y. y.time) (uncut z (frames_of t c vl side port frames)))
        (down-filter (λ (y : Gone). y.time) (λ y. nat_le (y.time + reach z.by) z.until)
        (frames_of t c vl side port frames)
        down-gone))
