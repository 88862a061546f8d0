-- What the code keeps of a stream, with one more arrival or frame.
use Rattle.std.proofs.Common.{◌+◌, ◌≡◌, ℕ, zero, suc, ◌<◌, ◌≤◌, Bool, true, false, List, [], ◌∷◌, ◌++◌, map, reverse, drop, length, min, refl, sym, ap, ◌∙◌, subst, arith}
use Rattle.std.proofs.lemmas.List.{append_assoc, length-append, map-append, length-map}
use Rattle.std.proofs.lemmas.List.Elements.{All-append}
use Rattle.std.specs.Prelude.{All}
use Rattle.std.specs.List.{AllByRecursion}
use Rattle.std.specs.Global.{Vec}
use Rattle.afdx_police.specs.Arrival.{Arrival}
use Rattle.afdx_conform.specs.Events.{GoUp, moment_at}
use Rattle.afdx_conform.specs.Explanations.{from_time}
use Rattle.afdx_conform.specs.Findings.{Judged, Marked, judged_after}
use Rattle.afdx_conform.specs.Growing.{AreTold, Continues, IsAfter, IsHeld, IsKept, MayCome, most_found}
use Rattle.afdx_conform.specs.Histories.{AreEvents, AreOver, coming, judged_by, unsure_in, unclosed}
use Rattle.afdx_conform.specs.Marks.{IsJudged, arrival_of, marked_all, marked_of}
use Rattle.afdx_conform.specs.Ranges.{most_held}
use Rattle.afdx_conform.specs.States.{Event, Came, Closing, arrivals_came}
use Rattle.afdx_conform.specs.Streams.{Gone, Terms}
use Rattle.afdx_conform.specs.declared.arrived.Arrived.{Arrived}
use Rattle.afdx_conform.specs.declared.finding.Mark.{Mark}
use Rattle.afdx_conform.specs.declared.growth.Growth.{Growth}
use Rattle.afdx_conform.specs.declared.known_bytes.KnownBytes.{KnownBytes}
use Rattle.afdx_conform.proofs.EveryLemmas.{every-append, every-reverse, reverse-first}
use Rattle.afdx_conform.proofs.HistoryLemmas.{coming-more, drop-next, events-came, next-came}
use Rattle.afdx_conform.proofs.LaterArrivals.{arrivals_later}
use Rattle.afdx_conform.proofs.OverLemmas.{come-later, over-arrivals}

-- ---- lists

pub up-more : (times : List ℕ) (time : ℕ) → GoUp times → AllByRecursion (λ t. t ≤ time) times
    → GoUp (times ++ (time ∷ []))
unfolding GoUp
up-more [] time h all = (tt, tt)
up-more (t ∷ times) time h all = (
  every-append (λ other. t ≤ other) times (time ∷ []) h.0 (all.0, tt),
  up-more times time h.1 all.1,
)

pub times-up : {X : Type 0} (f : X → ℕ) (xs : List X) (x : X) → GoUp (map f xs) → AllByRecursion (λ w. f w ≤ f x) xs
    → GoUp (map f (xs ++ (x ∷ [])))
times-up {X = X} f xs x h all =
    subst (λ (l : List ℕ). GoUp l) (sym (map-append f xs (x ∷ []))) (up-more (map f xs) (f x) h (by xs all))
  where
    by : (ws : List X) → AllByRecursion (λ w. f w ≤ f x) ws → AllByRecursion (λ t. t ≤ f x) (map f ws)
    by [] p = tt
    by (w ∷ ws) p = (p.0, by ws p.1)

pub all-one : {X : Type 0} (P : X → Type 0) (x : X) → P x → All P (x ∷ [])
all-one P x p zero d lt = p
all-one P x p (suc i) d lt = absurd (omega (arith, lt))

marked-more : (xs more : List Arrived) (ms : List Mark) → length ms ≤ length xs
    → marked_all (xs ++ more) ms ≡ marked_all xs ms
unfolding marked_all
marked-more [] [] [] le = refl
marked-more [] (a ∷ more) [] le = refl
marked-more [] more (m ∷ ms) le = absurd (omega (arith, le))
marked-more (a ∷ xs) more [] le = refl
marked-more (a ∷ xs) more (m ∷ ms) le =
    ap (λ (l : List Marked). marked_of a m ∷ l) (marked-more xs more ms (omega (arith, le)))

-- what is the first of two lists that are the same together
pub prefix-all : {X : Type 0} (P : X → Type 0) (gs rest rs others : List X) → gs ++ rest ≡ rs ++ others
    → length gs ≤ length rs
    → AllByRecursion P rs → AllByRecursion P gs
prefix-all P [] rest rs others e le h = tt
prefix-all P (g ∷ gs) rest [] others e le h = absurd (omega (arith, le))
prefix-all {X = X} P (g ∷ gs) rest (r ∷ rs) others e le h =
    (subst (λ (v : X). P v) (sym (first e)) h.0, prefix-all P gs rest rs others (more e) (omega (arith, le)) h.1)
  where
    first : g ∷ (gs ++ rest) ≡ r ∷ (rs ++ others) → g ≡ r
    first k = cc

    more : g ∷ (gs ++ rest) ≡ r ∷ (rs ++ others) → gs ++ rest ≡ rs ++ others
    more k = cc

pub true-false : {b : Bool} → b ≡ true → b ≡ false → ⊥
true-false p q = absurd (cc)

-- ---- the arrivals that are over

module _ (z : Terms) where
  pub over-first : (xs : List Arrival) (ys : List Gone) (over : List Event) → AreEvents z xs ys over
      → reverse (arrivals_came over) ++ coming xs over ≡ xs
  unfolding AreEvents
  over-first xs ys [] h = refl
  over-first xs ys (Came x ∷ before) h =
      let first = next-came z (coming xs before) (unclosed ys before) x h.0 in
      ap (λ (l : List Arrival). l ++ drop (suc (length (arrivals_came before))) xs)
      (reverse-first x (arrivals_came before))
      ∙ append_assoc (reverse (arrivals_came before)) (x ∷ []) (drop (suc (length (arrivals_came before))) xs)
      ∙ ap (λ (l : List Arrival). reverse (arrivals_came before) ++ (x ∷ l))
      (drop-next (length (arrivals_came before)) xs x first.0 first.1)
      ∙ ap (λ (l : List Arrival). reverse (arrivals_came before) ++ l) (sym first.1)
      ∙ over-first xs ys before h.1
  over-first xs ys (Closing time ∷ before) h = over-first xs ys before h.1

  length-reverse : {X : Type 0} (xs : List X) → length (reverse xs) ≡ length xs
  length-reverse [] = refl
  length-reverse (x ∷ xs) = ap (λ (l : List _). length l) (reverse-first x xs) ∙ length-append (reverse xs) (x ∷ [])
      ∙ (let h = length-reverse xs in omega (arith, h))

  arrivals-of : (P : Arrival → Type 0) (gone : List Marked) → AllByRecursion P (map (λ m. m.arrival) gone)
      → AllByRecursion (λ m. P m.arrival) gone
  arrivals-of P [] h = tt
  arrivals-of P (m ∷ gone) h = (h.0, arrivals-of P gone h.1)

  pub gone-over : (xs rest : List Arrival) (ys : List Gone) (gone : List Marked) (time : ℕ) (over : List Event)
      → AreEvents z xs ys over → xs ≡ map (λ m. m.arrival) gone ++ rest → length gone ≤ length (arrivals_came over)
      → AreOver z time over → AllByRecursion (λ m. moment_at z m.arrival.time < time) gone
  gone-over xs rest ys gone time over events e le o =
      let size = length-map gone (λ (m : Marked). m.arrival) in
      let back = length-reverse (arrivals_came over) in
      arrivals-of (λ x. moment_at z x.time < time) gone
      (prefix-all (λ x. moment_at z x.time < time) (map (λ m. m.arrival) gone) rest (reverse (arrivals_came over))
      (coming xs over)
      (sym e ∙ sym (over-first xs ys over events))
      (omega (arith, le, size, back))
      (every-reverse (λ x. moment_at z x.time < time) (arrivals_came over) (over-arrivals z time over o)))

  -- ---- one more arrival

  module _ (xs : List Arrival) (ys : List Gone) (cut time : ℕ) (over : List Event) (a : Arrived) (old : Growth)
      (arrivals' : Vec Arrived) (count : ℕ) (known' : KnownBytes) where
    abbrev One : List Arrival
    One = arrival_of a ∷ []

    abbrev pub With : Growth
    With = record old { arrivals = arrivals'; came = count; known = known' }

    pub judged-came : time ≤ a.time → AreOver z time over → AreEvents z xs ys over
        → judged_by z (xs ++ One) ys over ≡ judged_by z xs ys over
    judged-came le o h =
        ap (λ (l : List Arrival). judged_after z ys l over) (coming-more z xs ys (arrival_of a) over h)
        ∙ arrivals_later z ys (coming xs over) One over (come-later z (arrival_of a) time over le o)

    told-came : MayCome z xs time (arrival_of a) → AreTold z xs ys → AreTold z (xs ++ One) ys
    told-came m t = record {
      came = times-up (λ (x : Arrival). x.time) xs (arrival_of a) t.came m.by_time;
      left = t.left;
      start = every-append (λ x. from_time z.by.start ≤ x.time) xs One t.start (m.start, tt);
      begun = t.begun;
    }

    module _ (items : arrivals'.items ≡ old.arrivals.items ++ (a ∷ [])) (counts : count ≡ old.came + 1)
        (same : judged_by z (xs ++ One) ys over ≡ judged_by z xs ys over) where
      kept-came : (gone : List Marked) (past : List Gone) → IsJudged z a → IsKept z xs ys cut over gone past old
          → IsKept z (xs ++ One) ys cut over gone past With
      kept-came gone past j k = record {
        came = ap (λ (l : List Arrival). l ++ One) k.came
            ∙ append_assoc (map (λ m. m.arrival) gone) (map arrival_of old.arrivals.items) One
            ∙ ap (λ (l : List Arrival). map (λ m. m.arrival) gone ++ l)
            (sym (map-append arrival_of old.arrivals.items (a ∷ [])))
            ∙ ap (λ (l : List Arrived). map (λ m. m.arrival) gone ++ map arrival_of l) (sym items);
        left = k.left;
        judged = subst (λ (l : List Arrived). All (λ b. IsJudged z b) l) (sym items)
            (All-append (λ b. IsJudged z b) old.arrivals.items (a ∷ []) k.judged (all-one (λ b. IsJudged z b) a j));
        marks = k.marks;
        closed = k.closed;
        unread = k.unread;
        last = k.last;
        found = k.found ∙ ap (λ (j : Judged). min j.frames most_found) (sym same);
        arrivals = (let n = k.arrivals in let l = length-append xs One in omega (arith, n, l, counts));
        frames = k.frames;
        cut_off = k.cut_off;
        started = k.started;
        certain = k.certain;
      }

      continues-came : (gone : List Marked) → length old.judging.marks.items ≤ length old.arrivals.items
          → Continues z xs ys over gone old → Continues z (xs ++ One) ys over gone With
      continues-came gone le c = record {
        j = c.j;
        same = c.same ∙ sym same;
        stands = record {
          states = c.stands.states;
          within = c.stands.within;
          marks = ap (λ (l : List Arrived). marked_all l old.judging.marks.items) items
              ∙ marked-more old.arrivals.items (a ∷ []) old.judging.marks.items le ∙ c.stands.marks;
          uncertain = c.stands.uncertain;
          unsure = c.stands.unsure;
        };
      }

      held-came : IsJudged z a → length old.judging.marks.items ≤ length old.arrivals.items
          → IsHeld z xs ys cut over old → IsHeld z (xs ++ One) ys cut over With
      held-came j le h = record {
        gone = h.gone;
        past = h.past;
        kept = kept-came h.gone h.past j h.kept;
        continues = λ s. continues-came h.gone le (h.continues s);
      }

    pub after-came : arrivals'.items ≡ old.arrivals.items ++ (a ∷ []) → count ≡ old.came + 1
        → IsJudged z a → MayCome z xs time (arrival_of a)
        → AreOver z time over → length old.judging.marks.items ≤ length old.arrivals.items
        → IsAfter z xs ys cut over old → IsAfter z (xs ++ One) ys cut over With
    after-came items counts j m o le f =
        let same = judged-came m.behind o f.events in
        record {
          bounds = f.bounds;
          by = f.by;
          told = told-came m f.told;
          events = events-came z xs ys (arrival_of a) time over m.behind o f.events;
          unsure = f.unsure ∙ ap (λ (k : Judged). k.is_unsure) (sym same);
          tag = f.tag ∙ ap (λ (k : Judged). unsure_in k) (sym same);
          sure = λ s. held-came items counts same j le (f.sure s);
        }

    -- of a stream that is unsure nothing is held
    pub after-unsure : old.judging.is_unsure ≡ true → MayCome z xs time (arrival_of a) → AreOver z time over
        → IsAfter z xs ys cut over old → IsAfter z (xs ++ One) ys cut over old
    after-unsure un m o f =
        let same = judged-came m.behind o f.events in
        record {
          bounds = f.bounds;
          by = f.by;
          told = told-came m f.told;
          events = events-came z xs ys (arrival_of a) time over m.behind o f.events;
          unsure = f.unsure ∙ ap (λ (k : Judged). k.is_unsure) (sym same);
          tag = f.tag ∙ ap (λ (k : Judged). unsure_in k) (sym same);
          sure = λ s. absurd (true-false un s);
        }

    -- there aren't so many
    pub not-many : MayCome z xs time (arrival_of a) → old.judging.is_unsure ≡ false → most_held ≤ old.came + 1
        → IsAfter z xs ys cut over old → ⊥
    not-many m sure le f =
        let few = m.few in
        let is = (f.sure sure).kept.arrivals in
        absurd (omega (arith, few, is, le))
