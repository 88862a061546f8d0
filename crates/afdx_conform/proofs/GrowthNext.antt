-- Which event of a stream is the next.
use Rattle.std.proofs.Common.{◌≡◌, ◌≢◌, ℕ, zero, suc, ◌+◌, ◌<◌, ◌≤◌, Bool, true, false, List, [], ◌∷◌, ◌++◌, map, drop, get_or, length, refl, sym, ap, ◌∙◌, arith}
use Rattle.std.proofs.Math.Seq.{drop-append-add}
use Rattle.std.proofs.lemmas.Bool.{lt-ltb, le-ltb}
use Rattle.std.proofs.lemmas.List.{get_or-drop, length-drop, length-map}
use Rattle.std.specs.Prelude.{if◌then◌else◌, nat_lt, Option, Some, None, option_map}
use Rattle.afdx_police.specs.Arrival.{Arrival}
use Rattle.afdx_conform.specs.Events.{closings_in, event_time, moment_at}
use Rattle.afdx_conform.specs.Findings.{Marked}
use Rattle.afdx_conform.specs.Growing.{IsKept, due_at, due_in}
use Rattle.afdx_conform.specs.Histories.{coming, next_of, unclosed}
use Rattle.afdx_conform.specs.Leeway.{reach}
use Rattle.afdx_conform.specs.Limits.{AreLimits, gone_of}
use Rattle.afdx_conform.specs.Marks.{arrival_of}
use Rattle.afdx_conform.specs.States.{Event, Came, Closing, arrivals_came}
use Rattle.afdx_conform.specs.Streams.{Gone, Terms}
use Rattle.afdx_conform.specs.declared.arrived.Arrived.{Arrived}
use Rattle.afdx_conform.specs.declared.growth.Growth.{Growth}
use Rattle.afdx_conform.specs.declared.limits.LeftFrame.{LeftFrame}
use Rattle.afdx_conform.specs.declared.limits.Limits.{Limits}
use Rattle.afdx_conform.specs.declared.upcoming.Upcoming.{Upcoming}
use Rattle.afdx_conform.proofs.GrowthDecides.{drop-map}

module _ (z : Terms) where
  -- ---- by what is held

  coming-held : (xs : List Arrival) (ys : List Gone) (cut : ℕ) (over : List Event) (gone : List Marked)
      (past : List Gone)
      (s : Growth) → IsKept z xs ys cut over gone past s
      → coming xs over ≡ map arrival_of (drop (length s.judging.marks.items) s.arrivals.items)
  coming-held xs ys cut over gone past s k =
      let size = length-map gone (λ (m : Marked). m.arrival) in
      let marks = k.marks in
      let e : length (arrivals_came over) ≡ length (map (λ (m : Marked). m.arrival) gone) + length
      s.judging.marks.items =
      omega (arith, size, marks) in
      ap (λ (l : List Arrival). drop (length (arrivals_came over)) l) k.came
      ∙ ap (λ (n : ℕ). drop n (map (λ (m : Marked). m.arrival) gone ++ map arrival_of s.arrivals.items)) e
      ∙ drop-append-add (map (λ (m : Marked). m.arrival) gone) (map arrival_of s.arrivals.items)
      (length s.judging.marks.items)
      ∙ drop-map arrival_of (length s.judging.marks.items) s.arrivals.items

  unclosed-held : (xs : List Arrival) (ys : List Gone) (cut : ℕ) (over : List Event) (gone : List Marked)
      (past : List Gone)
      (s : Growth) → IsKept z xs ys cut over gone past s
      → unclosed ys over ≡ map gone_of (drop s.closed s.frames.items)
  unclosed-held xs ys cut over gone past s k =
      ap (λ (l : List Gone). drop (length (closings_in over)) l) k.left
      ∙ ap (λ (n : ℕ). drop n (past ++ map gone_of s.frames.items)) k.closed
      ∙ drop-append-add past (map gone_of s.frames.items) s.closed
      ∙ drop-map gone_of s.closed s.frames.items

  pub next-held : (xs : List Arrival) (ys : List Gone) (cut : ℕ) (over : List Event) (gone : List Marked)
      (past : List Gone)
      (s : Growth) → IsKept z xs ys cut over gone past s
      → next_of z (coming xs over) (unclosed ys over)
      ≡ next_of z (map arrival_of (drop (length s.judging.marks.items) s.arrivals.items))
      (map gone_of (drop s.closed s.frames.items))
  next-held xs ys cut over gone past s k =
      ap (λ (l : List Arrival). next_of z l (unclosed ys over)) (coming-held xs ys cut over gone past s k)
      ∙ ap (λ (l : List Gone). next_of z (map arrival_of (drop (length s.judging.marks.items) s.arrivals.items)) l)
      (unclosed-held xs ys cut over gone past s k)

  -- ---- the moment

  pub due-next : (limits : Limits) (cs : List Arrived) (fs : List LeftFrame) → AreLimits z limits
      → due_in limits cs fs ≡ option_map (λ e. moment_at z (event_time z e))
      (next_of z (map arrival_of cs) (map gone_of fs))
  due-next limits [] [] b = refl
  due-next limits [] (f ∷ fs) b =
      ap (λ (n : ℕ). Some n) (let l = b.latency in let s = b.reach in omega (arith, l, s))
  due-next limits (c ∷ cs) [] b =
      ap (λ (n : ℕ). Some n) (let l = b.latency in let s = b.reach in omega (arith, l, s))
  due-next limits (c ∷ cs) (f ∷ fs) b =
      ap (λ (n : ℕ). if nat_lt (f.time + n) c.time then Some (due_at limits (f.time + limits.reach))
      else Some (due_at limits c.time))
      b.reach
      ∙ by (nat_lt (f.time + reach z.by) c.time)
    where
      by : (t : Bool) → (if t then Some (due_at limits (f.time + limits.reach)) else Some (due_at limits c.time))
          ≡ option_map (λ e. moment_at z (event_time z e)) (if t then Some (Closing f.time)
          else Some (Came (arrival_of c)))
      by true = ap (λ (n : ℕ). Some n) (let l = b.latency in let s = b.reach in omega (arith, l, s))
      by false = ap (λ (n : ℕ). Some n) (let l = b.latency in let s = b.reach in omega (arith, l, s))

  -- ---- which it is

  first-arrives : (cs : List Arrived) (fs : List LeftFrame) (a : Arrived) (apart : ℕ) → apart ≡ reach z.by
      → 0 < length cs → a ≡ get_or cs 0 a
      → ((f : LeftFrame) → 0 < length fs → f ≡ get_or fs 0 f → a.time ≤ f.time + apart)
      → next_of z (map arrival_of cs) (map gone_of fs) ≡ Some (Came (arrival_of a))
  first-arrives [] fs a apart e lt at first = absurd (omega (arith, lt))
  first-arrives (c ∷ cs) [] a apart e lt at first = ap (λ (v : Arrived). Some (Came (arrival_of v))) (sym at)
  first-arrives (c ∷ cs) (f ∷ fs) a apart e lt at first =
      let le = first f (omega arith) refl in
      let same = ap (λ (v : Arrived). v.time) at in
      ap (λ (b : Bool). if b then Some (Closing f.time) else Some (Came (arrival_of c)))
      (le-ltb (f.time + reach z.by) c.time (omega (arith, le, same, e)))
      ∙ ap (λ (v : Arrived). Some (Came (arrival_of v))) (sym at)

  first-closes : (cs : List Arrived) (fs : List LeftFrame) (f : LeftFrame) (apart : ℕ) → apart ≡ reach z.by
      → 0 < length fs → f ≡ get_or fs 0 f
      → ((a : Arrived) → 0 < length cs → a ≡ get_or cs 0 a → f.time + apart < a.time)
      → next_of z (map arrival_of cs) (map gone_of fs) ≡ Some (Closing f.time)
  first-closes cs [] f apart e lt at first = absurd (omega (arith, lt))
  first-closes [] (g ∷ fs) f apart e lt at first = ap (λ (v : LeftFrame). Some (Closing v.time)) (sym at)
  first-closes (c ∷ cs) (g ∷ fs) f apart e lt at first =
      let less = first c (omega arith) refl in
      let same = ap (λ (v : LeftFrame). v.time) at in
      ap (λ (b : Bool). if b then Some (Closing g.time) else Some (Came (arrival_of c)))
      (lt-ltb (g.time + reach z.by) c.time (omega (arith, less, same, e)))
      ∙ ap (λ (v : LeftFrame). Some (Closing v.time)) (sym at)

  pub next-none : (cs : List Arrived) (fs : List LeftFrame) → length cs ≤ 0 → length fs ≤ 0
      → next_of z (map arrival_of cs) (map gone_of fs) ≡ None
  next-none [] [] c f = refl
  next-none (c ∷ cs) fs le f = absurd (omega (arith, le))
  next-none [] (g ∷ fs) c le = absurd (omega (arith, le))

  -- ---- from a place on

  get-drop : {X : Type 0} (n : ℕ) (xs : List X) (d : X) → get_or (drop n xs) 0 d ≡ get_or xs n d
  get-drop n xs d = get_or-drop n xs 0 d ∙ ap (λ (k : ℕ). get_or xs k d) (omega arith)

  pub arrives-at : (place closed : ℕ) (cs : List Arrived) (fs : List LeftFrame) (a : Arrived) (apart : ℕ)
      → apart ≡ reach z.by
      → place < length cs → a ≡ get_or cs place a
      → ((f : LeftFrame) → closed < length fs → f ≡ get_or fs closed f → a.time ≤ f.time + apart)
      → next_of z (map arrival_of (drop place cs)) (map gone_of (drop closed fs)) ≡ Some (Came (arrival_of a))
  arrives-at place closed cs fs a apart e lt at first =
      let size = length-drop place cs in
      let many = length-drop closed fs in
      first-arrives (drop place cs) (drop closed fs) a apart e (omega (arith, lt, size)) (at
      ∙ sym (get-drop place cs a))
      (λ f less is. first f (omega (arith, less, many)) (is ∙ get-drop closed fs f))

  pub closes-at : (place closed : ℕ) (cs : List Arrived) (fs : List LeftFrame) (f : LeftFrame) (apart : ℕ) → apart ≡
      reach z.by
      → closed < length fs → f ≡ get_or fs closed f
      → ((a : Arrived) → place < length cs → a ≡ get_or cs place a → f.time + apart < a.time)
      → next_of z (map arrival_of (drop place cs)) (map gone_of (drop closed fs)) ≡ Some (Closing f.time)
  closes-at place closed cs fs f apart e lt at first =
      let size = length-drop closed fs in
      let many = length-drop place cs in
      first-closes (drop place cs) (drop closed fs) f apart e (omega (arith, lt, size)) (at
      ∙ sym (get-drop closed fs f))
      (λ a less is. first a (omega (arith, less, many)) (is ∙ get-drop place cs a))

  pub none-at : (place closed : ℕ) (cs : List Arrived) (fs : List LeftFrame) → length cs ≤ place → length fs ≤ closed
      → next_of z (map arrival_of (drop place cs)) (map gone_of (drop closed fs)) ≡ None
  none-at place closed cs fs le few =
      let size = length-drop place cs in
      let many = length-drop closed fs in
      next-none (drop place cs) (drop closed fs) (omega (arith, le, size)) (omega (arith, few, many))

-- some event is this one
pub the-event : {e v : Event} → Some e ≡ Some v → v ≡ e
the-event p = cc

pub no-event : {e : Event} → Some e ≡ None → ⊥
no-event p = absurd (cc)

pub some-frame : (fs : List LeftFrame) (i : ℕ) → i < length fs → (f : LeftFrame) × (f ≡ get_or fs i f)
some-frame [] i lt = absurd (omega (arith, lt))
some-frame (f ∷ fs) zero lt = (f, refl)
some-frame (f ∷ fs) (suc i) lt = some-frame fs i (omega (arith, lt))

pub none-of : (o : Option Upcoming) → ((u : Upcoming) → o ≢ Some u) → o ≡ None
none-of None h = refl
none-of (Some u) h = absurd (h u refl)
