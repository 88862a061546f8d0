-- What waits on both sides, by what the code keeps.
use Rattle.std.proofs.Common.{◌≡◌, ℕ, ◌+◌, ◌≤◌, ◌<◌, Bool, true, false, List, [], ◌∷◌, ◌++◌, refl, sym, ap, ap₂, ◌∙◌, subst}
use Rattle.std.proofs.Common.{append_assoc, arith, drop, Option, Some, None}
use Rattle.std.specs.Prelude.{if◌then◌else◌, option_map, nat_le, IfNone, IfSome}
use Rattle.std.specs.List.{list_any}
use Rattle.std.proofs.Math.Seq.{drop-append_seam}
use Rattle.std.proofs.lemmas.Bool.{le-leb, leb-true, leb-false, lt-leb}
use Rattle.std.proofs.lemmas.List.{length-map, map-append}
use Rattle.afdx_frame.specs.Sides.{is_side}
use Rattle.afdx_frame.specs.declared.link.Side.{Side}
use Rattle.afdx_frame.specs.declared.link.Side.TheVariants.{A, B}
use Rattle.afdx_lawful.specs.Accepted.{ComeUpTo}
use Rattle.afdx_lawful.specs.Courses.{AllTold, AreHeld, AreOpen, Course, NotBefore, Unpaired, next_told, oldest}
use Rattle.afdx_lawful.specs.Courses.{came_too, over, sooner, still_waiting, told_at, told_on, waited_on}
use Rattle.afdx_lawful.specs.Flaws.{is_whole, whole_of}
use Rattle.afdx_lawful.specs.Judged.{waiting_of}
use Rattle.afdx_lawful.specs.OneSide.{IsCame, IsNext, StandOn, StandsOn}
use Rattle.afdx_lawful.specs.Partners.{Waiting, joined, may_pair, other, waits_now, waiting, without_first}
use Rattle.afdx_lawful.specs.Rings.{all_as, waiting_as}
use Rattle.afdx_lawful.specs.Sides.{AreNext, StandBoth, next_in, ring_on}
use Rattle.afdx_lawful.specs.Sources.{Came, Source, hold, on_side}
use Rattle.afdx_lawful.specs.LastCame.{AreLast}
use Rattle.afdx_lawful.specs.Tracks.{IsTrack}
use Rattle.afdx_lawful.specs.declared.last.LastCame.{LastCame}
use Rattle.afdx_lawful.specs.declared.track.Track.{Track}
use Rattle.afdx_lawful.specs.declared.one_side.OneSide.{OneSide}
use Rattle.afdx_lawful.specs.declared.sides.BothSides.{BothSides}
use Rattle.afdx_lawful.specs.declared.waits.Waits.{Waits}
use Rattle.afdx_lawful.specs.declared.whole.Whole.{Whole}
use Rattle.afdx_lawful.proofs.CutLemmas.{up_filtered}

-- ---- those that wait go by time

-- each no sooner than the one before it, from a time up to another
abbrev pub InTurn : ℕ → ℕ → List Waiting → Type 0
InTurn from to [] = Unit {0}
InTurn from to (y ∷ ys) = (from ≤ y.frame.time) × (y.frame.time ≤ to) × InTurn y.frame.time to ys

pub from_sooner : (from low-time to : ℕ) (ys : List Waiting) → low-time ≤ from → InTurn from to ys →
    InTurn low-time to ys
from_sooner from low-time to [] low h = h
from_sooner from low-time to (y ∷ ys) low h = (omega (arith, low, h.0), h.1, h.2)

without_turn : (p : Waiting → Bool) (from to : ℕ) (ys : List Waiting) → InTurn from to ys →
    InTurn from to (without_first p ys)
unfolding without_first
without_turn p from to [] h = h
without_turn p from to (y ∷ ys) h = by (p y) (without_turn p y.frame.time to ys h.2)
  where
    by : (b : Bool) → InTurn y.frame.time to (without_first p ys) →
        InTurn from to (if b then ys else y ∷ without_first p ys)
    by true rest = from_sooner y.frame.time from to ys h.0 h.2
    by false rest = (h.0, h.1, rest)

later_turn : (from to later : ℕ) (ys : List Waiting) → to ≤ later → InTurn from to ys → InTurn from later ys
later_turn from to later [] up h = h
later_turn from to later (y ∷ ys) up h =
    (h.0, omega (arith, up, h.1), later_turn y.frame.time to later ys up h.2)

turn_and : (from to : ℕ) (ys : List Waiting) (y : Waiting) → from ≤ y.frame.time → to ≤ y.frame.time →
    InTurn from to ys → InTurn from y.frame.time (ys ++ y ∷ [])
turn_and from to [] y low up h = (low, omega arith, _)
turn_and from to (w ∷ ys) y low up h =
    (h.0, omega (arith, h.1, up), turn_and w.frame.time to ys y (omega (arith, h.1, up)) up h.2)

in_turn : (s : Source) (side : Side) (ws : List Came) (end : ℕ) → ComeUpTo end ws →
    InTurn 0 end (waiting s side ws)
unfolding waiting
in_turn s side [] end h = _
in_turn s side (x ∷ past) end h =
    later_turn 0 x.time end (waiting s side (x ∷ past)) h.0 (by (is_side side x.side) (in_turn s side past x.time h.1))
  where
    one : (b : Bool) → InTurn 0 x.time (waiting s side past) →
        InTurn 0 x.time (if b then waiting s side past else waiting s side past ++ waits_now s past x ∷ [])
    one true t = t
    one false t =
        turn_and 0 x.time (waiting s side past) (waits_now s past x) (omega arith) (omega arith) t

    by : (b : Bool) → InTurn 0 x.time (waiting s side past) →
        InTurn 0 x.time (if b then joined s past x (waiting s side past) (waiting s (other side) past)
        else without_first (may_pair s x) (waiting s side past))
    by true t = one (list_any (may_pair s x) (waiting s (other side) past)) t
    by false t = without_turn (may_pair s x) 0 x.time (waiting s side past) t

pub turn_of : (s : Source) (side : Side) (xs : List Came) (end : ℕ) → ComeUpTo end xs →
    InTurn 0 end (waiting_of s side xs)
turn_of s side xs end up = by s.is_paired (in_turn s side (whole_of xs) end (up_filtered is_whole end xs up))
  where
    by : (b : Bool) → InTurn 0 end (waiting s side (whole_of xs)) →
        InTurn 0 end (if b then waiting s side (whole_of xs) else [])
    by true t = t
    by false t = _

pub turn_behind : (from to : ℕ) (gone ys : List Waiting) → InTurn from to (gone ++ ys) → InTurn 0 to ys
turn_behind from to [] ys h = from_sooner from 0 to ys (omega arith) h
turn_behind from to (y ∷ gone) ys h = turn_behind y.frame.time to gone ys h.2

all_open : (s : Source) (time from to : ℕ) (ys : List Waiting) → time ≤ from + hold s → InTurn from to ys →
    AreOpen s time ys
all_open s time from to [] low h = _
all_open s time from to (y ∷ ys) low h =
    (omega (arith, low, h.0), all_open s time y.frame.time to ys (omega (arith, low, h.0)) h.2)

-- if the oldest isn't told before a time, none is
pub open_by : (s : Source) (time to : ℕ) (ys : List Waiting) → InTurn 0 to ys → NotBefore s time (oldest ys) →
    AreOpen s time ys
open_by s time to [] t h = _
open_by s time to (y ∷ ys) t h = (h, all_open s time y.frame.time to ys h t.2)

pub sooner_a : (s : Source) (time : ℕ) (a b : Option Waiting) → NotBefore s time (sooner a b) → NotBefore s time a
sooner_a s time None b h = _
sooner_a s time (Some a) None h = h
sooner_a s time (Some a) (Some b) h = by (nat_le a.frame.time b.frame.time) refl h
  where
    by : (p : Bool) → nat_le a.frame.time b.frame.time ≡ p → NotBefore s time (if p then Some a else Some b) →
        time ≤ told_at s a
    by true e h = h
    by false e h = omega (arith, leb-false a.frame.time b.frame.time e, h)

pub sooner_b : (s : Source) (time : ℕ) (a b : Option Waiting) → NotBefore s time (sooner a b) → NotBefore s time b
sooner_b s time a None h = _
sooner_b s time None (Some b) h = h
sooner_b s time (Some a) (Some b) h = by (nat_le a.frame.time b.frame.time) refl h
  where
    by : (p : Bool) → nat_le a.frame.time b.frame.time ≡ p → NotBefore s time (if p then Some a else Some b) →
        time ≤ told_at s b
    by true e h = omega (arith, leb-true a.frame.time b.frame.time e, h)
    by false e h = h

-- ---- what is left

module _ (s : Source) (c : Course) where
  pub still_is : (side : Side) (one : OneSide) → StandsOn s side c.came (waited_on c side) one →
      still_waiting s c side ≡ all_as side one.waiting
  unfolding still_waiting
  still_is side one h =
      ap₂ (λ (n : ℕ) (l : List Waiting). drop n l) (sym (length-map (over c side) (λ u. u.waited))) h.waiting
      ∙ drop-append_seam (waited_on c side) (all_as side one.waiting)

  module _ (both : BothSides) (h : StandBoth s c.came (waited_on c) both) where
    pub next_is : next_told s c ≡ next_in both
    next_is =
        ap₂ (λ (a b : List Waiting). sooner (oldest a) (oldest b)) (still_is A both.a h.here)
        (still_is B both.b h.there)

    pub none_left : next_in both ≡ None → AllTold s c
    none_left none = told (ring_on A both) (ring_on B both) refl refl none
      where
        bare : (side : Side) (one : OneSide) → StandsOn s side c.came (waited_on c side) one →
            all_as side one.waiting ≡ [] → waiting_of s side c.came ≡ waited_on c side
        bare side one stand e =
            stand.waiting ∙ ap (λ (l : List Waiting). waited_on c side ++ l) e ∙ append_none (waited_on c side)
          where
            append_none : (l : List Waiting) → l ++ [] ≡ l
            append_none [] = refl
            append_none (y ∷ l) = ap (λ (k : List Waiting). y ∷ k) (append_none l)

        some : (a b : Waiting) → sooner (Some a) (Some b) ≡ None → ⊥
        some a b e = by (nat_le a.frame.time b.frame.time) e
          where
            by : (p : Bool) → (if p then Some a else Some b) ≡ None → ⊥
            by true e = cc e
            by false e = cc e

        told : (ws vs : List Waiting) → ring_on A both ≡ ws → ring_on B both ≡ vs →
            sooner (oldest ws) (oldest vs) ≡ None → AllTold s c
        told [] [] e f g A = bare A both.a h.here e
        told [] [] e f g B = bare B both.b h.there f
        told (a ∷ ws) [] e f g side = absurd (cc g)
        told [] (b ∷ vs) e f g side = absurd (cc g)
        told (a ∷ ws) (b ∷ vs) e f g side = absurd (some a b g)

    module _ (end : ℕ) (up : ComeUpTo end c.came) (time : ℕ) (not : NotBefore s time (next_told s c)) where
      turned_on : (side : Side) (one : OneSide) → StandsOn s side c.came (waited_on c side) one →
          InTurn 0 end (all_as side one.waiting)
      turned_on side one stand =
          turn_behind 0 end (waited_on c side) (all_as side one.waiting)
          (subst (InTurn 0 end) stand.waiting (turn_of s side c.came end up))

      not_in : NotBefore s time (next_in both)
      not_in = subst (NotBefore s time) next_is not

      pub open_a : AreOpen s time (ring_on A both)
      open_a = open_by s time end (ring_on A both) (turned_on A both.a h.here)
          (sooner_a s time (oldest (ring_on A both)) (oldest (ring_on B both)) not_in)

      pub open_b : AreOpen s time (ring_on B both)
      open_b = open_by s time end (ring_on B both) (turned_on B both.b h.there)
          (sooner_b s time (oldest (ring_on A both)) (oldest (ring_on B both)) not_in)

-- ---- sides

pub turned_next : (s : Source) (x : Came) (gone : Side → List Waiting) (both : BothSides) → AreNext s x gone both →
    IsNext s B x gone both.b both.a
turned_next s x gone both h = record { gone = h.gone; here = h.there; there = h.here }

pub came_on : (side at : Side) (whole : Whole) (x : Came) → side ≡ at → IsCame side whole x → IsCame at whole x
came_on side at whole x e h = subst (λ (o : Side). IsCame o whole x) e h

-- ---- the next of both

abbrev at : Waiting → Side × ℕ
at y = (y.frame.side, y.frame.time)

abbrev time_of : Waiting → ℕ
time_of y = y.frame.time

module _ (a b : ℕ) where
  same : {n m : ℕ} → Some n ≡ Some m → n ≡ m
  same h = cc

  pub next_b : (ws vs : List Waits) → Some a ≡ option_map time_of (oldest (all_as A ws)) →
      Some b ≡ option_map time_of (oldest (all_as B vs)) → b < a →
      Some (B, b) ≡ option_map at (sooner (oldest (all_as A ws)) (oldest (all_as B vs)))
  next_b [] vs e f h = absurd (cc e)
  next_b (w ∷ ws) [] e f h = absurd (cc f)
  next_b (w ∷ ws) (v ∷ vs) e f h =
      by (nat_le w.time v.time) (lt-leb w.time v.time (omega (arith, same e, same f, h)))
    where
      by : (p : Bool) → p ≡ false →
          Some (B, b) ≡ option_map at (if p then Some (waiting_as A w) else Some (waiting_as B v))
      by false g = ap (λ (n : ℕ). Some (B, n)) (same f)
      by true g = absurd (cc g)

  pub next_a : (ws vs : List Waits) → Some a ≡ option_map time_of (oldest (all_as A ws)) →
      Some b ≡ option_map time_of (oldest (all_as B vs)) → a ≤ b →
      Some (A, a) ≡ option_map at (sooner (oldest (all_as A ws)) (oldest (all_as B vs)))
  next_a [] vs e f h = absurd (cc e)
  next_a (w ∷ ws) [] e f h = absurd (cc f)
  next_a (w ∷ ws) (v ∷ vs) e f h =
      by (nat_le w.time v.time) (le-leb w.time v.time (omega (arith, same e, same f, h)))
    where
      by : (p : Bool) → p ≡ true →
          Some (A, a) ≡ option_map at (if p then Some (waiting_as A w) else Some (waiting_as B v))
      by true g = ap (λ (n : ℕ). Some (A, n)) (same e)
      by false g = absurd (cc g)

pub next_alone : (a : ℕ) (ws vs : List Waits) → Some a ≡ option_map time_of (oldest (all_as A ws)) →
    None ≡ option_map time_of (oldest (all_as B vs)) →
    Some (A, a) ≡ option_map at (sooner (oldest (all_as A ws)) (oldest (all_as B vs)))
next_alone a [] vs e f = absurd (cc e)
next_alone a (w ∷ ws) [] e f = ap (λ (n : ℕ). Some (A, n)) (same e)
  where
    same : {n m : ℕ} → Some n ≡ Some m → n ≡ m
    same h = cc
next_alone a (w ∷ ws) (v ∷ vs) e f = absurd (cc f)

pub next_other : (b : ℕ) (ws vs : List Waits) → None ≡ option_map time_of (oldest (all_as A ws)) →
    Some b ≡ option_map time_of (oldest (all_as B vs)) →
    Some (B, b) ≡ option_map at (sooner (oldest (all_as A ws)) (oldest (all_as B vs)))
next_other b (w ∷ ws) vs e f = absurd (cc e)
next_other b [] [] e f = absurd (cc f)
next_other b [] (v ∷ vs) e f = ap (λ (n : ℕ). Some (B, n)) (same f)
  where
    same : {n m : ℕ} → Some n ≡ Some m → n ≡ m
    same h = cc

-- ---- one is told

module _ (s : Source) (c : Course) (y : Waiting) where
  own_waited : (side : Side) → waited_on (told_on s c y side) side ≡ waited_on c side ++ y ∷ []
  own_waited A = map-append (λ (u : Unpaired). u.waited) c.over_a _
  own_waited B = map-append (λ (u : Unpaired). u.waited) c.over_b _

  other_waited : (side : Side) → waited_on (told_on s c y side) (other side) ≡ waited_on c (other side)
  other_waited A = refl
  other_waited B = refl

  pub told_stands : (side : Side) (own others own' : OneSide) → StandOn s side c.came (waited_on c) own others →
      all_as side own.waiting ≡ y ∷ all_as side own'.waiting → own'.track ≡ own.track →
      own'.last ≡ own.last → StandOn s side c.came (waited_on (told_on s c y side)) own' others
  told_stands side own others own' h rest track last = record {
    here = record {
      track = subst (λ (t : Track). IsTrack s (on_side side (whole_of c.came)) t) (sym track) h.here.track;
      last = subst (λ (t : LastCame). AreLast (on_side side (whole_of c.came)) t) (sym last) h.here.last;
      waiting = h.here.waiting ∙ ap (λ (l : List Waiting). waited_on c side ++ l) rest
          ∙ sym (append_assoc (waited_on c side) (y ∷ []) (all_as side own'.waiting))
          ∙ ap (λ (l : List Waiting). l ++ all_as side own'.waiting) (sym (own_waited side));
      held = (subst (AreHeld s c.came) rest h.here.held).1;
    };
    there = subst (λ (l : List Waiting). StandsOn s (other side) c.came l others) (sym (other_waited side)) h.there;
  }

-- ---- the next that is told

is_a : Option (Side × ℕ) → Bool
is_a None = false
is_a (Some p) = is_side A p.0

abbrev IsOldestOn : Side → List Waits → List Waits → Type 0
IsOldestOn A ws vs = (y : Waiting) × (sooner (oldest (all_as A ws)) (oldest (all_as B vs)) ≡ Some y)
    × (oldest (all_as A ws) ≡ Some y)
IsOldestOn B ws vs = (y : Waiting) × (sooner (oldest (all_as A ws)) (oldest (all_as B vs)) ≡ Some y)
    × (oldest (all_as B vs) ≡ Some y)

not_a : {X : Type 0} (b : ℕ) (time : ℕ) → ◌≡◌ {A = Option (Side × ℕ)} (Some (A, time)) (Some (B, b)) → X
unfolding is_a
not_a b time h = let e : true ≡ false = ap is_a h in absurd (cc e)

not_b : {X : Type 0} (a : ℕ) (time : ℕ) → ◌≡◌ {A = Option (Side × ℕ)} (Some (B, time)) (Some (A, a)) → X
unfolding is_a
not_b a time h = let e : false ≡ true = ap is_a h in absurd (cc e)

oldest_on : (side : Side) (time : ℕ) (ws vs : List Waits) →
    Some (side, time) ≡ option_map at (sooner (oldest (all_as A ws)) (oldest (all_as B vs))) → IsOldestOn side ws vs
oldest_on A time [] [] h = absurd (cc h)
oldest_on A time (w ∷ ws) [] h = (waiting_as A w, refl, refl)
oldest_on A time [] (v ∷ vs) h = not_a v.time time h
oldest_on A time (w ∷ ws) (v ∷ vs) h = by (nat_le w.time v.time) h
  where
    by : (p : Bool) → Some (A, time) ≡ option_map at (if p then Some (waiting_as A w) else Some (waiting_as B v)) →
        (y : Waiting) × ((if p then Some (waiting_as A w) else Some (waiting_as B v)) ≡ Some y)
        × (Some (waiting_as A w) ≡ Some y)
    by true h = (waiting_as A w, refl, refl)
    by false h = not_a v.time time h
oldest_on B time [] [] h = absurd (cc h)
oldest_on B time (w ∷ ws) [] h = not_b w.time time h
oldest_on B time [] (v ∷ vs) h = (waiting_as B v, refl, refl)
oldest_on B time (w ∷ ws) (v ∷ vs) h = by (nat_le w.time v.time) h
  where
    by : (p : Bool) → Some (B, time) ≡ option_map at (if p then Some (waiting_as A w) else Some (waiting_as B v)) →
        (y : Waiting) × ((if p then Some (waiting_as A w) else Some (waiting_as B v)) ≡ Some y)
        × (Some (waiting_as B v) ≡ Some y)
    by true h = not_b w.time time h
    by false h = (waiting_as B v, refl, refl)

pub record IsNextOn (both : BothSides) (side : Side) : Type 0 where
  pub y : Waiting
  pub next : next_in both ≡ Some y
  pub old : oldest (ring_on side both) ≡ Some y

pub next_on : (both : BothSides) (side : Side) (time : ℕ) → Some (side, time) ≡ option_map at (next_in both) →
    IsNextOn both side
next_on both A time h =
    let o = oldest_on A time both.a.waiting both.b.waiting h in
    record { y = o.0; next = o.1; old = o.2 }
next_on both B time h =
    let o = oldest_on B time both.a.waiting both.b.waiting h in
    record { y = o.0; next = o.1; old = o.2 }

abbrev time_in : Option (Side × ℕ) → ℕ
time_in None = 0
time_in (Some p) = p.1

pub due_is : (s : Source) (o : Option Waiting) (side : Side) (time hold' : ℕ) → Some (side, time) ≡ option_map at o →
    hold' ≡ hold s → Some (time + hold') ≡ option_map (told_at s) o
due_is s None side time hold' e h = absurd (cc e)
due_is s (Some y) side time hold' e h = ap₂ (λ (a b : ℕ). Some (a + b)) (timed e) h
  where
    timed : ◌≡◌ {A = Option (Side × ℕ)} (Some (side, time)) (Some (y.frame.side, y.frame.time)) →
        time ≡ y.frame.time
    timed e = ap time_in e

pub none_due : (s : Source) (o : Option Waiting) → None ≡ option_map at o → None ≡ option_map (told_at s) o
none_due s None e = refl
none_due s (Some y) e = absurd (cc e)

pub none_next : (o : Option Waiting) → None ≡ option_map at o → o ≡ None
none_next None e = refl
none_next (Some y) e = absurd (cc e)

pub if_none : {T : Type 0} (r : Option T) (P Q : Type 0) → (P → Q) → IfNone r P → IfNone r Q
if_none None P Q f h = f h
if_none (Some t) P Q f h = h

pub if_some : {T : Type 0} (r : Option T) (P Q : T → Type 0) → ((t : T) → P t → Q t) → IfSome r P → IfSome r Q
if_some None P Q f h = h
if_some (Some t) P Q f h = f t h

-- ---- one more frame

pub came_stands : (s : Source) (c : Course) (x : Came) (both : BothSides) →
    StandBoth s (x ∷ c.came) (waited_on c) both →
    StandBoth s (came_too c x).came (waited_on (came_too c x)) both
came_stands s c x both h = record { here = h.here; there = h.there }
