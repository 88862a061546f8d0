-- Which frames of a source wait no longer, before a time.
use Rattle.std.proofs.Common.{◌≡◌, ℕ, ◌<◌, Bool, true, false, true≢false, List, [], ◌∷◌, ◌++◌, refl, sym, ap, ap₂, ◌∙◌, subst, arith, drop}
use Rattle.std.proofs.Math.Seq.{drop-append_seam}
use Rattle.std.proofs.lemmas.Bool.{le-ltb, lt-ltb, ltb-false, ltb-true}
use Rattle.std.proofs.lemmas.List.{append-nil, length-map}
use Rattle.std.proofs.lemmas.List.Elements.{filter-append}
use Rattle.std.specs.List.{AllByRecursion}
use Rattle.std.specs.Prelude.{filter, if◌then◌else◌, nat_le, option_map, Option, Some, None}
use Rattle.afdx_frame.specs.declared.link.Side.{Side}
use Rattle.afdx_frame.specs.declared.link.Side.TheVariants.{A, B}
use Rattle.afdx_lawful.specs.Courses.{AreOpen, ArePast, Course, IsCourse, NotBefore, next_told, oldest, over, sooner, still_waiting, told_at, told_on, waited_on}
use Rattle.afdx_lawful.specs.Judged.{waiting_of}
use Rattle.afdx_lawful.specs.Partners.{Waiting}
use Rattle.afdx_lawful.specs.Sources.{Source}
use Rattle.afdx_lawful.specs.declared.sender.JudgedSource.{JudgedSource}
use Rattle.afdx_lawful.proofs.StandLemmas.{InTurn, open_by, sooner_a, sooner_b, turn_behind, turn_of}
use Rattle.afdx_senders.specs.Followed.{Followed, MayCome, StandsAt, came_next, came_of, due_at}
use Rattle.afdx_senders.specs.History.{IsReachedBy, IsSettled}
use Rattle.afdx_senders.specs.Order.{is_moment_before}
use Rattle.afdx_senders.specs.declared.site_frame.SiteFrame.{SiteFrame}
use Rattle.afdx_senders.proofs.ListLemmas.{filter_all, filter_none, none_passes, passes}
use Rattle.afdx_senders.proofs.WaitingLemmas.{is_over, same_over}

-- what was told of a source is the beginning of what waited, and right
pub record IsPartly (f : Followed) : Type 0 where
  pub course : IsCourse f.source f.course
  pub still : Side → List Waiting
  pub parts : (side : Side) → waiting_of f.source side f.course.came ≡ waited_on f.course side ++ still side

pub partly : (f : Followed) (o : Option JudgedSource) → StandsAt (Some f) o → IsPartly f
partly f None h = absurd h
partly f (Some sender) h =
    record { course = h.course; still = λ side. (both side).0; parts = λ side. (both side).1 }
  where
    both : (side : Side) → (ys : List Waiting)
        × (waiting_of f.source side f.course.came ≡ waited_on f.course side ++ ys)
    both A = (_, h.sides.here.waiting)
    both B = (_, h.sides.there.waiting)

still_there : (f : Followed) (is : IsPartly f) (side : Side) → still_waiting f.source f.course side ≡ is.still side
unfolding still_waiting
still_there f is side =
    ap₂ (λ (n : ℕ) (l : List Waiting). drop n l) (sym (length-map (over f.course side) (λ u. u.waited)))
    (is.parts side)
    ∙ drop-append_seam (waited_on f.course side) (is.still side)

-- all told ones have moments before a time
module _ (s : Source) (before : Option ℕ) where
  abbrev early : Waiting → Bool
  early y = is_over s before y

  past_early : (reached : ℕ) (c : Course) → c.reached ≡ reached → IsReachedBy before c → (ys : List Waiting) →
      ArePast s reached ys → AllByRecursion (λ y. early y ≡ true) ys
  past_early reached c is by [] past = tt
  past_early reached c is by (y ∷ ys) past = (one before by, past_early reached c is by ys past.1)
    where
      one : (o : Option ℕ) → IsReachedBy o c → is_moment_before o (told_at s y) ≡ true
      one None h = refl
      one (Some time) h = lt-ltb (told_at s y) time (omega (arith, h, is, past.0))

  open_late : (time : ℕ) (ys : List Waiting) → before ≡ Some time → AreOpen s time ys →
      AllByRecursion (λ y. early y ≡ false) ys
  open_late time [] is open_all = tt
  open_late time (y ∷ ys) is open_all = (
    ap (λ (o : Option ℕ). is_moment_before o (told_at s y)) is ∙ le-ltb (told_at s y) time open_all.0,
    open_late time ys is open_all.1,
  )

-- ---- a source of which all is told that is due before a time

module _ (before : Option ℕ) (f : Followed) (is : IsPartly f) (reached : IsReachedBy before f.course)
    (none : (m : ℕ) → due_at (Some f) ≡ Some m → is_moment_before before m ≡ false) where
  abbrev s : Source
  s = f.source

  abbrev next : Option Waiting
  next = next_told f.source f.course

  next_same : next ≡ sooner (oldest (is.still A)) (oldest (is.still B))
  next_same =
      ap₂ (λ (a b : List Waiting). sooner (oldest a) (oldest b)) (still_there f is A)
      (still_there f is B)

  not_sooner : (time : ℕ) → before ≡ Some time → NotBefore s time (sooner (oldest (is.still A)) (oldest (is.still B)))
  not_sooner time at = by (sooner (oldest (is.still A)) (oldest (is.still B))) refl
    where
      by : (o : Option Waiting) → sooner (oldest (is.still A)) (oldest (is.still B)) ≡ o → NotBefore s time o
      by None e = tt
      by (Some y) e = ltb-false (told_at s y) time
          (sym (ap (λ (b : Option ℕ). is_moment_before b (told_at s y)) at)
          ∙ none (told_at s y) (ap (option_map (told_at s)) (next_same ∙ e)))

  sorted_late : (time : ℕ) (side : Side) → before ≡ Some time → NotBefore s time (oldest (is.still side)) →
      AllByRecursion (λ y. is_over s before y ≡ false) (is.still side)
  sorted_late time side at not =
      open_late s before time (is.still side) at
      (open_by s time f.course.reached (is.still side)
      (turn_behind 0 f.course.reached (waited_on f.course side) (is.still side)
      (subst (InTurn 0 f.course.reached) (is.parts side)
      (turn_of s side f.course.came f.course.reached is.course.by_time))) not)

  nothing_next : before ≡ None → (y : Waiting) → sooner (oldest (is.still A)) (oldest (is.still B)) ≡ Some y → ⊥
  nothing_next at y e =
      let no = none (told_at s y) (ap (option_map (told_at s)) (next_same ∙ e)) in
      true≢false (sym (ap (λ (b : Option ℕ). is_moment_before b (told_at s y)) at) ∙ no)

  none_still : before ≡ None → (side : Side) → is.still side ≡ []
  none_still at side = by (is.still A) refl (is.still B) refl side
    where
      two : (y z : Waiting) → ((v : Waiting) → sooner (Some y) (Some z) ≡ Some v → ⊥) → ⊥
      two y z none-next = one (nat_le y.frame.time z.frame.time) none-next
        where
          one : (b : Bool) → ((v : Waiting) → (if b then Some y else Some z) ≡ Some v → ⊥) → ⊥
          one true h = h y refl
          one false h = h z refl

      by : (ys : List Waiting) → is.still A ≡ ys → (zs : List Waiting) → is.still B ≡ zs → (side : Side) →
          is.still side ≡ []
      by [] a [] b A = a
      by [] a [] b B = b
      by (y ∷ ys) a [] b side =
          absurd (nothing_next at y (ap₂ (λ (k l : List Waiting). sooner (oldest k) (oldest l)) a b))
      by [] a (z ∷ zs) b side =
          absurd (nothing_next at z (ap₂ (λ (k l : List Waiting). sooner (oldest k) (oldest l)) a b))
      by (y ∷ ys) a (z ∷ zs) b side =
          absurd (two y z (λ v e. nothing_next at v
          (ap₂ (λ (k l : List Waiting). sooner (oldest k) (oldest l)) a b ∙ e)))

  still_late : (side : Side) → AllByRecursion (λ y. is_over s before y ≡ false) (is.still side)
  still_late side = by before refl side
    where
      by : (o : Option ℕ) → before ≡ o → (side : Side) →
          AllByRecursion (λ y. is_over s before y ≡ false) (is.still side)
      by (Some time) at A = sorted_late time A at
          (sooner_a s time (oldest (is.still A)) (oldest (is.still B)) (not_sooner time at))
      by (Some time) at B = sorted_late time B at
          (sooner_b s time (oldest (is.still A)) (oldest (is.still B)) (not_sooner time at))
      by None at side =
          subst (λ (l : List Waiting). AllByRecursion (λ y. is_over s before y ≡ false) l)
          (sym (none_still at side)) tt

  pub all_settled : IsSettled before f
  all_settled = record {
    reached = reached;
    over = λ side.
        let waited = waited_on f.course side in
        let told = filter_all (is_over s before) waited
        (past_early s before f.course.reached f.course refl reached waited (is.course.past side)) in
        let left = filter_none (is_over s before) (is.still side) (still_late side) in
        sym (append-nil waited)
        ∙ sym (ap (filter (is_over s before)) (is.parts side)
        ∙ filter-append (is_over s before) waited (is.still side)
        ∙ ap₂ (λ (k l : List Waiting). k ++ l) told left);
  }

-- ---- what is settled

no_more : {X : Type 0} (xs ys : List X) → xs ++ ys ≡ xs → ys ≡ []
no_more [] ys e = e
no_more (x ∷ xs) ys e = no_more xs ys (cc)

module _ (before : Option ℕ) (f : Followed) (is : IsPartly f) (settled : IsSettled before f) where
  told_early : (side : Side) →
      AllByRecursion (λ y. is_over f.source before y ≡ true) (waited_on f.course side)
  told_early side =
      subst (λ (l : List Waiting). AllByRecursion (λ y. is_over f.source before y ≡ true) l)
      (sym (settled.over side)) (passes (is_over f.source before) (waiting_of f.source side f.course.came))

  -- none that still waits was to be told
  pub left_late : (side : Side) → AllByRecursion (λ y. is_over f.source before y ≡ false) (is.still side)
  left_late side =
      let early = is_over f.source before in
      let waited = waited_on f.course side in
      none_passes early (is.still side)
      (no_more waited (filter early (is.still side))
      (sym (ap (filter early) (is.parts side) ∙ filter-append early waited (is.still side)
      ∙ ap (λ (l : List Waiting). l ++ filter early (is.still side)) (filter_all early waited (told_early side)))
      ∙ sym (settled.over side)))

module _ (f : Followed) (is : IsPartly f) (time : ℕ) (settled : IsSettled (Some time) f) where
  oldest_late : (ys : List Waiting) → AllByRecursion (λ y. is_over f.source (Some time) y ≡ false) ys →
      NotBefore f.source time (oldest ys)
  oldest_late [] h = tt
  oldest_late (y ∷ ys) h = ltb-false (told_at f.source y) time h.0

  both_late : (a b : Option Waiting) → NotBefore f.source time a → NotBefore f.source time b →
      NotBefore f.source time (sooner a b)
  both_late None b g h = h
  both_late (Some a) None g h = g
  both_late (Some a) (Some b) g h = by (nat_le a.frame.time b.frame.time)
    where
      by : (p : Bool) → NotBefore f.source time (if p then Some a else Some b)
      by true = g
      by false = h

  -- a frame of this time may come
  pub may_come : MayCome f time
  may_come = record {
    later = settled.reached;
    told = subst (NotBefore f.source time)
        (sym (ap₂ (λ (k l : List Waiting). sooner (oldest k) (oldest l)) (still_there f is A) (still_there f is B)))
        (both_late (oldest (is.still A)) (oldest (is.still B))
        (oldest_late (is.still A) (left_late (Some time) f is settled A))
        (oldest_late (is.still B) (left_late (Some time) f is settled B)));
  }

-- ---- steps

pub came_settled : (f : Followed) (x : SiteFrame) → IsSettled (Some x.time) f → IsSettled (Some x.time) (came_next f x)
came_settled f x is = record { reached = omega arith; over = by }
  where
    by : (side : Side) → waited_on (came_next f x).course side
        ≡ filter (λ y. is_moment_before (Some x.time) (told_at f.source y))
        (waiting_of f.source side (came_of x ∷ f.course.came))
    by A = is.over A ∙ sym (same_over f.source x.time (came_of x) (omega arith) A f.course.came)
    by B = is.over B ∙ sym (same_over f.source x.time (came_of x) (omega arith) B f.course.came)

pub told_reached : (before : Option ℕ) (s : Source) (c : Course) (y : Waiting) (side : Side) → IsReachedBy before c →
    is_moment_before before (told_at s y) ≡ true → IsReachedBy before (told_on s c y side)
told_reached None s c y side is due = tt
told_reached (Some time) s c y A is due =
    let less : told_at s y < time = ltb-true (told_at s y) time due in omega (arith, is, less)
told_reached (Some time) s c y B is due =
    let less : told_at s y < time = ltb-true (told_at s y) time due in omega (arith, is, less)
