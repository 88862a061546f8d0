-- How many events of a stream are told and aren't over.
use Rattle.std.proofs.Common.{◌≡◌, ℕ, ◌+◌, ◌-◌, ◌<◌, ◌≤◌, Bool, true, false, List, [], drop, length, refl, ap, ◌∙◌, arith}
use Rattle.std.proofs.lemmas.List.{drop_all, length-drop}
use Rattle.std.specs.Prelude.{if◌then◌else◌, Option, Some, None}
use Rattle.afdx_conform.specs.Growing.{IsSame, due_by, due_in, undecided_by}
use Rattle.afdx_conform.specs.declared.arrived.Arrived.{Arrived}
use Rattle.afdx_conform.specs.declared.finding.Mark.{Mark}
use Rattle.afdx_conform.specs.declared.growth.Growth.{Growth}
use Rattle.afdx_conform.specs.declared.limits.LeftFrame.{LeftFrame}

if-less : (b : Bool) (n m : ℕ) → n < m → (if b then 0 else n) < m
if-less true n m lt = omega (arith, lt)
if-less false n m lt = lt

-- one event less
pub undecided-less : (old new : Growth) → old.judging.is_unsure ≡ false
    → (length new.arrivals.items - length new.judging.marks.items) + (length new.frames.items - new.closed)
    < (length old.arrivals.items - length old.judging.marks.items) + (length old.frames.items - old.closed)
    → undecided_by new < undecided_by old
unfolding undecided_by
undecided-less old new sure lt =
    let is : undecided_by old ≡ (length old.arrivals.items - length old.judging.marks.items)
    + (length old.frames.items - old.closed) =
    ap (λ (b : Bool). if b then 0 else (length old.arrivals.items - length old.judging.marks.items)
    + (length old.frames.items - old.closed)) sure in
    let less = if-less new.judging.is_unsure _ _ lt in
    omega (arith, is, less)

pub undecided-same : (old new : Growth) → new.judging.is_unsure ≡ old.judging.is_unsure
    → (length new.arrivals.items - length new.judging.marks.items) + (length new.frames.items - new.closed)
    ≡ (length old.arrivals.items - length old.judging.marks.items) + (length old.frames.items - old.closed)
    → undecided_by new ≡ undecided_by old
unfolding undecided_by
undecided-same old new u e =
    ap (λ (b : Bool). if b then 0 else (length new.arrivals.items - length new.judging.marks.items)
    + (length new.frames.items - new.closed)) u
    ∙ ap (λ (n : ℕ). if old.judging.is_unsure then 0 else n) e

pub forgot-arrivals : (old : Growth) (count : ℕ) (xs : List Arrived) (ms : List Mark)
    → xs ≡ drop count old.arrivals.items
    → ms ≡ drop count old.judging.marks.items → count ≤ length old.judging.marks.items
    → (length xs - length ms) + (length old.frames.items - old.closed)
    ≡ (length old.arrivals.items - length old.judging.marks.items) + (length old.frames.items - old.closed)
forgot-arrivals old count xs ms e f le =
    let a = ap (λ (l : List Arrived). length l) e ∙ length-drop count old.arrivals.items in
    let m = ap (λ (l : List Mark). length l) f ∙ length-drop count old.judging.marks.items in
    omega (arith, a, m, le)

pub forgot-frames : (old : Growth) (count : ℕ) (fs : List LeftFrame) → fs ≡ drop count old.frames.items →
    count ≤ old.closed
    → (length old.arrivals.items - length old.judging.marks.items) + (length fs - (old.closed - count))
    ≡ (length old.arrivals.items - length old.judging.marks.items) + (length old.frames.items - old.closed)
forgot-frames old count fs e le =
    let a = ap (λ (l : List LeftFrame). length l) e ∙ length-drop count old.frames.items in omega (arith, a, le)

pub undecided-unchanged : (old new : Growth) → IsSame old new → undecided_by new ≡ undecided_by old
undecided-unchanged old new s =
    let a = ap (λ (l : List Arrived). length l) s.arrivals in
    let m = ap (λ (l : List Mark). length l) s.marks in
    let f = ap (λ (l : List LeftFrame). length l) s.frames in
    let c = s.closed in
    undecided-same old new s.is_unsure (omega (arith, a, m, f, c))

pub due-nothing : (s : Growth) → length s.arrivals.items ≤ length s.judging.marks.items → length s.frames.items
    ≤ s.closed
    → due_by s ≡ None
unfolding due_by
due-nothing s le few =
    ap (λ (l : List Arrived). if s.judging.is_unsure then None else due_in s.bounds.limits l
    (drop s.closed s.frames.items))
    (drop_all (length s.judging.marks.items) s.arrivals.items le)
    ∙ ap (λ (l : List LeftFrame). if s.judging.is_unsure then None else due_in s.bounds.limits [] l)
    (drop_all s.closed s.frames.items few)
    ∙ by s.judging.is_unsure
  where
    by : (b : Bool) → (if b then None else due_in s.bounds.limits [] []) ≡ None
    by true = refl
    by false = refl

pub not-due : {o : Option ℕ} {n : ℕ} → o ≡ Some n → o ≡ None → ⊥
not-due p q = absurd (cc)
