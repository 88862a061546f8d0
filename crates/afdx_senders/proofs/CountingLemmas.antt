-- Numbers that go no further than their type does, and how many frames are held.
use Rattle.std.proofs.Common.{◌≡◌, ℕ, ◌+◌, ◌<◌, ◌≤◌, Bool, true, false, List, length, get_or, set, ap, ◌∙◌, arith}
use Rattle.std.proofs.lemmas.List.Sums.{sum_by-set}
use Rattle.std.specs.List.{sum_by}
use Rattle.std.specs.Prelude.{min, if◌then◌else◌, IfSome, IsSome, None, Option, Some, suc}
use Rattle.afdx_lawful.specs.Tallies.{counted, most_counted}
use Rattle.afdx_lawful.specs.declared.sender.JudgedSource.{JudgedSource}
use Rattle.afdx_senders.specs.Counting.{cut_below, cut_of, held_at, held_in_all, lines_left, sent_below, sent_of}
use Rattle.afdx_senders.specs.Followed.{ByPlace}
use Rattle.afdx_senders.specs.declared.senders.Senders.{Senders}

one_more : (a b : ℕ) → min (counted a + b) most_counted ≡ counted (a + b)
one_more a b = omega arith

one_on : (n : ℕ) → suc n ≡ n + 1
one_on n = omega arith

-- one more source
pub sent_next : (at : ByPlace) (place sent own : ℕ) → sent ≡ counted (sent_below at place) → own ≡ sent_of (at place) →
    min (sent + own) most_counted ≡ counted (sent_below at (place + 1))
unfolding sent_below
sent_next at place sent own before is =
    ap (λ n. min (n + own) most_counted) before ∙ one_more (sent_below at place) own
    ∙ ap (λ n. counted (sent_below at place + n)) is ∙ ap (λ n. counted (sent_below at n)) (one_on place)

pub cut_next : (at : ByPlace) (place cut own : ℕ) → cut ≡ counted (cut_below at place) → own ≡ cut_of (at place) →
    min (cut + own) most_counted ≡ counted (cut_below at (place + 1))
unfolding cut_below
cut_next at place cut own before is =
    ap (λ n. min (n + own) most_counted) before ∙ one_more (cut_below at place) own
    ∙ ap (λ n. counted (cut_below at place + n)) is ∙ ap (λ n. counted (cut_below at n)) (one_on place)

pub sent_none : (at : ByPlace) → 0 ≡ counted (sent_below at 0)
unfolding sent_below
sent_none at = omega arith

pub cut_none : (at : ByPlace) → 0 ≡ counted (cut_below at 0)
unfolding cut_below
cut_none at = omega arith

-- fewer are held at one place
pub fewer_held : (xs : List (Option JudgedSource)) (place : ℕ) (old new : Option JudgedSource) → place < length xs →
    old ≡ get_or xs place old → held_at new < held_at old → sum_by held_at (set xs place new) < sum_by held_at xs
fewer_held xs place old new within is less =
    let here = ap held_at is in
    let sums = sum_by-set held_at xs place new old within in
    omega (arith, less, here, sums)

-- as many lines are left where the same is held and found
pub left_same : (old new : Senders) → new.kept ≡ old.kept → new.found ≡ old.found → lines_left new ≡ lines_left old
left_same old new kept found =
    let held = ap held_in_all kept in
    let long = ap length found in omega (arith, held, long)

-- what stands of whatever there is
pub if_some : {X P : Type 0} → (o : Option X) → IfSome o (λ x. P) → IsSome o → P
if_some None stands is = absurd (cc)
if_some (Some x) stands is = stands

pub one_at_most : (n place count : ℕ) (b : Bool) → count ≡ n + (if b then 1 else 0) → n ≤ place → count ≤ place + 1
one_at_most n place count true is few = omega (arith, is, few)
one_at_most n place count false is few = omega (arith, is, few)

pub as_before : (n : ℕ) (b : Bool) → b ≡ false → n ≡ n + (if b then 1 else 0)
as_before n true is = absurd (cc)
as_before n false is = omega arith
