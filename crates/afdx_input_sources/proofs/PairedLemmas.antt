-- The numbers of two recordings that are read at once: one of both may follow, and what comes of both.
use Rattle.std.proofs.Common.{◌≡◌, ℕ, ◌≤◌, ◌<◌, List, [], ◌∷◌, ◌++◌, length, reverse, refl, arith}
use Rattle.std.proofs.Common.{Option, Some, None}
use Rattle.std.proofs.lemmas.List.{length-map}
use Rattle.afdx_input_lines.specs.declared.fault.RunFault.{RunFault}
use Rattle.afdx_input_sources.specs.Engine.{Item}
use Rattle.afdx_input_sources.specs.Items.{most_frames}
use Rattle.afdx_input_sources.specs.declared.merged.Nth.TheVariants.{First, Second}
use Rattle.afdx_input_sources.specs.declared.number.Number.{Number}
use Rattle.afdx_input_sources.specs.declared.number.Number.TheVariants.{Arrival, Skipped}
use Rattle.afdx_input_sources.specs.MergedSource.{CameFirst, FollowsBoth, Front, Gone, OfTwo, Unsought}
use Rattle.afdx_input_sources.specs.MergedSource.{items_of, latest_by, or_before, taken_of}
use Rattle.afdx_input_sources.specs.Merging.{merge, merged_as}
use Rattle.afdx_input_sources.specs.NumberLines.{NumberFollows, comes_at, number_order}
use Rattle.afdx_input_sources.specs.Sequences.{Numbers, latest_of, moment_or}
use Rattle.afdx_input_sources.specs.Taking.{by_moment}
use Rattle.afdx_input_sources.proofs.CameLemmas.{CanCome, IsTimed, Sees, came, ended, stops-first, stops-second}

-- ---- the newest moment

latest-next : (n : Number) (a b : ℕ) → a ≡ b → or_before (comes_at n) a ≡ moment_or n b
latest-next (Arrival found) a b e = refl
latest-next (Skipped reason) a b e = e

pub latest-numbers : (past : Numbers) → latest_by comes_at past ≡ latest_of past
unfolding latest_by latest_of
latest-numbers [] = refl
latest-numbers (x ∷ past) = latest-next x.head (latest_by comes_at past) (latest_of past) (latest-numbers past)

-- one that may come after those of both
pub paired-follows : (past : List (OfTwo Number)) (x : OfTwo Number) → FollowsBoth number_order NumberFollows past x
    → (latest_of (items_of past) ≤ latest_of (items_of (x ∷ past))) × (length (items_of past) < most_frames)
paired-follows past x h =
    let before = latest-numbers (items_of past) in
    let after = latest-numbers (items_of (x ∷ past)) in
    let n = length-map past (λ (z : OfTwo Number). z.item) in
    (omega (arith, h.later, before, after), omega (arith, h.few, n))

-- ---- what comes of both

abbrev pub number-itself : Item Number → Item Number
number-itself x = x

abbrev pub numbers-themselves : Numbers → Numbers
numbers-themselves past = past

pub numbers-seen : Sees by_moment comes_at number-itself numbers-themselves items_of
numbers-seen = record {
  timed = λ x. refl;
  none = refl;
  more = λ x xs. refl;
  none_given = refl;
  more_given = λ z past. refl;
}

-- of all numbers that come these come first, and then what still comes
pub numbers-go : (past : List (OfTwo Number)) (x y : Front Number) → CameFirst comes_at past x y
    → (xs ys : Numbers) (fx fy : Option RunFault) → CanCome number-itself x xs fx → CanCome number-itself y ys fy
    → merge by_moment [] (reverse (taken_of First past) ++ xs) fx (reverse (taken_of Second past) ++ ys) fy
    ≡ merge by_moment (items_of past) xs fx ys fy
numbers-go = came by_moment comes_at number-itself numbers-themselves items_of numbers-seen

-- the recording of A stopped, or that of B, or both ended
pub numbers-stop-a : (past : List (OfTwo Number)) (y : Front Number) → CameFirst comes_at past Unsought y
    → (ys : Numbers) (fy : Option RunFault) (fault : RunFault) → CanCome number-itself y ys fy
    → merge by_moment [] (reverse (taken_of First past)) (Some fault) (reverse (taken_of Second past) ++ ys) fy
    ≡ merged_as (items_of past) (Some fault)
numbers-stop-a = stops-first by_moment comes_at number-itself numbers-themselves items_of numbers-seen

pub numbers-stop-b : (past : List (OfTwo Number)) (x : Front Number) → CameFirst comes_at past x Unsought
    → IsTimed comes_at x → (xs : Numbers) (fx : Option RunFault) (fault : RunFault) → CanCome number-itself x xs fx
    → merge by_moment [] (reverse (taken_of First past) ++ xs) fx (reverse (taken_of Second past)) (Some fault)
    ≡ merged_as (items_of past) (Some fault)
numbers-stop-b = stops-second by_moment comes_at number-itself numbers-themselves items_of numbers-seen

pub numbers-end : (past : List (OfTwo Number)) → CameFirst comes_at past Gone Gone
    → merge by_moment [] (reverse (taken_of First past)) None (reverse (taken_of Second past)) None
    ≡ merged_as (items_of past) None
numbers-end = ended by_moment comes_at number-itself numbers-themselves items_of numbers-seen
