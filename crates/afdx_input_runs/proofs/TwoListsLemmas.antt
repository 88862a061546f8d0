-- Two lists that are read at once: a frame of both may follow, and what comes of both.
use Rattle.std.proofs.Common.{◌≡◌, ℕ, List, [], ◌∷◌, ◌++◌, map, reverse, refl, arith}
use Rattle.std.proofs.Common.{Option, Some, None}
use Rattle.std.proofs.lemmas.List.{length-map}
use Rattle.afdx_police.specs.Arrival.{Arrival}
use Rattle.afdx_input_lines.specs.declared.fault.RunFault.{RunFault}
use Rattle.afdx_input_lines.specs.declared.frame_line.Heading.{Heading}
use Rattle.afdx_input_sources.specs.Items.{CanFollow, arrivals, heading_order}
use Rattle.afdx_input_sources.specs.MergedSource.{CameFirst, FollowsBoth, Front, Gone, OfTwo, Unsought}
use Rattle.afdx_input_sources.specs.MergedSource.{items_of, latest_by, taken_of}
use Rattle.afdx_input_sources.specs.Merging.{merge, merged_as}
use Rattle.afdx_input_sources.specs.declared.merged.Nth.TheVariants.{First, Second}
use Rattle.afdx_input_sources.proofs.CameLemmas.{CanCome, IsTimed, Sees, came, ended, stops-first, stops-second}
use Rattle.afdx_input_runs.specs.Joining.{Frame, arrival_of, by_frame_time, frames_of}
use Rattle.afdx_input_runs.specs.Seeing.{SeenFollows, latest_seen}
use Rattle.afdx_input_runs.specs.TwoListsSource.{seen_of}

abbrev pub time-of : Heading → Option ℕ
time-of heading = Some heading.time

-- ---- one frame more

latest-frames : (past : List (OfTwo Heading)) → latest_by time-of (items_of past) ≡ latest_seen (map seen_of past)
unfolding latest_by
latest-frames [] = refl
latest-frames (x ∷ past) = refl

pub seen-follows : (past : List (OfTwo Heading)) (x : OfTwo Heading) → FollowsBoth heading_order CanFollow past x
    → SeenFollows (map seen_of past) (seen_of x)
seen-follows past x h =
    let before = latest-frames past in
    let after = latest-frames (x ∷ past) in
    let n = length-map past seen_of in record {
      order = omega (arith, h.later, before, after);
      early = h.own.in_order.early;
      few = omega (arith, h.few, n);
      sealed = h.own.sealed;
    }

-- ---- what comes of both

abbrev both-frames : List (OfTwo Heading) → List Frame
both-frames past = frames_of (map seen_of past)

frames-seen : Sees by_frame_time time-of arrival_of arrivals both-frames
frames-seen = record {
  timed = λ x. refl;
  none = refl;
  more = λ x xs. refl;
  none_given = refl;
  more_given = λ z past. refl;
}

-- these frames come first, and then what still comes
pub lists-go : (past : List (OfTwo Heading)) (x y : Front Heading) → CameFirst time-of past x y
    → (xs ys : List Arrival) (fx fy : Option RunFault) → CanCome arrival_of x xs fx → CanCome arrival_of y ys fy
    → merge by_frame_time [] (reverse (arrivals (taken_of First past)) ++ xs) fx
    (reverse (arrivals (taken_of Second past)) ++ ys) fy
    ≡ merge by_frame_time (frames_of (map seen_of past)) xs fx ys fy
lists-go = came by_frame_time time-of arrival_of arrivals both-frames frames-seen

-- the list of what came in stopped, or that of what left, or both ended
pub lists-stop-came : (past : List (OfTwo Heading)) (y : Front Heading) → CameFirst time-of past Unsought y
    → (ys : List Arrival) (fy : Option RunFault) (fault : RunFault) → CanCome arrival_of y ys fy
    → merge by_frame_time [] (reverse (arrivals (taken_of First past))) (Some fault)
    (reverse (arrivals (taken_of Second past)) ++ ys) fy
    ≡ merged_as (frames_of (map seen_of past)) (Some fault)
lists-stop-came = stops-first by_frame_time time-of arrival_of arrivals both-frames frames-seen

pub lists-stop-left : (past : List (OfTwo Heading)) (x : Front Heading) → CameFirst time-of past x Unsought
    → IsTimed time-of x → (xs : List Arrival) (fx : Option RunFault) (fault : RunFault) → CanCome arrival_of x xs fx
    → merge by_frame_time [] (reverse (arrivals (taken_of First past)) ++ xs) fx
    (reverse (arrivals (taken_of Second past))) (Some fault)
    ≡ merged_as (frames_of (map seen_of past)) (Some fault)
lists-stop-left = stops-second by_frame_time time-of arrival_of arrivals both-frames frames-seen

pub lists-end : (past : List (OfTwo Heading)) → CameFirst time-of past Gone Gone
    → merge by_frame_time [] (reverse (arrivals (taken_of First past))) None
    (reverse (arrivals (taken_of Second past))) None
    ≡ merged_as (frames_of (map seen_of past)) None
lists-end = ended by_frame_time time-of arrival_of arrivals both-frames frames-seen
