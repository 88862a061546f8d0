-- What left goes by time on each side.
use Rattle.std.proofs.Common.{ℕ, Bool, List, [], ◌∷◌, map, sym, ap, ◌∙◌, subst, arith}
use Rattle.std.specs.Prelude.{filter, nat_eq, not, ◌&&◌, Option}
use Rattle.afdx_frame.specs.Sides.{is_side}
use Rattle.afdx_frame.specs.declared.link.Side.{Side}
use Rattle.afdx_input_runs.specs.Joining.{Frame}
use Rattle.afdx_law_recorded.proofs.MergeLemmas.{departures_merge}
use Rattle.afdx_law_recorded.specs.Receivers.{heard_as}
use Rattle.afdx_law_recorded.specs.Switches.{gone_as, left_of}
use Rattle.afdx_police.specs.Arrival.{Arrival, names}
use Rattle.afdx_police.specs.Spacing.{AreUpTo}
use Rattle.afdx_receive.specs.CopiesApart.{ComeByTime}
use Rattle.afdx_senders.proofs.ListLemmas.{filter_map}
use Rattle.afdx_command_conform.specs.Choices.{latest_of}
use Rattle.afdx_command_conform.specs.RunLaws.{AreByTime}
use Rattle.afdx_command_conform.specs.Tapped.{is_of_came}
use Rattle.afdx_command_senders.proofs.AllCountedLemmas.{arrival_in, filter-both, is_no_longer, is_until, map-twice, up-latest}
use Rattle.afdx_command_senders.specs.Together.{LeftIsHeard, left_until}

come-by : (vl : ℕ) (side : Side) (top : ℕ) (xs : List Arrival) → AreUpTo top (map (λ x. x.time) xs)
    → ComeByTime (map (heard_as vl side) (map gone_as xs))
come-by vl side top [] up = tt
come-by vl side top (x ∷ []) up = (tt, tt)
come-by vl side top (x ∷ y ∷ xs) up = (up.1.0, come-by vl side x.time (y ∷ xs) up.1)

module _ (until : Option ℕ) (frames : List Frame) (vl port : ℕ) (order : AreByTime frames) (side : Side) where
  abbrev is_there : Arrival → Bool
  is_there x = is_side x.side side && nat_eq x.port port && names vl x.bytes

  abbrev is_left : Frame → Bool
  is_left x = not (is_of_came x.role) && is_until until x && is_no_longer x

  left-up : AreUpTo (latest_of frames) (map (λ (x : Arrival). x.time) (filter is_there (left_until until frames)))
  left-up =
      subst (λ (l : List ℕ). AreUpTo (latest_of frames) l)
      (sym (map-twice arrival_in (λ (x : Arrival). x.time) (filter (λ x. is_left x && is_there x.arrival) frames))
      ∙ ap (λ (l : List Frame). map (λ (x : Arrival). x.time) (map arrival_in l))
      (sym (filter-both (λ x. is_there x.arrival) is_left frames))
      ∙ ap (map (λ (x : Arrival). x.time)) (sym (filter_map is_there arrival_in (filter is_left frames))))
      (up-latest (λ x. is_left x && is_there x.arrival) (latest_of frames) frames order (omega arith))

pub left_heard : LeftIsHeard
left_heard until frames vl port order =
    departures_merge vl (λ side. left_of vl side port (left_until until frames))
    (λ side. come-by vl side (latest_of frames) (filter (is_there until frames vl port order side)
    (left_until until frames)) (left-up until frames vl port order side))
