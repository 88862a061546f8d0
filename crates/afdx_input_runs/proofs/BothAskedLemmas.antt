-- Two lists that are read at once: whether a device failed, how often each was asked, and the start.
use Rattle.std.proofs.Common.{◌≡◌, ℕ, ◌+◌, ◌≤◌, List, [], refl, ap, sym, ◌∙◌, subst, arith}
use Rattle.std.proofs.Common.{Option, Result, Ok, Err, Bool, true, false, ◌||◌, inl, inr}
use Rattle.afdx_input_lines.specs.Calls.{is_read}
use Rattle.afdx_input_lines.specs.Lines.{left, most_reads}
use Rattle.afdx_input_lines.specs.declared.fault.RunFault.{RunFault}
use Rattle.afdx_input_lines.specs.declared.role.ByRole.{ByRole}
use Rattle.afdx_input_lines.specs.declared.frame_line.Heading.{Heading}
use Rattle.afdx_input_lines.specs.declared.watched.Watched.{Watched}
use Rattle.afdx_input_sources.specs.Engine.{Item, Runs}
use Rattle.afdx_input_sources.specs.ListSource.{IsUnread, item_given}
use Rattle.afdx_input_sources.proofs.ListRunLemmas.{not_read}
use Rattle.afdx_input_sources.specs.Items.{CanFollow, heading_order}
use Rattle.afdx_input_sources.specs.MergedSource.{IsAhead, OfTwo, StopsMerging, inputs_by_role, latest_by, latest_of_both, taken_of}
use Rattle.afdx_input_sources.specs.declared.ahead.Ahead.{Ahead}
use Rattle.afdx_input_sources.specs.declared.ahead.AtHead.TheVariants as at
use Rattle.afdx_input_sources.specs.declared.merged.Nth.TheVariants.{First, Second}
use Rattle.afdx_input_runs.specs.declared.seen.Seen.{Seen}
use Rattle.afdx_input_runs.specs.declared.two_lists.TwoLists.{TwoLists}
use Rattle.afdx_input_runs.specs.TwoListsSource.{IsJoined, IsJoinedToEnd, StopsJoining}
use Rattle.afdx_input_runs.specs.Joining.{role_of}
use Rattle.afdx_input_runs.proofs.FaultLemmas.{named-read}
use Rattle.afdx_input_runs.proofs.PairRunLemmas.{either-false, either-left, either-right}
use Rattle.afdx_input_runs.proofs.HeadedLemmas.{Asked, FrameList, Given, GivenAll, StoppedList, ahead-asked, start-one}

module _ {R : Type 0} (remaining : R → Option (List ℕ)) where
  module _ (start inputs : ByRole (Watched R)) (lists : TwoLists FrameList) where
    abbrev pub Gave : List (Item Seen) → Type 0
    Gave past = IsJoined item_given (Given remaining) (GivenAll remaining) start lists inputs past

    abbrev pub Ended : List (Item Seen) → Type 0
    Ended past = IsJoinedToEnd item_given (Given remaining) (GivenAll remaining) start lists inputs past

    abbrev pub Stopped : List (Item Seen) → RunFault → Type 0
    Stopped past fault =
        StopsJoining item_given (Given remaining) (GivenAll remaining) (StoppedList remaining) start lists inputs past
        fault

    -- whether a device failed, and how often each was asked
    pub record BothAsked (failed : Bool) : Type 0 where
      pub failed_is : (inputs.came.failed || inputs.left.failed) ≡ failed
      pub calls_came : inputs.came.calls ≤ start.came.calls + most_reads
      pub calls_left : inputs.left.calls ≤ start.left.calls + most_reads

    both-asked : (a b c : Bool) → Asked a start.came inputs.came → Asked b start.left inputs.left
        → ((inputs.came.failed ≡ a) → (inputs.left.failed ≡ b) → (inputs.came.failed || inputs.left.failed) ≡ c)
        → BothAsked c
    both-asked a b c came left is = record {
      failed_is = is came.failed_is left.failed_is;
      calls_came = came.calls;
      calls_left = left.calls;
    }

    came-asked : (latest : ℕ) (taken : List (Item Heading))
        → IsAhead heading_order CanFollow item_given (Given remaining) (GivenAll remaining) latest start.came
        lists.both.first inputs.came taken
        → Asked false start.came inputs.came
    came-asked latest taken h =
        ahead-asked remaining start.came inputs.came lists.both.first.source lists.both.first.head taken h.known

    left-asked : (latest : ℕ) (taken : List (Item Heading))
        → IsAhead heading_order CanFollow item_given (Given remaining) (GivenAll remaining) latest start.left
        lists.both.second inputs.left taken
        → Asked false start.left inputs.left
    left-asked latest taken h =
        ahead-asked remaining start.left inputs.left lists.both.second.source lists.both.second.head taken h.known

    abbrev Latest : List (OfTwo Heading) → ℕ
    Latest of_two = latest_of_both heading_order.time of_two

    gave-asked : (past : List (Item Seen)) → Gave past → BothAsked false
    gave-asked past h =
        both-asked false false false (came-asked (Latest h.of_two) (taken_of First h.of_two) h.known_so.first)
        (left-asked (Latest h.of_two) (taken_of Second h.of_two) h.known_so.second)
        (λ e f. either-false inputs.came.failed inputs.left.failed e f)

    ended-asked : (past : List (Item Seen)) → Ended past → BothAsked false
    ended-asked past h =
        let came = h.known_so.first in
        let left = h.known_so.second in record {
          failed_is = either-false inputs.came.failed inputs.left.failed came.sound left.sound;
          calls_came = came.calls;
          calls_left = left.calls;
        }

    stops-asked : (of_two : List (OfTwo Heading)) (own : RunFault)
        → StopsMerging heading_order CanFollow item_given (Given remaining) (GivenAll remaining)
        (StoppedList remaining) (inputs_by_role start) lists.both (inputs_by_role inputs) of_two own
        → BothAsked (is_read own)
    stops-asked of_two own (inl s) =
        let left = left-asked (Latest of_two) (taken_of Second of_two) s.second in record {
          failed_is = either-left inputs.came.failed inputs.left.failed (is_read own) s.first.failed left.failed_is;
          calls_came = s.first.calls;
          calls_left = left.calls;
        }
    stops-asked of_two own (inr s) =
        let came = came-asked (Latest of_two) (taken_of First of_two) s.first in record {
          failed_is = either-right inputs.came.failed inputs.left.failed (is_read own) came.failed_is s.second.failed;
          calls_came = came.calls;
          calls_left = s.second.calls;
        }

    stopped-asked : (past : List (Item Seen)) (fault : RunFault) → Stopped past fault → BothAsked (is_read fault)
    stopped-asked past fault s =
        subst (λ (c : Bool). BothAsked c)
        (sym (named-read (role_of lists.both.from) s.own) ∙ sym (ap is_read s.fault_is))
        (stops-asked s.stops.of_two s.own s.stops.known_so)

    module _ (done told begins : List (Item Seen) → Type 0) where
      abbrev pub RunsTwo : Result (Unit {0}) RunFault → Type 0
      RunsTwo result = Runs Gave Ended done told begins Stopped result

      pub err-asked : (fault : RunFault) → RunsTwo (Err fault) → BothAsked (is_read fault)
      err-asked fault (past, inl (s, t)) = stopped-asked past fault s
      err-asked fault (past, inr (is, inl g, b)) =
          subst (λ (c : Bool). BothAsked c) (sym (not_read fault is)) (gave-asked past g)
      err-asked fault (past, inr (is, inr e, b)) =
          subst (λ (c : Bool). BothAsked c) (sym (not_read fault is)) (ended-asked past e)

      pub ok-asked : RunsTwo (Ok tt) → BothAsked false
      ok-asked (past, e, d) = ended-asked past e

      pub ok-ended : RunsTwo (Ok tt) → (inputs.came.ended ≡ true) × (inputs.left.ended ≡ true)
      ok-ended (past, e, d) = (e.known_so.first.ended, e.known_so.second.ended)

  -- nothing was given of both
  start-ahead : (input : Watched R) (list : Ahead FrameList) → list.head ≡ at.Unknown
      → IsUnread list.source.reader list.source.head.time → input.failed ≡ false → input.ended ≡ false
      → IsAhead heading_order CanFollow item_given (Given remaining) (GivenAll remaining) 0 input list input []
  start-ahead input list e new sound unended = record {
    known = rw e (start-one remaining input list.source new sound unended);
    none_before = rw e (omega arith);
    few = omega arith;
  }

  pub start-joined : (inputs : ByRole (Watched R)) (lists : TwoLists FrameList) → lists.both.first.head ≡ at.Unknown
      → lists.both.second.head ≡ at.Unknown
      → IsUnread lists.both.first.source.reader lists.both.first.source.head.time
      → IsUnread lists.both.second.source.reader lists.both.second.source.head.time → inputs.came.failed ≡ false
      → inputs.left.failed ≡ false → inputs.came.ended ≡ false → inputs.left.ended ≡ false
      → IsJoined item_given (Given remaining) (GivenAll remaining) inputs lists inputs []
  unfolding latest_by taken_of
  start-joined inputs lists e f new_came new_left sound_came sound_left unended_came unended_left = record {
    of_two = [];
    known_so = record {
      first = start-ahead inputs.came lists.both.first e new_came sound_came unended_came;
      second = start-ahead inputs.left lists.both.second f new_left sound_left unended_left;
      came_first = tt;
    };
    frames_are = refl;
  }
