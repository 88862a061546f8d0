-- What a run over two lists answers, from what it hands from them to its machine.
use Rattle.std.proofs.Common.{◌≡◌, ℕ, List, [], ◌∷◌, ◌++◌, length, map, reverse, append-nil, append_assoc, refl, ap, sym, ◌∙◌, subst, arith}
use Rattle.std.proofs.Common.{Option, Some, None, Result, Ok, Err, ◌⊎◌, inl, inr}
use Rattle.afdx_police.specs.Arrival.{Arrival}
use Rattle.afdx_input_lines.specs.Calls.{is_read}
use Rattle.afdx_input_lines.specs.Faults.{fault_of_list}
use Rattle.afdx_input_lines.specs.Lines.{lines_of, lines_taken}
use Rattle.afdx_input_lines.specs.declared.fault.RunFault.{RunFault}
use Rattle.afdx_input_lines.specs.declared.fault.RunFault.TheVariants as run
use Rattle.afdx_input_lines.specs.declared.frame_line.Heading.{Heading}
use Rattle.afdx_input_lines.specs.declared.role.ByRole.{ByRole}
use Rattle.afdx_input_lines.specs.declared.role.Role.TheVariants.{Came, Left}
use Rattle.afdx_input_lines.specs.declared.watched.Watched.{Watched}
use Rattle.afdx_text.specs.Sinks.{IsOfOutput}
use Rattle.afdx_input_sources.specs.Causes.{Cause, cause_of, FailedRead, FailedWrite, NoMemory, BadInput}
use Rattle.afdx_input_sources.specs.Engine.{Item, without_newest}
use Rattle.afdx_input_sources.specs.Items.{CanFollow, arrivals, heading_order}
use Rattle.afdx_input_sources.specs.MergedSource.{CameFirst, Front, IsAhead, OfTwo, Unsought, front_of, latest_of_both, taken_of}
use Rattle.afdx_input_sources.specs.ListSource.{item_given}
use Rattle.afdx_input_sources.specs.declared.merged.Nth.TheVariants.{First, Second}
use Rattle.afdx_input_runs.specs.declared.seen.Seen.{Seen}
use Rattle.afdx_input_runs.specs.declared.two_lists.TwoLists.{TwoLists}
use Rattle.afdx_input_sources.specs.Merging.{merge, merged_as}
use Rattle.afdx_input_runs.specs.Joining.{Coming, Joined, ListsTo, by_frame_time, first_of, frame_of, frames_of, joined}
use Rattle.afdx_input_runs.specs.Joining.{role_of}
use Rattle.afdx_input_runs.specs.TwoListsRun.{AreListed, HoldsOfFirst, IfBothGiven, TwoListsAnswer, TwoListsStop}
use Rattle.afdx_input_runs.specs.TwoListsSource.{StopsWith, seen_of}
use Rattle.afdx_input_runs.proofs.FaultLemmas.{named-cause, read-cause}
use Rattle.afdx_input_sources.proofs.CameLemmas.{IsTimed, ahead-timed}
use Rattle.afdx_input_sources.proofs.MergeLemmas.{EndsIn, merge-extends}
use Rattle.afdx_input_runs.proofs.PairAnswerLemmas.{if-both}
use Rattle.afdx_input_runs.proofs.ListedLemmas.{StoppedBy, continues}
use Rattle.afdx_input_runs.proofs.HeadedLemmas.{Comes, FrameList, Given, GivenAll, StoppedList, comes-by, given-all, stopped-list}
use Rattle.afdx_input_runs.proofs.BothAskedLemmas.{Ended, Gave, RunsTwo, Stopped}
use Rattle.afdx_input_runs.proofs.TwoListsLemmas.{lists-end, lists-go, lists-stop-came, lists-stop-left, time-of}

module _ {R : Type 0} (remaining : R → Option (List ℕ)) where
  module _ (start inputs : ByRole (Watched R)) (lists : TwoLists FrameList)
      (done told begins : List (Item Seen) → Type 0) where
    -- ---- what is answered, where the bytes of both are known
    module _ (bytes_came bytes_left : List ℕ) (known_came : remaining start.came.inner ≡ Some bytes_came)
        (known_left : remaining start.left.inner ≡ Some bytes_left) where
      abbrev Stop : RunFault → Cause → Type 0
      Stop fault cause = TwoListsStop remaining bytes_came bytes_left inputs done told begins fault cause

      abbrev pub Answer : Result (ByRole ℕ) RunFault → Type 0
      Answer result = TwoListsAnswer remaining bytes_came bytes_left inputs done told begins result

      came-comes : (latest : ℕ) (taken : List (Item Heading))
          → IsAhead heading_order CanFollow item_given (Given remaining) (GivenAll remaining) latest start.came
          lists.both.first inputs.came taken
          → Comes remaining start.came inputs.came lists.both.first.source Came bytes_came known_came
          lists.both.first.head taken
      came-comes latest taken h =
          comes-by remaining start.came inputs.came lists.both.first.source Came bytes_came known_came
          lists.both.first.head taken h.known

      left-comes : (latest : ℕ) (taken : List (Item Heading))
          → IsAhead heading_order CanFollow item_given (Given remaining) (GivenAll remaining) latest start.left
          lists.both.second inputs.left taken
          → Comes remaining start.left inputs.left lists.both.second.source Left bytes_left known_left
          lists.both.second.head taken
      left-comes latest taken h =
          comes-by remaining start.left inputs.left lists.both.second.source Left bytes_left known_left
          lists.both.second.head taken h.known

      abbrev Latest : List (OfTwo Heading) → ℕ
      Latest of_two = latest_of_both heading_order.time of_two

      abbrev Front-came : Front Heading
      Front-came = front_of item_given lists.both.first

      abbrev Front-left : Front Heading
      Front-left = front_of item_given lists.both.second

      -- these are the first frames of all that come
      pub record AreFirst (past : List (Item Seen)) : Type 0 where
        pub came : Coming
        pub left : Coming
        pub listed_so : AreListed remaining bytes_came bytes_left inputs came left
        pub ends : EndsIn (frames_of past) (joined came left).items

      first-by : (past : List (Item Seen)) (xs ys rest_x rest_y : List Arrival) (fx fy : Option RunFault)
          → ListsTo Came bytes_came xs fx → ListsTo Left bytes_left ys fy
          → merge by_frame_time [] xs fx ys fy ≡ merge by_frame_time (frames_of past) rest_x fx rest_y fy
          → AreFirst past
      first-by past xs ys rest_x rest_y fx fy lists_x lists_y is =
          let e = merge-extends by_frame_time (frames_of past) rest_x fx rest_y fy in record {
            came = record { next = xs; fault = fx };
            left = record { next = ys; fault = fy };
            listed_so = (lists_x, lists_y);
            ends = (e.0, ap (λ (j : Joined). j.items) is ∙ e.1);
          }

      gave-first : (past : List (Item Seen)) → Gave remaining start inputs lists past → AreFirst past
      gave-first past h =
          let m = h.known_so in
          let a = came-comes (Latest h.of_two) (taken_of First h.of_two) m.first in
          let b = left-comes (Latest h.of_two) (taken_of Second h.of_two) m.second in
          subst AreFirst (sym h.frames_are)
          (first-by (map seen_of h.of_two) _ _ a.next b.next a.fault b.fault a.listed_so b.listed_so
          (lists-go h.of_two Front-came Front-left m.came_first a.next b.next a.fault b.fault a.can b.can))

      came-all : (taken : List (Item Heading)) → GivenAll remaining start.came lists.both.first.source inputs.came
          taken
          → ListsTo Came bytes_came (reverse (arrivals taken)) None
          × (lines_taken lists.both.first.source.reader ≡ length (lines_of bytes_came))
      came-all taken h =
          given-all remaining start.came inputs.came lists.both.first.source Came bytes_came known_came taken h

      left-all : (taken : List (Item Heading)) → GivenAll remaining start.left lists.both.second.source inputs.left
          taken
          → ListsTo Left bytes_left (reverse (arrivals taken)) None
          × (lines_taken lists.both.second.source.reader ≡ length (lines_of bytes_left))
      left-all taken h =
          given-all remaining start.left inputs.left lists.both.second.source Left bytes_left known_left taken h

      ended-so : (past : List (Item Seen)) (h : Ended remaining start inputs lists past)
          → merge by_frame_time [] (reverse (arrivals (taken_of First h.of_two))) None
          (reverse (arrivals (taken_of Second h.of_two))) None
          ≡ merged_as (frames_of past) None
      ended-so past h =
          lists-end h.of_two h.known_so.came_first
          ∙ ap (λ (l : List (Item Seen)). merged_as (frames_of l) None) (sym h.frames_are)

      ended-first : (past : List (Item Seen)) → Ended remaining start inputs lists past → AreFirst past
      ended-first past h = record {
        came = record { next = reverse (arrivals (taken_of First h.of_two)); fault = None };
        left = record { next = reverse (arrivals (taken_of Second h.of_two)); fault = None };
        listed_so = (
          (came-all (taken_of First h.of_two) h.known_so.first).0,
          (left-all (taken_of Second h.of_two) h.known_so.second).0,
        );
        ends = ([], ap (λ (j : Joined). j.items) (ended-so past h));
      }

      -- of some first frames a beginning is told
      abbrev Begun : Type 0
      Begun =
          (came : Coming) × (left : Coming) × AreListed remaining bytes_came bytes_left inputs came left
          × HoldsOfFirst came left (λ items. told items ⊎ begins items)

      begun-all : (past : List (Item Seen)) → AreFirst past → told past ⊎ begins past → Begun
      begun-all past f t = (f.came, f.left, f.listed_so, (past, f.ends.0, f.ends.1, t))

      begun-some : (past : List (Item Seen)) → AreFirst past → begins past ⊎ begins (without_newest past) → Begun
      begun-some past f (inl b) = begun-all past f (inr b)
      begun-some [] f (inr b) = begun-all [] f (inr b)
      begun-some (x ∷ past) f (inr b) = (
        f.came,
        f.left,
        f.listed_so,
        (
          past,
          f.ends.0 ++ (frame_of x ∷ []),
          f.ends.1 ∙ sym (append_assoc f.ends.0 (frame_of x ∷ []) (frames_of past)),
          inr b,
        ),
      )

      output-stop : (fault : RunFault) → IsOfOutput fault → Begun → Stop fault (cause_of fault)
      output-stop fault (inl e) h = rw e h
      output-stop fault (inr e) h = rw e h

      -- ---- a list stopped, with this fault of its own, which is named

      module _ (of_two : List (OfTwo Heading)) (own fault : RunFault) (t : told (map seen_of of_two)) where
        abbrev Stops : Type 0
        Stops = StopsWith item_given (Given remaining) (GivenAll remaining) (StoppedList remaining) start lists
            inputs own
            of_two

        named-so : (any : RunFault) → fault ≡ any
            → merged_as (frames_of (map seen_of of_two)) (Some any)
            ≡ merged_as (frames_of (map seen_of of_two)) (Some fault)
        named-so any is = ap (λ (f : RunFault). merged_as (frames_of (map seen_of of_two)) (Some f)) (sym is)

        came-by : (cause : Cause) → cause_of own ≡ cause → fault ≡ fault_of_list Came own
            → StoppedList remaining start.came lists.both.first.source inputs.came (taken_of First of_two) own
            → StoppedBy Came bytes_came (arrivals (taken_of First of_two)) (remaining inputs.came.inner) own cause
            → Comes remaining start.left inputs.left lists.both.second.source Left bytes_left known_left
            lists.both.second.head (taken_of Second of_two)
            → CameFirst time-of of_two Unsought Front-left → Stop fault cause
        came-by FailedRead e is s h b c =
            let read = read-cause own e in (
              record { next = reverse (arrivals (taken_of First of_two)); fault = Some run.Read },
              record { next = reverse (arrivals (taken_of Second of_two)) ++ b.next; fault = b.fault },
              inl (s.failed ∙ ap is_read read, h, b.listed_so),
              (
                map seen_of of_two,
                lists-stop-came of_two Front-left c b.next b.fault run.Read b.can
                    ∙ named-so run.Read (is ∙ ap (λ (f : RunFault). fault_of_list Came f) read),
                t,
              ),
            )
        came-by BadInput e is s h b c = (
          record { next = reverse (arrivals (taken_of First of_two)); fault = Some (fault_of_list Came own) },
          record { next = reverse (arrivals (taken_of Second of_two)) ++ b.next; fault = b.fault },
          (h, b.listed_so),
          (
            map seen_of of_two,
            lists-stop-came of_two Front-left c b.next b.fault (fault_of_list Came own) b.can
                ∙ named-so (fault_of_list Came own) is,
            t,
          ),
        )
        came-by FailedWrite e is s h b c =
            begun-all (map seen_of of_two) (first-by (map seen_of of_two) _ _ h.next b.next h.fault b.fault h.listed
            b.listed_so (lists-go of_two Unsought Front-left c h.next b.next h.fault b.fault tt b.can)) (inl t)
        came-by NoMemory e is s h b c =
            begun-all (map seen_of of_two) (first-by (map seen_of of_two) _ _ h.next b.next h.fault b.fault h.listed
            b.listed_so (lists-go of_two Unsought Front-left c h.next b.next h.fault b.fault tt b.can)) (inl t)

        left-by : (cause : Cause) → cause_of own ≡ cause → fault ≡ fault_of_list Left own
            → StoppedList remaining start.left lists.both.second.source inputs.left (taken_of Second of_two) own
            → StoppedBy Left bytes_left (arrivals (taken_of Second of_two)) (remaining inputs.left.inner) own cause
            → Comes remaining start.came inputs.came lists.both.first.source Came bytes_came known_came
            lists.both.first.head (taken_of First of_two)
            → CameFirst time-of of_two Front-came Unsought → IsTimed time-of Front-came → Stop fault cause
        left-by FailedRead e is s h a c timed =
            let read = read-cause own e in (
              record { next = reverse (arrivals (taken_of First of_two)) ++ a.next; fault = a.fault },
              record { next = reverse (arrivals (taken_of Second of_two)); fault = Some run.Read },
              inr (s.failed ∙ ap is_read read, a.listed_so, h),
              (
                map seen_of of_two,
                lists-stop-left of_two Front-came c timed a.next a.fault run.Read a.can
                    ∙ named-so run.Read (is ∙ ap (λ (f : RunFault). fault_of_list Left f) read),
                t,
              ),
            )
        left-by BadInput e is s h a c timed = (
          record { next = reverse (arrivals (taken_of First of_two)) ++ a.next; fault = a.fault },
          record { next = reverse (arrivals (taken_of Second of_two)); fault = Some (fault_of_list Left own) },
          (a.listed_so, h),
          (
            map seen_of of_two,
            lists-stop-left of_two Front-came c timed a.next a.fault (fault_of_list Left own) a.can
                ∙ named-so (fault_of_list Left own) is,
            t,
          ),
        )
        left-by FailedWrite e is s h a c timed =
            begun-all (map seen_of of_two) (first-by (map seen_of of_two) _ _ a.next h.next a.fault h.fault
            a.listed_so
            h.listed (lists-go of_two Front-came Unsought c a.next h.next a.fault h.fault a.can tt)) (inl t)
        left-by NoMemory e is s h a c timed =
            begun-all (map seen_of of_two) (first-by (map seen_of of_two) _ _ a.next h.next a.fault h.fault
            a.listed_so
            h.listed (lists-go of_two Front-came Unsought c a.next h.next a.fault h.fault a.can tt)) (inl t)

        stop-by : Stops → fault ≡ fault_of_list (role_of lists.both.from) own → Stop fault (cause_of own)
        stop-by (inl s) is =
            let n = s.from in
            came-by (cause_of own) refl (rw n at is) s.first
            (stopped-list remaining start.came inputs.came lists.both.first.source Came bytes_came known_came
            (taken_of First of_two) own s.first)
            (left-comes (Latest of_two) (taken_of Second of_two) s.second) s.came_first
        stop-by (inr s) is =
            let n = s.from in
            left-by (cause_of own) refl (rw n at is) s.second
            (stopped-list remaining start.left inputs.left lists.both.second.source Left bytes_left known_left
            (taken_of Second of_two) own s.second)
            (came-comes (Latest of_two) (taken_of First of_two) s.first) s.came_first
            (ahead-timed heading_order CanFollow
            (Given remaining start.came lists.both.first.source inputs.came)
            (GivenAll remaining start.came lists.both.first.source inputs.came)
            (item_given lists.both.first.source) lists.both.first.head (taken_of First of_two) s.known s.first.known)

      -- ---- all cases

      stop-answer : (past : List (Item Seen)) (fault : RunFault) → Stopped remaining start inputs lists past fault
          → told past → Stop fault (cause_of fault)
      stop-answer past fault s t =
          subst (λ (c : Cause). Stop fault c)
          (sym (ap cause_of s.fault_is ∙ named-cause (role_of lists.both.from) s.own))
          (stop-by s.stops.of_two s.own fault (subst told s.stops.frames_are t) s.stops.known_so s.fault_is)

      pub err-answer : (fault : RunFault) → RunsTwo remaining start inputs lists done told begins (Err fault)
          → Answer (Err fault)
      err-answer fault (past, inl (s, t)) = stop-answer past fault s t
      err-answer fault (past, inr (is, inl g, b)) = output-stop fault is (begun-some past (gave-first past g) b)
      err-answer fault (past, inr (is, inr e, b)) = output-stop fault is (begun-some past (ended-first past e) b)

      pub ok-answer : (n : ByRole ℕ) → n.came ≡ lines_taken lists.both.first.source.reader
          → n.left ≡ lines_taken lists.both.second.source.reader
          → RunsTwo remaining start inputs lists done told begins (Ok tt) → Answer (Ok n)
      ok-answer n is_came is_left (past, e, d) =
          let came = came-all (taken_of First e.of_two) e.known_so.first in
          let left = left-all (taken_of Second e.of_two) e.known_so.second in (
            record { next = reverse (arrivals (taken_of First e.of_two)); fault = None },
            record { next = reverse (arrivals (taken_of Second e.of_two)); fault = None },
            (came.0, left.0),
            (past, ended-so past e, d),
            is_came ∙ came.1,
            is_left ∙ left.1,
          )

    -- the same, where they are known
    pub err-answers : (fault : RunFault) → RunsTwo remaining start inputs lists done told begins (Err fault)
        → IfBothGiven remaining start (λ came left.
        TwoListsAnswer remaining came left inputs done told begins (Err fault))
    err-answers fault h =
        if-both (remaining start.came.inner) (remaining start.left.inner)
        (λ came left. TwoListsAnswer remaining came left inputs done told begins (Err fault))
        (λ came left known_came known_left. err-answer came left known_came known_left fault h)

    pub ok-answers : (n : ByRole ℕ) → n.came ≡ lines_taken lists.both.first.source.reader
        → n.left ≡ lines_taken lists.both.second.source.reader → RunsTwo remaining start inputs lists done told
        begins (Ok tt)
        → IfBothGiven remaining start (λ came left.
        TwoListsAnswer remaining came left inputs done told begins (Ok n))
    ok-answers n is_came is_left h =
        if-both (remaining start.came.inner) (remaining start.left.inner)
        (λ came left. TwoListsAnswer remaining came left inputs done told begins (Ok n))
        (λ came left known_came known_left. ok-answer came left known_came known_left n is_came is_left h)

  -- there was no memory
  module _ (inputs : ByRole (Watched R)) (done told begins : List (Item Seen) → Type 0) where
    memory-known : (bytes_came bytes_left : List ℕ) → told []
        → TwoListsAnswer remaining bytes_came bytes_left inputs done told begins (Err run.Memory)
    memory-known bytes_came bytes_left t =
        let a = continues Came bytes_came 0 (omega arith) (λ i less. absurd (omega (arith, less))) in
        let b = continues Left bytes_left 0 (omega arith) (λ i less. absurd (omega (arith, less))) in
        let came : Coming = record { next = reverse (first_of bytes_came 0) ++ a.next; fault = a.fault } in
        let left : Coming = record { next = reverse (first_of bytes_left 0) ++ b.next; fault = b.fault } in
        let all = (joined came left).items in
        (came, left, (a.listed, b.listed), ([], all, sym (append-nil all), inl t))

    pub memory-answer : told [] → IfBothGiven remaining inputs (λ came left.
        TwoListsAnswer remaining came left inputs done told begins (Err run.Memory))
    memory-answer t =
        if-both (remaining inputs.came.inner) (remaining inputs.left.inner)
        (λ came left. TwoListsAnswer remaining came left inputs done told begins (Err run.Memory))
        (λ came left known_came known_left. memory-known came left t)
