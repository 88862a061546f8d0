-- What a run answers.
use Rattle.std.proofs.Common.{◌≡◌, ◌⊎◌, Bool, true, false, subst, ℕ, List, [], Option, None, Some, Ok, Err, inl, inr, refl, sym}
use Rattle.std.proofs.KnownBytes.{Appends-nil, Appends-trans}
use Rattle.std.specs.Io.KnownBytes.{Appends}
use Rattle.std.specs.Option.{option_or}
use Rattle.std.specs.Prelude.{IfSome, Result, if◌then◌else◌, nat_lt, option_map}
use Rattle.afdx_input_sources.specs.Causes.{Cause, cause_of, FailedRead, FailedWrite, NoMemory, BadInput}
use Rattle.afdx_input_sources.specs.Engine.{Item}
use Rattle.afdx_input_runs.specs.Arrivals.{ByCause}
use Rattle.afdx_input_runs.specs.Joining.{Frame, frames_of}
use Rattle.afdx_input_runs.specs.SeenFrames.{absent_in, absent_of, lost_of}
use Rattle.afdx_input_runs.specs.declared.seen.Seen.{Seen}
use Rattle.afdx_input_runs.specs.declared.seen_frames.SeenCount.{SeenCount}
use Rattle.afdx_input_runs.specs.declared.seen_frames.SeenCount.TheVariants as count
use Rattle.afdx_input_lines.specs.Calls.{AppendsFront, is_read, is_write}
use Rattle.afdx_input_lines.specs.Faults.{fault_of_role}
use Rattle.afdx_input_lines.specs.declared.fault.RunFault.{RunFault}
use Rattle.afdx_input_lines.specs.declared.fault.RunFault.TheVariants.{Memory, Recording}
use Rattle.afdx_input_lines.specs.declared.recording_fault.RecordingFault.{RecordingFault}
use Rattle.afdx_input_lines.specs.declared.recording_fault.RecordingFault.TheVariants.{Absent, Lossy}
use Rattle.afdx_input_lines.specs.declared.role.Role.{Role}
use Rattle.afdx_input_lines.specs.declared.role.Role.TheVariants.{Came, Left}
use Rattle.afdx_text.proofs.OutputLemmas.{front-more}
use Rattle.afdx_text.specs.ConformLines.{conform_text}
use Rattle.afdx_text.specs.Sinks.{IsOfOutput}
use Rattle.afdx_text.specs.declared.conform_line.Conclusion.{Conclusion}
use Rattle.afdx_text.specs.declared.conform_line.ConformLine.{ConformLine}
use Rattle.afdx_text.specs.declared.conform_line.ConformLine.TheVariants.{Judged}
use Rattle.afdx_command_conform.proofs.TellingLemmas.{no-text}
use Rattle.afdx_command_conform.specs.Ran.{HasNoLast, RunAnswers, RunTells, fault_behind, loss_told}
use Rattle.afdx_command_conform.specs.Telling.{lines_text}
use Rattle.afdx_command_conform.specs.Written.{Begins, Writes, WritesLines}
use Rattle.afdx_command_conform.specs.declared.run.RunCounts.{RunCounts}

-- what holds of what is known
pub where-known : {X : Type 0} (o : Option X) (P : X → Type 0) → ((x : X) → o ≡ Some x → P x) → IfSome o P
where-known None P f = tt
where-known (Some x) P f = f x refl

-- what a run writes: as `Ran` has it
module _ (Takes : List (Item Seen) → Result SeenCount RunFault → Type 0)
    (AreAll : List Frame → List ConformLine → Conclusion → Type 0)
    (AreEarly AreFirst : List Frame → List ConformLine → Type 0) (is_lossy : Bool) where
  -- there was no memory at the begin
  pub answers-memory : (old : Option (List ℕ)) → AreEarly [] [] → Takes [] (Err Memory)
      → RunAnswers Takes AreAll AreEarly AreFirst is_lossy old old (Err Memory)
  answers-memory old none takes = inl (
    [],
    takes,
    inl (record {
      lines = [];
      are_so = none;
      written = subst (λ (l : List ℕ). Appends old old l) (sym no-text) (Appends-nil old);
    }),
  )

  -- what is told of items is their lines, and what is counted is of them
  module _ (Done Told Begun : (start written : Option (List ℕ)) → List (Item Seen) → Type 0)
      (HasCounted : Conclusion → Type 0) (old new : Option (List ℕ))
      (all : (mid : Option (List ℕ)) (items : List (Item Seen)) (last : Conclusion) → Done old mid items
      → HasCounted last → WritesLines old mid (AreAll (frames_of items)) last)
      (early : (items : List (Item Seen)) → Told old new items → Writes old new (AreEarly (frames_of items)))
      (first : (items : List (Item Seen)) → Begun old new items → Begins old new (AreFirst (frames_of items))) where
    some : (items : List (Item Seen)) → Told old new items ⊎ Begun old new items
        → Writes old new (AreEarly (frames_of items)) ⊎ Begins old new (AreFirst (frames_of items))
    some items (inl told) = inl (early items told)
    some items (inr begun) = inr (first items begun)

    writes : (items : List (Item Seen)) (cause : Cause)
        → ByCause cause (Told old new items) (Told old new items ⊎ Begun old new items)
        → ByCause cause (Writes old new (AreEarly (frames_of items)))
        (Writes old new (AreEarly (frames_of items)) ⊎ Begins old new (AreFirst (frames_of items)))
    writes items FailedWrite told = some items told
    writes items NoMemory told = some items told
    writes items FailedRead told = early items told
    writes items BadInput told = early items told

    ends : (fault : RunFault) → HasNoLast Takes Done Told Begun HasCounted is_lossy old new fault
        → RunAnswers Takes AreAll AreEarly AreFirst is_lossy old new (Err fault)
    ends fault h = by h.why
      where
        w : WritesLines old h.written (AreAll (frames_of h.is_told.items)) h.last
        w = all h.written h.is_told.items h.last h.is_told.done h.is_told.counted

        by : ((fault_behind is_lossy h.count ≡ Some fault) × (new ≡ h.written))
            ⊎ ((fault_behind is_lossy h.count ≡ None) × IsOfOutput fault
            × AppendsFront h.written new (conform_text (Judged h.last)))
            → RunAnswers Takes AreAll AreEarly AreFirst is_lossy old new (Err fault)
        by (inl (behind, same)) =
            inr (
              h.is_told.items,
              h.count,
              h.is_told.takes,
              inl (
                behind,
                (
                  h.last,
                  record {
                    lines = w.lines;
                    are_so = w.are_so;
                    written = subst (λ (o : Option (List ℕ)). Appends old o (lines_text w.lines)) (sym same) w.written;
                  },
                ),
              ),
            )
        by (inr (none, of, begun)) =
            inr (
              h.is_told.items,
              h.count,
              h.is_told.takes,
              inr (
                none,
                of,
                record {
                  lines = w.lines;
                  last = h.last;
                  are_so = w.are_so;
                  begun = front-more old h.written new (lines_text w.lines) (conform_text (Judged h.last)) w.written
                      begun;
                },
              ),
            )

    pub run-answers : (answer : Result RunCounts RunFault)
        → RunTells Takes Done Told Begun HasCounted is_lossy old new answer
        → RunAnswers Takes AreAll AreEarly AreFirst is_lossy old new answer
    run-answers (Ok counted) h =
        let w = all h.written h.is_told.items counted.conclusion h.is_told.done h.is_told.counted in (
          h.is_told.items,
          h.is_told.takes,
          h.none_behind,
          record {
            lines = w.lines;
            are_so = w.are_so;
            written = Appends-trans old h.written new (lines_text w.lines) (conform_text (Judged counted.conclusion))
                w.written h.last;
          },
        )
    run-answers (Err fault) (inl h) = inl (h.items, h.takes, writes h.items (cause_of fault) h.told)
    run-answers (Err fault) (inr h) = ends fault h

-- ---- what is told in the place of the last line is no fault of a device

abbrev IsNoDevice : RunFault → Type 0
IsNoDevice fault = (is_read fault ≡ false) × (is_write fault ≡ false)

either-no-device : (a b : Option RunFault) → IfSome a IsNoDevice → IfSome b IsNoDevice
    → IfSome (option_or a b) IsNoDevice
either-no-device None b p q = q
either-no-device (Some fault) b p q = p

absent-no-device : (f : RecordingFault → RunFault) → ((x : RecordingFault) → IsNoDevice (f x)) → (o : Option ℕ)
    → IfSome (option_map (λ k. f (Absent k)) o) IsNoDevice
absent-no-device f each None = tt
absent-no-device f each (Some k) = each (Absent k)

role-no-device : (role : Role) (x : RecordingFault) → IsNoDevice (fault_of_role role x)
role-no-device Came x = (refl, refl)
role-no-device Left x = (refl, refl)

loss-no-device : (is_lossy : Bool) (lost : ℕ) → IfSome (loss_told is_lossy lost) IsNoDevice
loss-no-device true lost = tt
loss-no-device false lost = by (nat_lt 0 lost)
  where
    by : (b : Bool) → IfSome (if b then Some (Recording (Lossy lost)) else None) IsNoDevice
    by true = (refl, refl)
    by false = tt

count-no-device : (count : SeenCount) → IfSome (absent_of count) IsNoDevice
unfolding absent_of
count-no-device (count.Lists lines) = tt
count-no-device (count.Recorded tally) = absent-no-device Recording (λ x. (refl, refl)) tally.absent
count-no-device (count.Both tallies) =
    either-no-device (absent_in Came tallies.came) (absent_in Left tallies.left)
    (absent-no-device (fault_of_role Came) (role-no-device Came) tallies.came.absent)
    (absent-no-device (fault_of_role Left) (role-no-device Left) tallies.left.absent)

pub behind-no-device : (is_lossy : Bool) (count : SeenCount) (fault : RunFault) → fault_behind is_lossy count
    ≡ Some fault
    → (is_read fault ≡ false) × (is_write fault ≡ false)
behind-no-device is_lossy count fault is =
    subst (λ o. IfSome o IsNoDevice) is
    (either-no-device (absent_of count) (loss_told is_lossy (lost_of count)) (count-no-device count)
    (loss-no-device is_lossy (lost_of count)))
