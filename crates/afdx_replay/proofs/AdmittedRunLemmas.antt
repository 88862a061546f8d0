-- A replay of admitted tables tells what is promised.
use Rattle.std.proofs.Common.{◌≡◌, ℕ, zero, suc, ◌+◌, ◌≤◌}
use Rattle.std.proofs.Common.{List, [], ◌∷◌, length, refl, ap, ◌∙◌, subst, arith, inl, inr}
use Rattle.std.specs.Prelude.{Option, Some, None, Result, Ok, Err, All, IfSome, slice_index_or}
use Rattle.std.specs.Io.KnownBytes.{Appends}
use Rattle.afdx_config.proofs.AmongOthersLemmas.{admitted-serving}
use Rattle.afdx_config.specs.Admission.{IsAdmitted}
use Rattle.afdx_config.specs.Lawful.{IsLawfulSwitch}
use Rattle.afdx_config.specs.Rows.{Rows}
use Rattle.afdx_police.specs.Arrival.{Arrival}
use Rattle.afdx_law_bounds.specs.Outputs.{AreTimed}
use Rattle.afdx_switch.specs.Admitted.{IsAdmittedRun}
use Rattle.afdx_input_lines.specs.Calls.{AppendsFront}
use Rattle.afdx_input_lines.specs.FrameLines.{ListedFrame}
use Rattle.afdx_input_lines.proofs.FrameLemmas.{line_says-later}
use Rattle.afdx_input_lines.specs.Lines.{lines_of}
use Rattle.afdx_input_lines.specs.declared.fault.LineFault.{LineFault}
use Rattle.afdx_input_lines.specs.declared.fault.RunFault.{RunFault}
use Rattle.afdx_input_sources.specs.Lists.{items_of, latest_in, with_item}
use Rattle.afdx_input_sources.specs.Listed.{frames, arrival_at, said_after, arrivals_of}
use Rattle.afdx_replay.specs.replaying.Promises.{IsListed, ArrivalsAreListed}
use Rattle.afdx_law_promises.specs.Lines.{IsIn}
use Rattle.afdx_replay.specs.replaying.PromisedRun.{IsAsPromised, WritesPromisedSoFar, WritesPromisedSome, PromisedAnswers}
use Rattle.afdx_network.specs.Order.{events_of}
use Rattle.afdx_replay.specs.replaying.Text.{replay_text, replay_counts}
use Rattle.afdx_replay.specs.replaying.Replayed.{WritesSoFar, WritesSome, Answers}
use Rattle.afdx_command_tables.specs.declared.summary.Summary.{Summary}
use Rattle.afdx_input_sources.proofs.RunLemmas.{stops-more}
use Rattle.afdx_replay.proofs.PromisedLemmas.{replay-promised, so-far-told, none-counted}

-- ---- the times of a list's arrivals don't decrease

pub latest-most : (past : List Arrival) → AreTimed past → All (λ y. y.time ≤ latest_in frames past) past
latest-most [] timed k d lt = absurd (omega (arith, lt))
latest-most (x ∷ past) timed zero d lt = omega arith
latest-most (x ∷ past) timed (suc k) d lt = timed.0 k d (omega (arith, lt))

pub arrivals-timed : (lines : List (List ℕ)) (n : ℕ) → AreTimed (arrivals_of lines n)
unfolding items_of
arrivals-timed lines zero = tt
arrivals-timed lines (suc n) = by (said_after (arrivals_of lines n) (slice_index_or lines n []))
    refl (arrivals-timed lines n)
  where
    by : (r : Result (Option ListedFrame) LineFault)
        → said_after (arrivals_of lines n) (slice_index_or lines n []) ≡ r
        → AreTimed (arrivals_of lines n) → AreTimed (with_item frames (suc n) r (arrivals_of lines n))
    by (Err fault) is timed = timed
    by (Ok None) is timed = timed
    by (Ok (Some frame)) is timed =
        let later = line_says-later (latest_in frames (arrivals_of lines n)) (slice_index_or lines n []) frame is in
        ((λ k d lt. let most = latest-most (arrivals_of lines n) timed k d lt in omega (arith, most, later)), timed)

-- ---- each arrival is that of its line

pub arrivals-listed : ArrivalsAreListed
unfolding items_of
arrivals-listed list zero x h = absurd h
arrivals-listed list (suc n) x h = by (said_after (arrivals_of list n) (slice_index_or list n []))
    refl h (λ later. arrivals-listed list n x later)
  where
    earlier : IsListed list n x → IsListed list (suc n) x
    earlier is = record {
      place = is.place;
      below = omega (arith, is.below);
      frame = is.frame;
      said = is.said;
      is = is.is;
    }

    by : (r : Result (Option ListedFrame) LineFault)
        → said_after (arrivals_of list n) (slice_index_or list n []) ≡ r
        → IsIn x (with_item frames (suc n) r (arrivals_of list n))
        → (IsIn x (arrivals_of list n) → IsListed list n x) → IsListed list (suc n) x
    by (Err fault) is g rest = earlier (rest g)
    by (Ok None) is g rest = earlier (rest g)
    by (Ok (Some frame)) is (inr later) rest = earlier (rest later)
    by (Ok (Some frame)) is (inl same) rest =
        record {
          place = n;
          below = omega arith;
          frame = frame;
          said = is;
          is = same
              ∙ ap (λ k. arrival_at k frame) one;
        }
      where
        one : suc n ≡ n + 1
        one = omega arith

-- ---- what is told

pub as-promised : (t : Rows) (arrivals : List Arrival) (old new : Option (List ℕ)) (summary : Summary)
    → IsAdmittedRun t arrivals → Appends old new (replay_text t (events_of t arrivals))
    → summary.lost ≡ (replay_counts t (events_of t arrivals)).lost
    → summary.too_old ≡ (replay_counts t (events_of t arrivals)).too_old
    → IsAsPromised t arrivals old new summary
as-promised t arrivals old new summary run written lost old_are =
    let told = replay-promised t arrivals run in
    let none = none-counted t arrivals run in
    record {
      lines = told.lines;
      written = subst (Appends old new) told.written written;
      promises = told.promises;
      accepted = told.accepted;
      once = told.once;
      once_so_far = told.once_so_far;
      none_lost = lost ∙ none.lost;
      none_old = old_are ∙ none.too_old;
    }

pub so-far-promised : (t : Rows) (arrivals : List Arrival) (old new : Option (List ℕ)) → IsAdmittedRun t arrivals
    → WritesSoFar t old new arrivals → WritesPromisedSoFar t old new arrivals
so-far-promised t arrivals old new run written =
    let told = so-far-told t arrivals run in
    record {
      lines = told.lines;
      written = subst (Appends old new) told.written written;
      promises = told.promises;
      accepted = told.accepted;
    }

pub some-promised : (t : Rows) (arrivals : List Arrival) (old new : Option (List ℕ))
    → IsAdmittedRun t arrivals → WritesSome t old new arrivals → WritesPromisedSome t old new arrivals
some-promised t arrivals old new run written =
    let told = replay-promised t arrivals run in
    record {
      lines = told.lines;
      written = subst (AppendsFront old new) told.written written;
      promises = told.promises;
      accepted = told.accepted;
    }

module _ (t : Rows) (bytes : List ℕ) (old new : Option (List ℕ)) (lawful : IsLawfulSwitch t) (admitted : IsAdmitted t)
  where
    run-of : (n : ℕ) → IsAdmittedRun t (arrivals_of (lines_of bytes) n)
    run-of n = record {
      lawful = lawful;
      admitted = admitted-serving t admitted;
      timed = arrivals-timed (lines_of bytes) n;
    }

    all-told : (n : ℕ) → WritesSoFar t old new (arrivals_of (lines_of bytes) n)
        → WritesPromisedSoFar t old new (arrivals_of (lines_of bytes) n)
    all-told n written = so-far-promised t (arrivals_of (lines_of bytes) n) old new (run-of n) written

    some-told : (n : ℕ) → WritesSome t old new (arrivals_of (lines_of bytes) n)
        → WritesPromisedSome t old new (arrivals_of (lines_of bytes) n)
    some-told n written = some-promised t (arrivals_of (lines_of bytes) n) old new (run-of n) written

    pub promised-answers : (rest : Option (List ℕ)) (r : Result Summary RunFault)
        → Answers t bytes rest old new r → PromisedAnswers t bytes rest old new r
    promised-answers rest (Err fault) stops =
        stops-more frames (WritesSoFar t old new) (WritesSome t old new) (WritesPromisedSoFar t old new)
        (WritesPromisedSome t old new) bytes rest all-told some-told fault stops
    promised-answers rest (Ok summary) all =
        let list = lines_of bytes in
        record {
          sound = all.sound;
          listed = arrivals-listed list (length list);
          promised = as-promised t (arrivals_of list (length list)) old new summary (run-of (length list))
              all.written (ap (λ (s : Summary). s.lost) all.counted) (ap (λ (s : Summary). s.too_old) all.counted);
        }

-- where the input's bytes are known
pub if-known : (t : Rows) (o rest old new : Option (List ℕ)) (r : Result Summary RunFault)
    → IsLawfulSwitch t → IsAdmitted t → IfSome o (λ bytes. Answers t bytes rest old new r)
    → IfSome o (λ bytes. PromisedAnswers t bytes rest old new r)
if-known t None rest old new r lawful admitted h = tt
if-known t (Some bytes) rest old new r lawful admitted h = promised-answers t bytes old new lawful admitted rest r h
