-- A run over an input whose first bytes are looked at: what was looked at still comes, and where the
-- look failed nothing was read.
use Rattle.std.proofs.Common.{◌≡◌, ◌≤◌, ◌+◌, ℕ, List, [], length, Bool, true, false, refl, sym, ap, subst, arith}
use Rattle.std.proofs.Common.{Option, Some, None, Err, IfSome, take}
use Rattle.std.proofs.KnownBytes.{Consumes-nil}
use Rattle.std.specs.Io.KnownBytes.{Keeps}
use Rattle.afdx_input_lines.specs.Lines.{GaveWhole, lines_of, whole_lines_of}
use Rattle.afdx_input_lines.specs.Peeking.{looked_at}
use Rattle.afdx_input_lines.specs.declared.frame_line.Heading.{Heading}
use Rattle.afdx_input_lines.specs.declared.fault.RunFault.TheVariants as run
use Rattle.afdx_input_files.specs.Reading.{opening, recorded_from}
use Rattle.afdx_input_sources.specs.Engine.{Item}
use Rattle.afdx_input_sources.specs.ListRun.{ListAnswers}
use Rattle.afdx_input_sources.specs.Lists.{Kind, items_of}
use Rattle.afdx_input_sources.specs.Becoming.{Options}
use Rattle.afdx_input_sources.specs.Claims.{Ports}
use Rattle.afdx_input_runs.specs.InputRun.{is_recorded, is_read_recorded, InputAnswers, IsAskedBy, IsAskedFew}
use Rattle.afdx_input_sources.specs.NumberLines.{arrivals_listed}
use Rattle.afdx_input_sources.specs.Ordering.{forward, handed_on}
use Rattle.afdx_input_runs.specs.RecordingRun.{IsAskedOnce, RecordingAnswers}
use Rattle.afdx_input_sources.specs.Sequences.{read_of_items}
use Rattle.afdx_input_sources.specs.Taking.{late_of_one, sequence_of_bytes}
use Rattle.afdx_input_sources.specs.Timing.{timed}

-- ---- what was looked at still comes

-- of an input that is read by the bytes that are held, by its true first bytes
pub looked-kept : (left looked : Option (List ℕ)) (seen : List ℕ)
    (P : (seen bytes : List ℕ) → Type 0) → Keeps left looked → IfSome left (λ bytes. seen ≡ take looked_at bytes)
    → IfSome looked (λ bytes. P seen bytes) → IfSome left (λ bytes. P (take looked_at bytes) bytes)
looked-kept None looked seen P k e h = tt
looked-kept (Some bytes) None seen P k e h = absurd k
looked-kept (Some bytes) (Some same) seen P k e h =
    subst (λ (xs : List ℕ). P xs bytes) e (subst (λ (xs : List ℕ). P seen xs) k h)

-- so many calls more
later-once : (left rest : Option (List ℕ)) (old between new : ℕ) → between ≤ old
    → IsAskedOnce left rest between new → IsAskedOnce left rest old new
later-once None rest old between new few h = tt
later-once (Some left) None old between new few h = tt
later-once (Some left) (Some rest) old between new few h = omega (arith, few, h)

later-asked : (b : Bool) (left rest : Option (List ℕ)) (old between new : ℕ) → between ≤ old
    → IsAskedBy b left rest between new → IsAskedBy b left rest old new
later-asked true left rest old between new few h = later-once left rest old between new few h
later-asked false left rest old between new few h = omega (arith, few, h)

-- the calls with those that looked
pub looked-asked : (settled : Bool) (left looked rest : Option (List ℕ)) (seen : List ℕ)
    (old between new : ℕ) → Keeps left looked → IfSome left (λ bytes. seen ≡ take looked_at bytes)
    → between ≤ old + looked_at → IsAskedBy (is_recorded settled seen) looked rest between new
    → IsAskedFew settled left rest old new
looked-asked settled None looked rest seen old between new k e few h = tt
looked-asked settled (Some bytes) None rest seen old between new k e few h = absurd k
looked-asked settled (Some bytes) (Some same) rest seen old between new k e few h =
    later-asked (is_read_recorded settled (Some bytes)) (Some bytes) rest (old + looked_at) between new few
    (subst (λ (xs : List ℕ). IsAskedBy (is_recorded settled xs) (Some bytes) rest between new) e
    (subst (λ (xs : List ℕ). IsAskedBy (is_recorded settled seen) (Some xs) rest between new) k h))

-- ---- the look failed

unread-asked : (b : Bool) (left rest : Option (List ℕ)) (old new : ℕ) → Keeps left rest → new ≤ old
    → IsAskedBy b left rest old new
unread-asked true None rest old new k few = tt
unread-asked true (Some bytes) None old new k few = tt
unread-asked true (Some bytes) (Some same) old new k few =
    let n = ap (λ (xs : List ℕ). length xs) k in omega (arith, few, n)
unread-asked false left rest old new k few = omega (arith, few)

-- it was asked at most so often as it is looked at
pub unread-few : (settled : Bool) (left rest : Option (List ℕ)) (old new : ℕ) → Keeps left rest
    → new ≤ old + looked_at → IsAskedFew settled left rest old new
unread-few settled left rest old new k few =
    unread-asked (is_read_recorded settled left) left rest (old + looked_at) new k few

-- nothing is known of a recording of which nothing was read
nothing-known : (options : Options) (ports : Ports)
    → [] ≡ (timed late_of_one options.origin (sequence_of_bytes options ports []).known).lines
unfolding recorded_from opening read_of_items forward handed_on timed
nothing-known options ports = refl

no-lines : arrivals_listed [] ≡ []
unfolding arrivals_listed
no-lines = refl

nothing-whole : (bytes : List ℕ) → GaveWhole (Some bytes) (Some bytes) 0
unfolding whole_lines_of
nothing-whole bytes = record { read = []; consumed = Consumes-nil (Some bytes); counted = refl }

nothing-said : {Said Thing : Type 0} (kind : Kind Said Thing) (lines : List (List ℕ)) → items_of kind lines 0 ≡ []
unfolding items_of
nothing-said kind lines = refl

module _ {Said Thing : Type 0} (kind : Kind Said Thing) (thing : Item Heading → Thing) (options : Options)
    (ports : Ports) (done told begins : List (Item Heading) → Type 0) (start : told []) where
  unread-recording : (bytes : List ℕ)
      → RecordingAnswers options ports done told begins bytes (Some bytes) (Err run.Read)
  unread-recording bytes = (
    [],
    ([], Consumes-nil (Some bytes), nothing-known options ports),
    rw no-lines start,
  )

  unread-list : (bytes : List ℕ)
      → ListAnswers kind thing done told begins bytes (Some bytes) (Err run.Read)
  unread-list bytes = (
    0,
    nothing-whole bytes,
    record {
      within = omega arith;
      sound = λ i lt. absurd (omega arith);
      are_told = rw (nothing-said kind (lines_of bytes)) ([], refl, start);
    },
  )

  unread-input : (b : Bool) (bytes : List ℕ)
      → InputAnswers kind thing (options, ports) done told begins b bytes (Some bytes) (Err run.Read)
  unread-input true bytes = unread-recording bytes
  unread-input false bytes = unread-list bytes

  -- what is answered then
  pub unread-answers : (is : List ℕ → Bool) (left rest : Option (List ℕ)) → Keeps left rest
      → IfSome left
      (λ bytes. InputAnswers kind thing (options, ports) done told begins (is bytes) bytes rest (Err run.Read))
  unread-answers is None rest k = tt
  unread-answers is (Some bytes) None k = absurd k
  unread-answers is (Some bytes) (Some same) k = subst
      (λ (xs : List ℕ). InputAnswers kind thing (options, ports) done told begins (is bytes) bytes (Some xs)
      (Err run.Read)) (sym k) (unread-input (is bytes) bytes)
