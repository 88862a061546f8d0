-- What a run takes of its input, whatever that is, and how much is told of it.
use Rattle.std.specs.Prelude.{ℕ, ◌≡◌, ◌≤◌, ◌⊎◌, Bool, true, false, List, [], ◌∷◌, map, Option, Some}
use Rattle.std.specs.Prelude.{Result, Ok, Err}
use Rattle.afdx_frame.specs.declared.by_side.BySide.{BySide}
use Rattle.afdx_police.specs.Arrival.{Arrival}
use Rattle.afdx_input_lines.specs.FrameLines.{listed_frame}
use Rattle.afdx_input_lines.specs.Lines.{lines_of}
use Rattle.afdx_input_lines.specs.Peeking.{is_untouched, left_in}
use Rattle.afdx_input_lines.specs.Watching.{calls_of, device_of, has_ended, has_failed}
use Rattle.afdx_input_lines.specs.declared.fault.RunFault.{RunFault}
use Rattle.afdx_input_lines.specs.declared.frame_line.Heading.{Heading}
use Rattle.afdx_input_lines.specs.declared.peeked.Peeked.{Peeked}
use Rattle.afdx_input_lines.specs.declared.watched.Watched.{Watched}
use Rattle.afdx_input_sources.specs.Causes.{Cause, cause_of, FailedWrite, NoMemory}
use Rattle.afdx_input_sources.specs.Engine.{Item}
use Rattle.afdx_input_sources.specs.Items.{thing_of}
use Rattle.afdx_input_sources.specs.Listed.{frames}
use Rattle.afdx_input_sources.specs.ListRun.{IsDone}
use Rattle.afdx_input_sources.specs.Lists.{Kind, latest_in}
use Rattle.afdx_input_sources.specs.Stops.{StopsIn}
use Rattle.afdx_input_sources.specs.Becoming.{Options, options_of}
use Rattle.afdx_input_sources.specs.Claims.{Ports}
use Rattle.afdx_input_sources.specs.NumberLines.{AreItems, Lines, arrivals_listed}
use Rattle.afdx_input_sources.specs.Taking.{Taken, AreCutOff, taken_of_bytes}
use Rattle.afdx_input_sources.specs.declared.becoming.RecordingOptions.{RecordingOptions}
use Rattle.afdx_input_sources.specs.declared.pair_options.PairOptions.{PairOptions}
use Rattle.afdx_input_runs.specs.InputRun.{is_read_recorded, IsAskedFew}
use Rattle.afdx_input_runs.specs.RecordingRun.{AreCutOffInPair, IsAskedOnceFor, taken_of_pair}
use Rattle.afdx_input_runs.specs.Over.{TakesLines}
use Rattle.afdx_input_runs.specs.declared.input_run.InputCount.{InputCount}
use Rattle.afdx_input_runs.specs.declared.input_run.InputCount.TheVariants as count

-- By a run's answer: Ok, all is so to the end; after a failed write, or want of memory, some is; at
-- any other fault, all so far.
abbrev pub ByCause : Cause → (so_far some : Type 0) → Type 0
ByCause FailedWrite so_far some = some
ByCause NoMemory so_far some = some
ByCause _ so_far some = so_far

abbrev pub By : {X : Type 0} → Result X RunFault → (all so_far some : Type 0) → Type 0
By (Ok x) all so_far some = all
By (Err fault) all so_far some = ByCause (cause_of fault) so_far some

-- A run with this answer has taken some items, and by the answer these were told: to the end, all
-- of them, or all or a beginning.
abbrev pub TookAndTold : {H X : Type 0} → (takes : List (Item H) → Result X RunFault → Type 0) →
    Result X RunFault → (done told begins : List (Item H) → Type 0) → Type 0
TookAndTold {H} takes answer done told begins =
    (items : List (Item H)) × takes items answer
    × By answer (done items) (told items) (told items ⊎ begins items)

-- ---- what is taken of a list

-- with this answer a run has taken these items of a list of these bytes, after which its input has
-- `rest`
abbrev pub ListTaking : Type 1
ListTaking =
    List ℕ → (rest : Option (List ℕ)) → List (Item Heading) → Result ℕ RunFault → Type 0

-- so it is with lists of some kind, of whose lines an item says this
abbrev pub TakesKind : {Y X : Type 0} → Kind Y X → (said : Item Heading → X) → List ℕ →
    (rest : Option (List ℕ)) → List (Item Heading) → Result ℕ RunFault → Type 0
TakesKind k said bytes rest past (Ok n) =
    IsDone k (λ all. all ≡ map said past) n (lines_of bytes)
TakesKind k said bytes rest past (Err fault) =
    StopsIn k (λ all. all ≡ map said past) (λ all. all ≡ map said past) bytes rest fault

-- with lists whose lines have a form
abbrev pub TakesForm : {F Y X : Type 0} → (F → Kind Y X) → (says_of : Heading → List ℕ → Y) →
    F → ListTaking
TakesForm kind says_of form = TakesKind (kind form) (thing_of (kind form) says_of)

-- with lists of frames of one switch
abbrev pub TakesFrames : ListTaking
TakesFrames = TakesKind frames (thing_of frames listed_frame)

-- ---- with this answer a run has taken the arrivals of these items

-- of the whole `whole` of recordings; `AreCut` says what was read until a read failed
abbrev pub TakesRecorded : (whole : Taken) → (AreCut : Lines → Type 0) → List (Item Heading) →
    Result InputCount RunFault → Type 0
TakesRecorded whole AreCut past (Ok (count.Recorded tally)) =
    AreItems arrivals_listed (λ lines. TakesLines whole AreCut lines (Ok tally)) past
TakesRecorded whole AreCut past (Ok (count.Lines n)) = ⊥
TakesRecorded whole AreCut past (Err fault) =
    AreItems arrivals_listed (λ lines. TakesLines whole AreCut lines (Err fault)) past

-- of a list of which this is taken
abbrev pub TakesListed : (taken : Result ℕ RunFault → Type 0) → Result InputCount RunFault → Type 0
TakesListed taken (Ok (count.Lines n)) = taken (Ok n)
TakesListed taken (Ok (count.Recorded tally)) = ⊥
TakesListed taken (Err fault) = taken (Err fault)

-- of an input of these bytes: a recording (true), or a list, of which `listed` is taken
abbrev pub TakesAs : (listed : ListTaking) → Bool → Options → Ports → List ℕ →
    (rest : Option (List ℕ)) → List (Item Heading) → Result InputCount RunFault → Type 0
TakesAs listed true options ports bytes rest past answer =
    TakesRecorded (taken_of_bytes options ports bytes) (AreCutOff options ports bytes rest)
    past answer
TakesAs listed false options ports bytes rest past answer =
    TakesListed (listed bytes rest past) answer

module _ {R : Type 0} (remaining : R → Option (List ℕ)) where
  -- so its first bytes decide
  abbrev pub TakesOne : (listed : ListTaking) → RecordingOptions → Ports → List ℕ →
      (rest : Watched (Peeked R)) → List (Item Heading) → Result InputCount RunFault → Type 0
  TakesOne listed options ports bytes rest past answer =
      TakesAs listed (is_read_recorded options.are_given (Some bytes)) (options_of options) ports
      bytes (left_in remaining (device_of rest)) past answer

  -- of two recordings of these bytes
  abbrev pub TakesTwo : PairOptions → Ports → (both : List ℕ × List ℕ) →
      (rest : BySide (Watched R)) → List (Item Heading) → Result InputCount RunFault → Type 0
  TakesTwo options ports both rest past answer =
      TakesRecorded (taken_of_pair options ports both.0 both.1)
      (AreCutOffInPair options ports remaining both.0 both.1 rest) past answer

  -- ---- how often they are asked, from the first to the last

  abbrev pub IsAskedForOne : (has_to_be : Bool) → (first last : Watched (Peeked R)) → Type 0
  IsAskedForOne has_to_be first last =
      IsAskedFew has_to_be (left_in remaining (device_of first))
      (left_in remaining (device_of last)) (calls_of first) (calls_of last)

  abbrev pub IsAskedForEach : (first last : BySide (Watched R)) → Type 0
  IsAskedForEach first last =
      IsAskedOnceFor remaining first.a last.a × IsAskedOnceFor remaining first.b last.b

-- ---- nothing was asked yet

pub record IsSound {R : Type 0} (input : Watched R) : Type 0 where
  pub sound : has_failed input ≡ false
  pub unended : has_ended input ≡ false

pub record IsNewOne {R : Type 0} (input : Watched (Peeked R)) : Type 0 where
  pub untouched : is_untouched (device_of input)
  pub fresh : IsSound input

pub record AreNewTwo {R : Type 0} (inputs : BySide (Watched R)) : Type 0 where
  pub a : IsSound inputs.a
  pub b : IsSound inputs.b

-- ---- of all arrivals that a run takes

-- the times of these arrivals, of which the newest is the first, don't go back
abbrev pub DontGoBack : List Arrival → Type 0
DontGoBack [] = Unit {0}
DontGoBack (x ∷ past) = (latest_in frames past ≤ x.time) × DontGoBack past
