-- Where a run over a list stops with a fault, whatever kind it is, and whatever is told of it.
use Rattle.std.specs.Prelude.{ℕ, ◌<◌, ◌≤◌, ◌+◌, ◌⊎◌, List, [], length, Option, Some, slice_index_or}
use Rattle.std.specs.Io.KnownBytes.{Consumes, IsAtEnd}
use Rattle.afdx_police.specs.Arrival.{Arrival}
use Rattle.afdx_input_lines.specs.Lines.{lines_of, longest_line, GaveWhole}
use Rattle.afdx_input_lines.specs.declared.fault.RunFault.{RunFault}
use Rattle.afdx_input_lines.specs.declared.fault.RunFault.TheVariants.{TooManyLines, LineTooLong}
use Rattle.afdx_input_sources.specs.Lists.{Kind, items_of, HaveNoFault, HaveFirstFault}
use Rattle.afdx_input_sources.specs.Listed.{frames}
use Rattle.afdx_input_sources.specs.Causes.{Cause, cause_of, FailedRead, BadInput}

-- the first n lines were read: the input gave at least n whole ones; or nothing of it is left, so
-- that its last line was read too, which may have no line feed
unfoldable pub GaveLines : (old new : Option (List ℕ)) → ℕ → Type 0
GaveLines old new n = IsAtEnd new ⊎ ((whole : ℕ) × (n ≤ whole) × GaveWhole old new whole)

-- this is true of the lines of what was read; or nothing of the input is left
unfoldable pub GavePart : (old new : Option (List ℕ)) → (List (List ℕ) → Type 0) → Type 0
GavePart old new holds =
    IsAtEnd new ⊎ ((read : List ℕ) × Consumes old new read × holds (lines_of read))

-- a fault of the list at line n, counted from 0, was read: of a line that is too long more bytes
-- than a line may have, of one too many its first byte, and else the line
abbrev pub GaveFault : (old new : Option (List ℕ)) → ℕ → RunFault → Type 0
GaveFault old new n (LineTooLong m) =
    GavePart old new (λ lines. longest_line < length (slice_index_or lines n []))
GaveFault old new n TooManyLines = GavePart old new (λ lines. n < length lines)
GaveFault old new n fault = GaveLines old new (n + 1)

module _ {Y X : Type 0} (k : Kind Y X) where
  -- the first n lines have no fault, and this is told of what they say
  pub record IsToldOf (told : List X → Type 0) (lines : List (List ℕ)) (n : ℕ) : Type 0 where
    pub within : n ≤ length lines
    pub sound : HaveNoFault k lines n
    pub are_told : told (items_of k lines n)

  -- the list of these bytes has its first fault at a line, counted from 0, which was read as far as
  -- the fault shows, and this is told of the lines before it
  pub record StopsAtFault (told : List X → Type 0) (bytes : List ℕ) (rest : Option (List ℕ))
      (fault : RunFault) : Type 0 where
    pub line : ℕ
    pub read : GaveFault (Some bytes) rest line fault
    pub first : HaveFirstFault k (lines_of bytes) line fault
    pub are_told : told (items_of k (lines_of bytes) line)

  -- A run over the list of these bytes stops with a fault, after which the input has `rest`. After
  -- a failed read all is told of the lines whose line feed was read. After a failed write, or want
  -- of memory, a beginning is told of some lines that were read. At a fault of the list all is told
  -- of the lines before it.
  abbrev pub StopsAs : (all beginning : List X → Type 0) → List ℕ → Option (List ℕ) →
      RunFault → Cause → Type 0
  StopsAs all beginning bytes rest fault FailedRead =
      (n : ℕ) × GaveWhole (Some bytes) rest n × IsToldOf all (lines_of bytes) n
  StopsAs all beginning bytes rest fault BadInput = StopsAtFault all bytes rest fault
  StopsAs all beginning bytes rest fault _ =
      (n : ℕ) × GaveLines (Some bytes) rest n × IsToldOf beginning (lines_of bytes) n

  abbrev pub StopsIn : (all beginning : List X → Type 0) → List ℕ → Option (List ℕ) →
      RunFault → Type 0
  StopsIn all beginning bytes rest fault =
      StopsAs all beginning bytes rest fault (cause_of fault)

-- a run over a list of frames
abbrev pub StopsAt : (all beginning : List Arrival → Type 0) → List ℕ → Option (List ℕ) →
    RunFault → Type 0
StopsAt all beginning bytes rest fault = StopsIn frames all beginning bytes rest fault
