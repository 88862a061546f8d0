-- What a lister wrote: one line more.
use Rattle.std.proofs.Common.{List, [], ◌∷◌, Option, Some, None, Result, IfSome, ◌⊎◌, inl, inr}
use Rattle.afdx_input_lines.specs.declared.fault.RunFault.{RunFault}
use Rattle.afdx_input_sources.specs.NumberLines.{Lines}
use Rattle.afdx_input_sources.specs.declared.counts.Tally.{Tally}
use Rattle.afdx_input_runs.specs.Arrivals.{TookAndTold}
use Rattle.afdx_input_runs.proofs.ArrivalsLemmas.{by-more}
use Rattle.std.proofs.KnownBytes.{Appends-nil, Appends-trans}
use Rattle.std.specs.Io.KnownBytes.{Appends}
use Rattle.afdx_input_lines.specs.Calls.{AppendsFront}
use Rattle.afdx_input_sources.specs.Engine.{Bytes, Item}
use Rattle.afdx_text.proofs.OutputLemmas.{front-more}
use Rattle.afdx_input_sources.specs.declared.number_line.NumberLine.{NumberLine}
use Rattle.afdx_config.specs.declared.describing.Described.{Described}
use Rattle.afdx_input_runs.specs.ListText.{Lists, WritesLines, WritesSomeLines, list_text, number_text}

-- nothing is written yet
pub lines-start : (d : Described) (old : Bytes) → WritesLines d old old []
unfolding list_text
lines-start d old = Appends-nil old

-- one line more
pub lines-told : (d : Described) (start old new : Bytes) (past : List (Item NumberLine)) (x : Item NumberLine)
    → WritesLines d start old past → Appends old new (number_text d x.number x.head x.bytes)
    → WritesLines d start new (x ∷ past)
unfolding list_text
lines-told d start old new past x told line =
    Appends-trans start old new (list_text d past) (number_text d x.number x.head x.bytes) told line

-- or a beginning of it
pub lines-begun : (d : Described) (start old new : Bytes) (past : List (Item NumberLine)) (x : Item NumberLine)
    → WritesLines d start old past → AppendsFront old new (number_text d x.number x.head x.bytes)
    → WritesSomeLines d start new (x ∷ past)
unfolding list_text
lines-begun d start old new past x told line =
    front-more start old new (list_text d past) (number_text d x.number x.head x.bytes) told line

-- ---- what a lister told of a configuration, where it is said which that is

module _ (d : Described) (is : Type 0) (old new : Bytes) (r : Result Tally RunFault) where
  abbrev Tells : (takes : Lines → Result Tally RunFault → Type 0) → Type 0
  Tells takes =
      TookAndTold takes r (WritesLines d old new) (λ past. is × WritesLines d old new past) (WritesSomeLines d old new)

  some : (lines : Lines) → (is × WritesLines d old new lines) ⊎ WritesSomeLines d old new lines
      → WritesLines d old new lines ⊎ WritesSomeLines d old new lines
  some lines (inl h) = inl h.1
  some lines (inr h) = inr h

  lists-of : (takes : Lines → Result Tally RunFault → Type 0) → Tells takes → Lists d takes old new r
  lists-of takes (lines, taken, said) =
      let writes = WritesLines d old new lines in
      let begins = WritesSomeLines d old new lines in (
        lines,
        taken,
        by-more r writes (is × writes) ((is × writes) ⊎ begins) writes writes (writes ⊎ begins)
            (λ h. h) (λ h. h.1) (λ h. some lines h) said,
      )

  pub if-lists : {B : Type 0} (known : Option B) (takes : B → Lines → Result Tally RunFault → Type 0)
      → IfSome known (λ bytes. Tells (takes bytes)) → IfSome known (λ bytes. Lists d (takes bytes) old new r)
  if-lists None takes h = tt
  if-lists (Some bytes) takes h = lists-of (takes bytes) h
