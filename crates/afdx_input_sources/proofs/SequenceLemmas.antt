-- A recording as a source: one call more.
use Rattle.std.proofs.Common.{◌≡◌, ℕ, ◌+◌, List, [], ◌∷◌, ◌++◌, append_assoc, append-nil, refl, ap, sym, ◌∙◌}
use Rattle.std.proofs.Common.{Result, Ok, Err, false, length}
use Rattle.afdx_input_lines.specs.declared.recording_fault.RecordingFault.{RecordingFault}
use Rattle.afdx_input_files.specs.Holding.{Standing, Gives}
use Rattle.afdx_input_files.specs.Reading.{recorded, recorded_from, CanFollow, SaysFirst, SaysEnding, SaysNothing}
use Rattle.afdx_input_files.specs.Recordings.{State, Numbered, Recording, Totals, Ending, Over, Faulted, in_front, no_more}
use Rattle.afdx_input_files.proofs.HeldLemmas.{Gives-then}
use Rattle.afdx_input_sources.specs.Engine.{item_of}
use Rattle.afdx_input_sources.specs.declared.number.Number.{Number}
use Rattle.afdx_input_sources.specs.Becoming.{Options, first_bytes}
use Rattle.afdx_input_sources.specs.Claims.{Ports}
use Rattle.afdx_input_sources.specs.Sequences.{Numbers, Outcome, as_read, read_from, read_of_items, number_after}
use Rattle.afdx_input_sources.specs.Sequences.{and_then, ending_after, has_no_arrival, with_number}
use Rattle.afdx_input_sources.specs.RecordingSource.{Sorts, IsFaultBehind, AreAllOfRead, AreFirst}

module _ (options : Options) (ports : Ports) where
  -- one number more
  pub read-ok : (past : Numbers) (number : Number) (item : Numbered) (rest : Recording)
      → number_after options ports past item ≡ Ok number
      → read_from options ports past (in_front item rest)
      ≡ read_from options ports (with_number past item.bytes number) rest
  unfolding read_of_items
  read-ok past number item rest e = rw e refl

  -- or its fault
  pub read-err : (past : Numbers) (item : Numbered) (rest : Recording) (fault : RecordingFault)
      → number_after options ports past item ≡ Err fault
      → read_from options ports past (in_front item rest)
      ≡ record { numbers = past; ending = Faulted fault; totals = rest.totals }
  unfolding read_of_items
  read-err past item rest fault e = rw e refl

  -- or no number
  pub read-none : (past : Numbers) (ending : Ending) (totals : Totals)
      → read_from options ports past (no_more ending totals)
      ≡ record { numbers = past; ending = ending_after past ending; totals = totals }
  unfolding read_of_items
  read-none past ending totals = refl

  module _ (first old new : Standing) (past : Numbers) (before : State)
      (s : Sorts options ports first old past before) where
    -- what was given besides, and what follows
    pub behind : (given more : List ℕ) → as_read options ports (recorded ((s.read ++ given) ++ more))
        ≡ read_from options ports past (recorded_from before ((old.held ++ given) ++ more))
    behind given more =
        ap (λ bytes. as_read options ports (recorded bytes)) (append_assoc s.read given more)
        ∙ s.says (given ++ more)
        ∙ ap (λ bytes. read_from options ports past (recorded_from before bytes))
        (sym (append_assoc old.held given more))

    -- the next number was sorted
    unfoldable pub sorts-more : (after : State) (item : Numbered) (number : Number)
        → SaysFirst old new before after item → number_after options ports past item ≡ Ok number
        → Sorts options ports first new (with_number past item.bytes number) after
    sorts-more after item number f e = record {
      read = s.read ++ f.given;
      gives = Gives-then first old new s.read f.given s.gives f.gives;
      says = λ bytes. behind f.given bytes
          ∙ ap (λ r. read_from options ports past r) (f.says bytes)
          ∙ read-ok past number item (recorded_from after (new.held ++ bytes)) e;
    }

    -- it is a fault
    unfoldable pub sorts-fault : (after : State) (item : Numbered) (fault : RecordingFault)
        → SaysFirst old new before after item → number_after options ports past item ≡ Err fault
        → IsFaultBehind options ports first new past fault
    sorts-fault after item fault f e =
        let is = λ (more : List ℕ). behind f.given more
        ∙ ap (λ r. read_from options ports past r) (f.says more)
        ∙ read-err past item (recorded_from after (new.held ++ more)) fault e in record {
          read = s.read ++ f.given;
          gives = Gives-then first old new s.read f.given s.gives f.gives;
          numbers = λ more follows. ap (λ (o : Outcome). o.numbers) (is more);
          ending = λ more follows. ap (λ (o : Outcome). o.ending) (is more);
        }

    -- the recording ends so, whatever can follow
    pub ends : (ending : Ending) (totals : Totals) (e : SaysEnding old new before ending totals) (more : List ℕ)
        → CanFollow new more → as_read options ports (recorded ((s.read ++ e.given) ++ more))
        ≡ record { numbers = past; ending = ending_after past ending; totals = totals }
    ends ending totals e more follows =
        behind e.given more
        ∙ ap (λ r. read_from options ports past r) (e.says more follows)
        ∙ read-none past ending totals

    -- with a fault, its own or that no number is an arrival
    unfoldable pub ends-fault : (ending : Ending) (totals : Totals) (fault : RecordingFault)
        → SaysEnding old new before ending totals → ending_after past ending ≡ Faulted fault
        → IsFaultBehind options ports first new past fault
    ends-fault ending totals fault e is = record {
      read = s.read ++ e.given;
      gives = Gives-then first old new s.read e.given s.gives e.gives;
      numbers = λ more follows. ap (λ (o : Outcome). o.numbers) (ends ending totals e more follows);
      ending = λ more follows. ap (λ (o : Outcome). o.ending) (ends ending totals e more follows) ∙ is;
    }

    -- well
    pub ends-well : (totals : Totals) (e : SaysEnding old new before Over totals) → has_no_arrival past ≡ false
        → as_read options ports (recorded (s.read ++ e.given))
        ≡ record { numbers = past; ending = Over; totals = totals }
    ends-well totals e arrival =
        ap (λ bytes. as_read options ports (recorded bytes)) (sym (append-nil (s.read ++ e.given)))
        ∙ ends Over totals e [] (λ ended. refl)
        ∙ rw arrival refl

    pub ends-gives : (ending : Ending) (totals : Totals) (e : SaysEnding old new before ending totals)
        → Gives first new (s.read ++ e.given)
    ends-gives ending totals e = Gives-then first old new s.read e.given s.gives e.gives

    -- a read failed
    unfoldable pub sorts-read : SaysNothing old new before → AreAllOfRead options ports first new past
    sorts-read n = record {
      read = s.read ++ n.given;
      gives = Gives-then first old new s.read n.given s.gives n.gives;
      numbers = ap (λ (o : Outcome). o.numbers)
          (s.says n.given ∙ ap (λ r. read_from options ports past r) n.says
          ∙ read-none past n.ending n.totals);
    }

  -- ---- what was given are the first of all numbers

  abbrev Extends : Numbers → Numbers → Type 0
  Extends all past = (later : Numbers) × (all ≡ later ++ past)

  and-extends : (past : Numbers) (r : Result Number RecordingFault) (bytes : List ℕ) (next : Number → Outcome)
      (totals : Totals) → ((number : Number) → Extends (next number).numbers (with_number past bytes number))
      → Extends (and_then next past totals r).numbers past
  and-extends past (Ok number) bytes next totals g =
      let h = g number in
      let x = item_of (length past + 1) number (first_bytes bytes) in
      (h.0 ++ x ∷ [], h.1 ∙ sym (append_assoc h.0 (x ∷ []) past))
  and-extends past (Err fault) bytes next totals g = ([], refl)

  items-extends : (ending : Ending) (totals : Totals) (past : Numbers) (items : List Numbered)
      → Extends (read_of_items options ports ending totals past items).numbers past
  unfolding read_of_items
  items-extends ending totals past [] = ([], refl)
  items-extends ending totals past (item ∷ items) =
      and-extends past (number_after options ports past item) item.bytes
      (λ number. read_of_items options ports ending totals (with_number past item.bytes number) items) totals
      (λ number. items-extends ending totals (with_number past item.bytes number) items)

  pub sorts-first : (first now : Standing) (past : Numbers) (state : State)
      → Sorts options ports first now past state → AreFirst options ports first past
  sorts-first first now past state s = record {
    read = s.read;
    left = now.left;
    consumed = s.gives.consumed;
    numbers = λ more.
        let rest = recorded_from state (now.held ++ more) in
        let h = items-extends rest.ending rest.totals past rest.items in
        (h.0, ap (λ (o : Outcome). o.numbers) (s.says more) ∙ h.1);
  }
