-- A list as a source: one call more.
use Rattle.std.proofs.Common.{◌≡◌, ℕ, ◌+◌, ◌*◌, ◌≤◌, ◌<◌, List, [], ◌∷◌, ◌++◌, length, map, refl, ap, sym, ◌∙◌, subst}
use Rattle.std.proofs.Common.{Option, Some, None, Ok, IfSome, arith, true, false, ◌⊎◌, inl, inr}
use Rattle.afdx_frame.specs.Times.{latest_listed}
use Rattle.afdx_input_lines.specs.Calls.{is_read}
use Rattle.afdx_input_lines.specs.Faults.{fault_at, IsErrorOf}
use Rattle.afdx_input_lines.specs.Lines.{CanStop, HasNoFeed, IsHonest, StopsBy, TakesBytes, TakesLine, latest_line, left}
use Rattle.afdx_input_lines.specs.Lines.{lines_taken, longest_line, most_lines, most_reads, reads_of_line, unread}
use Rattle.afdx_input_lines.specs.declared.fault.RunFault.{RunFault}
use Rattle.afdx_input_lines.specs.declared.fault.RunFault.TheVariants as run
use Rattle.afdx_input_lines.specs.declared.fault.LineError.{LineError}
use Rattle.afdx_input_lines.specs.declared.fault.LineError.TheVariants as line
use Rattle.afdx_input_lines.specs.declared.fault.LineFault.TheVariants as says
use Rattle.std.proofs.lemmas.Bool.Decides.{leb_tells}
use Rattle.std.proofs.Math.Dec.{leb}
use Rattle.afdx_input_lines.specs.declared.line_reader.LineReader.{LineReader}
use Rattle.afdx_input_lines.specs.declared.watched.Watched.{Watched}
use Rattle.afdx_input_lines.proofs.WholeLemmas.{HasTaken-start, HasTaken-next, HasTaken-stop}
use Rattle.afdx_input_sources.specs.Engine.{Item}
use Rattle.afdx_input_sources.specs.Lists.{Kind}
use Rattle.afdx_input_sources.specs.ListSource.{GaveOf, StoppedOf, IsUnread}
use Rattle.afdx_input_sources.specs.Stops.{GaveLines, StopsIn}
use Rattle.afdx_input_sources.proofs.RunLemmas.{IsTaken, HasCome-start, HasCome-next, GaveLines-taken}
use Rattle.afdx_input_sources.proofs.RunLemmas.{stops-line, stops-reader}

-- what `next_line` ensures where it took a line
pub record TookLine {R : Type 0} (remaining : R → Option (List ℕ)) (before : LineReader) (old : Watched R)
    (after : LineReader) (new : Watched R) : Type 0 where
  pub sound : new.failed ≡ false
  pub honest : IsHonest remaining new
  pub line : TakesLine (left remaining before old) (left remaining after new) (latest_line after)
  pub short : length (latest_line after) ≤ longest_line
  pub lines : (lines_taken after ≡ lines_taken before + 1) × (lines_taken after ≤ most_lines)
  pub whole : new.ended ≡ false → (old.ended ≡ false) × HasNoFeed (latest_line after)
      × TakesBytes (remaining old.inner) (remaining new.inner) (unread before) (unread after)
      (latest_line after ++ 10 ∷ [])
  pub calls : new.calls ≤ old.calls + reads_of_line

-- a line that can't be read is no failed read
not_read : (n : ℕ) (error : LineError) → is_read (fault_at n error) ≡ false
not_read n line.Memory = refl
not_read n (line.Fault says.BadLine) = refl
not_read n (line.Fault says.BadHex) = refl
not_read n (line.Fault says.TimeBack) = refl
not_read n (line.Fault says.TimeTooLarge) = refl
not_read n (line.Fault says.BadPort) = refl

-- the calls up to one that gives no line
calls_by : (first n old new : ℕ) → n ≤ most_lines → old ≤ first + reads_of_line * n
    → new ≤ old + reads_of_line → (most_lines ≤ n → new ≤ old + 1)
    → (most_lines ≤ n) ⊎ (n < most_lines) → new ≤ first + most_reads
calls_by first n old new few so_far more last (inl all) = omega (arith, few, so_far, last all)
calls_by first n old new few so_far more last (inr some) = omega (arith, some, so_far, more)

at_most : (n : ℕ) → ((leb most_lines n ≡ true) × (most_lines ≤ n)) ⊎ ((leb most_lines n ≡ false) × (n < most_lines))
    → (most_lines ≤ n) ⊎ (n < most_lines)
at_most n (inl h) = inl h.1
at_most n (inr h) = inr h.1

-- what `next_line` ensures of its calls
pub calls-bound : (first n old new : ℕ) → n ≤ most_lines → old ≤ first + reads_of_line * n
    → new ≤ old + reads_of_line → (most_lines ≤ n → new ≤ old + 1) → new ≤ first + most_reads
calls-bound first n old new few so_far more last =
    calls_by first n old new few so_far more last (at_most n (leb_tells most_lines n))

module _ {H R Y X : Type 0} (k : Kind Y X) (said : Item H → X) (remaining : R → Option (List ℕ)) where
  pub gave-start : (start : Watched R) (reader : LineReader) (latest : ℕ) → IsUnread reader latest
      → start.failed ≡ false → start.ended ≡ false → GaveOf k said remaining start reader latest start []
  gave-start start reader latest new sound unended = record {
    sound = sound;
    honest = λ e. cc;
    few = omega (arith, new.lines);
    fewer = omega arith;
    early = omega (arith, new.time);
    latest_is = new.time;
    calls = omega arith;
    taken = λ e. HasTaken-start _ _ _ new.unread new.lines;
    come = rw new.time (HasCome-start k _ _ _ new.lines new.unread);
  }

  module _ (start old new : Watched R) (before after : LineReader) (latest : ℕ) (past : List (Item H))
      (gave : GaveOf k said remaining start before latest old past)
      (took : TookLine remaining before old after new) where
    is-taken : IsTaken (lines_taken before) (latest_line after) (left remaining before old) (left remaining after new)
    is-taken = record {
      few = omega (arith, took.lines.0, took.lines.1);
      short = took.short;
      takes = took.line;
    }

    -- a line that says nothing
    pub gave-skip : k.says latest (latest_line after) ≡ Ok None
        → GaveOf k said remaining start after latest new past
    gave-skip none = record {
      sound = took.sound;
      honest = took.honest;
      few = took.lines.1;
      fewer = omega (arith, took.lines.0, gave.fewer);
      early = gave.early;
      latest_is = gave.latest_is;
      calls = omega (arith, took.lines.0, took.calls, gave.calls);
      taken = HasTaken-next _ _ _ _ _ _ _ _ _ _ took.lines.0 gave.taken took.whole;
      come = HasCome-next k (map said past) _ _ _ _ _ _ _ _ None took.lines.0 is-taken gave.come none gave.latest_is;
    }

    -- a line that says this item, of this time
    pub gave-item : (x : Item H) (y : Y) (time : ℕ) → k.says latest (latest_line after) ≡ Ok (Some y)
        → said x ≡ k.item (lines_taken after) y → time ≡ k.time (said x) → time ≤ latest_listed
        → GaveOf k said remaining start after time new (x ∷ past)
    gave-item x y time says same time_is early = record {
      sound = took.sound;
      honest = took.honest;
      few = took.lines.1;
      fewer = omega (arith, took.lines.0, gave.fewer);
      early = early;
      latest_is = time_is;
      calls = omega (arith, took.lines.0, took.calls, gave.calls);
      taken = HasTaken-next _ _ _ _ _ _ _ _ _ _ took.lines.0 gave.taken took.whole;
      come = rw same (HasCome-next k (map said past) _ _ _ _ _ _ _ _ (Some y) took.lines.0 is-taken
          gave.come says (time_is ∙ ap k.time same));
    }

    -- a line that can't be read
    pub stopped-line : (error : LineError) → IsErrorOf (k.says latest (latest_line after)) error
        → StoppedOf k said remaining start new past (fault_at (lines_taken after) error)
    stopped-line error says =
        let gave_lines = GaveLines-taken _ _ _ _ _
        (HasTaken-next _ _ _ _ _ _ _ _ _ _ took.lines.0 gave.taken took.whole)
        took.honest in
        let is = ap (λ (n : ℕ). fault_at n error) took.lines.0 in
        record {
          failed = took.sound ∙ sym (not_read (lines_taken after) error);
          calls = omega (arith, took.lines.0, took.lines.1, took.calls, gave.calls);
          stops = subst (λ (f : RunFault). IfSome (remaining start.inner)
              (λ bytes. StopsIn k (λ xs. xs ≡ map said past) (λ xs. xs ≡ map said past) bytes
              (remaining new.inner) f)) (sym is)
              (stops-line k (map said past) latest (lines_taken before) (λ xs. xs ≡ map said past)
              (λ xs. xs ≡ map said past) _ _ _ _ _ error says
              is-taken gave.come
              (subst (λ (n : ℕ). GaveLines (remaining start.inner) (remaining new.inner) n) took.lines.0 gave_lines)
              refl refl);
        }

  module _ (start old new : Watched R) (before after : LineReader) (latest : ℕ) (past : List (Item H))
      (gave : GaveOf k said remaining start before latest old past) where
    -- the reader stopped
    pub stopped-reader : (fault : RunFault) → CanStop fault (lines_taken before) (left remaining before old)
        → new.failed ≡ is_read fault
        → (fault ≡ run.Read → (old.ended ≡ false) × HasNoFeed (unread after)
        × TakesBytes (remaining old.inner) (remaining new.inner) (unread before) (unread after) [])
        → IsHonest remaining new → StopsBy fault old.ended new.ended (remaining old.inner) (remaining new.inner)
        (unread before) (unread after)
        → new.calls ≤ old.calls + reads_of_line → (most_lines ≤ lines_taken before → new.calls ≤ old.calls + 1)
        → StoppedOf k said remaining start new past fault
    stopped-reader fault can failed read honest by calls last = record {
      failed = failed;
      calls = calls-bound _ _ _ _ gave.few gave.calls calls last;
      stops = stops-reader k (map said past) latest (lines_taken before) (λ xs. xs ≡ map said past)
          (λ xs. xs ≡ map said past) _ _ _ _ _ _ _ _ fault gave.come can
          (λ e. let h = read e in HasTaken-stop _ _ _ _ _ _ h.1 (gave.taken h.0) h.2) gave.taken honest by refl;
    }
