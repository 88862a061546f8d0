-- What is known of a list as a source, from call to call, whatever kind of list it is.
use Rattle.std.specs.Prelude.{ℕ, ◌≡◌, ◌≤◌, ◌+◌, ◌*◌, List, [], length, map, Option, IfSome, true, false}
use Rattle.std.specs.Io.KnownBytes.{IsAtEnd}
use Rattle.afdx_frame.specs.Times.{latest_listed}
use Rattle.afdx_input_lines.specs.Calls.{is_read}
use Rattle.afdx_input_lines.specs.Lines.{HasTaken, IsHonest, left, lines_taken, most_lines, most_reads, reads_of_line}
use Rattle.afdx_input_lines.specs.Lines.{unread}
use Rattle.afdx_input_lines.specs.declared.fault.RunFault.{RunFault}
use Rattle.afdx_input_lines.specs.declared.line_reader.LineReader.{LineReader}
use Rattle.afdx_input_lines.specs.declared.watched.Watched.{Watched}
use Rattle.afdx_input_sources.specs.Engine.{Item, item_of}
use Rattle.afdx_input_sources.specs.Items.{thing_of}
use Rattle.afdx_input_sources.specs.Lists.{Kind, latest_in}
use Rattle.afdx_input_sources.specs.Progress.{HasComeIn}
use Rattle.afdx_input_sources.specs.Stops.{StopsIn}
use Rattle.afdx_input_sources.specs.declared.read_list.ReadList.{ReadList}

-- nothing was read yet
pub record IsUnread (reader : LineReader) (latest : ℕ) : Type 0 where
  pub unread : unread reader ≡ []
  pub lines : lines_taken reader ≡ 0
  pub time : latest ≡ 0

module _ {H R Y X : Type 0} (k : Kind Y X) (said : Item H → X)
    (remaining : R → Option (List ℕ)) where
  -- these items were given, the last of them at the latest time
  pub record GaveOf (start : Watched R) (reader : LineReader) (latest : ℕ) (input : Watched R)
      (past : List (Item H)) : Type 0 where
    pub sound : input.failed ≡ false
    pub honest : IsHonest remaining input
    pub few : lines_taken reader ≤ most_lines
    pub fewer : length past ≤ lines_taken reader
    pub early : latest ≤ latest_listed
    pub latest_is : latest ≡ latest_in k (map said past)
    pub calls : input.calls ≤ start.calls + reads_of_line * lines_taken reader
    pub taken : input.ended ≡ false
        → HasTaken (remaining start.inner) (remaining input.inner) (unread reader)
        (lines_taken reader)
    pub come : HasComeIn k (map said past) latest (lines_taken reader)
        (remaining start.inner) (left remaining reader input)

  -- and these are all
  pub record EndedOf (start : Watched R) (reader : LineReader) (latest : ℕ) (input : Watched R)
      (past : List (Item H)) : Type 0 where
    pub sound : input.failed ≡ false
    pub ended : input.ended ≡ true
    pub calls : input.calls ≤ start.calls + most_reads
    pub last : IsAtEnd (remaining input.inner)
    pub rest : Option (List ℕ)
    pub done : IsAtEnd rest
    pub come : HasComeIn k (map said past) latest (lines_taken reader)
        (remaining start.inner) rest

  -- or this fault stands behind them
  pub record StoppedOf (start : Watched R) (input : Watched R) (past : List (Item H))
      (fault : RunFault) : Type 0 where
    pub failed : input.failed ≡ is_read fault
    pub calls : input.calls ≤ start.calls + most_reads
    pub stops : IfSome (remaining start.inner)
        (λ bytes. StopsIn k (λ xs. xs ≡ map said past) (λ xs. xs ≡ map said past)
        bytes (remaining input.inner) fault)

-- the item of the line that was read last
abbrev pub item_given : {F H : Type 0} → ReadList F H → Item H
item_given list = item_of (lines_taken list.reader) list.head list.bytes.items

-- the same of a list with its head, whose lines are of a form
module _ {F H R Y X : Type 0} (IsForm : F → Type 0) (kind : F → Kind Y X)
    (says_of : H → List ℕ → Y) (time_of : H → ℕ) (remaining : R → Option (List ℕ)) where
  pub record HasGiven (start : Watched R) (list : ReadList F H) (input : Watched R)
      (past : List (Item H)) : Type 0 where
    pub form : IsForm list.form
    pub gave : GaveOf (kind list.form) (thing_of (kind list.form) says_of) remaining
        start list.reader (time_of list.head) input past

module _ {F H R Y X : Type 0} (kind : F → Kind Y X) (says_of : H → List ℕ → Y)
    (time_of : H → ℕ) (remaining : R → Option (List ℕ)) where
  abbrev pub HasEnded : Watched R → ReadList F H → Watched R → List (Item H) → Type 0
  HasEnded start list input past =
      EndedOf (kind list.form) (thing_of (kind list.form) says_of) remaining
      start list.reader (time_of list.head) input past

abbrev pub HasStopped : {F H R Y X : Type 0} → (F → Kind Y X) → (H → List ℕ → Y) →
    (R → Option (List ℕ)) → Watched R → ReadList F H → Watched R → List (Item H) → RunFault → Type 0
HasStopped kind says_of remaining start list input past fault =
    StoppedOf (kind list.form) (thing_of (kind list.form) says_of) remaining start input past fault
