-- What a replay of several switches a side does, whatever gives it its frames.
use Rattle.std.specs.Prelude.{ℕ, ◌≡◌, List, Option, Result, IfSome}
use Rattle.afdx_command_tables.specs.declared.summary.Summary.{Summary}
use Rattle.afdx_config.specs.Switches.{NamedRows}
use Rattle.afdx_input_sources.specs.Engine.{CanTell, Item}
use Rattle.afdx_input_sources.specs.Items.{thing_of}
use Rattle.afdx_input_sources.specs.Placing.{IsAtOpenPort}
use Rattle.afdx_input_runs.specs.Arrivals.{By, ListTaking, TakesKind}
use Rattle.afdx_input_runs.specs.declared.input_run.InputCount.{InputCount}
use Rattle.afdx_input_lines.specs.SitedLines.{sited_frame}
use Rattle.afdx_input_lines.specs.declared.fault.RunFault.{RunFault}
use Rattle.afdx_input_lines.specs.declared.frame_line.Heading.{Heading}
use Rattle.afdx_input_lines.specs.declared.watched.Watched.{Watched}
use Rattle.afdx_input_sources.specs.Claims.{Ports, ports_of_several}
use Rattle.afdx_replay.specs.Inputs.{Taking, answer_of}
use Rattle.afdx_replay.specs.cascading.Ran.{AllIsTold, AllSoFarIsTold, SomeIsTold, lists}
use Rattle.afdx_replay.specs.cascading.Sited.{lines_in}
use Rattle.afdx_replay.specs.declared.input_ending.InputSummary.{InputSummary}
use Rattle.afdx_replay.specs.replaying.Replayed.{Known}

module _ (switches : List NamedRows) where
  -- what a run takes of lists whose lines name these switches
  abbrev pub TakesSited : ListTaking
  TakesSited = TakesKind (lists switches) (thing_of (lists switches) sited_frame)

  -- each arrival of a recording that comes in as these options say is at one of these switches, at
  -- a port without a cable
  abbrev pub AreThere : {P : Type 0} → (enters : P → Ports → Item Heading → Type 0) → P → Type 0
  AreThere enters options =
      CanTell (enters options (ports_of_several switches)) (IsAtOpenPort switches)

module _ {D : Type 0} (contents : D → Option (List ℕ)) (switches : List NamedRows)
    (start early : Option (Watched D)) (old new : Known) where
  -- what is told of items where a run with this answer takes them, which counts so: the text of all
  -- events of the frames is written, and they are counted; after a fault of the input, up to the
  -- last frame; where a device fails, or memory is refused, a beginning of the text. A device, if
  -- there is one, was told of the frames that came too early.
  abbrev pub AreTold : Summary → List (Item Heading) → Result InputCount RunFault → Type 0
  AreTold counts items count =
      By count (AllIsTold contents switches (lines_in items) start early old new counts)
      (AllSoFarIsTold contents switches (lines_in items) start early old new)
      (SomeIsTold contents switches (lines_in items) start early old new)

  -- it has taken some items, and told them so
  pub record TellsTaken (takes : Taking) (counts : Summary) (count : Result InputCount RunFault) :
      Type 0 where
    pub items : List (Item Heading)
    pub taken : takes items count
    pub told : AreTold counts items count

  -- What a replay of these switches does that answers so: where the bytes of the input are known,
  -- it has taken some of their items, and told them.
  pub record Replays {B : Type 0} (known : Option B) (takes : B → Taking)
      (answer : Result InputSummary RunFault) : Type 0 where
    pub counts : Summary
    pub count : Result InputCount RunFault
    pub answered : answer ≡ answer_of counts count
    pub told : IfSome known (λ bytes. TellsTaken (takes bytes) counts count)
