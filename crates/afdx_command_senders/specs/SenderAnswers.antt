-- What a run over what systems sent answers and writes, whatever gives it its frames.
use Rattle.std.specs.Prelude.{ℕ, List, Option, option_map, IfSome, Result}
use Rattle.afdx_input_lines.specs.declared.fault.RunFault.{RunFault}
use Rattle.afdx_input_lines.specs.declared.watched.Watched.{Watched}
use Rattle.afdx_input_runs.specs.declared.seen.Seen.{Seen}
use Rattle.afdx_input_runs.specs.declared.seen_frames.SeenCount.{SeenCount}
use Rattle.afdx_input_sources.specs.Claims.{Ports, ports_of_one}
use Rattle.afdx_input_sources.specs.Engine.{Item}
use Rattle.afdx_senders.specs.Setups.{Setup}
use Rattle.afdx_command_conform.specs.Commands.{IsAnsweredOr}
use Rattle.afdx_command_conform.specs.Ran.{RunAnswers}
use Rattle.afdx_command_conform.specs.Tapped.{Taps}
use Rattle.afdx_command_conform.specs.declared.command.Judged.{Judged}
use Rattle.afdx_command_conform.specs.declared.run.RunCounts.{RunCounts}
use Rattle.afdx_command_senders.specs.Asked.{asked_of}
use Rattle.afdx_command_senders.specs.BothLines.{AreBothEarly, AreBothSome}
use Rattle.afdx_command_senders.specs.Outlook.{Outlook, outlook_at}
use Rattle.afdx_command_senders.specs.SenderLines.{AreAllLines, AreEarlyLines, AreFirstLines}
use Rattle.afdx_command_senders.specs.Setting.{IsSetting}
use Rattle.afdx_command_senders.specs.Shown.{AreBothShown}
use Rattle.afdx_command_senders.specs.declared.asked.SenderChoices.{SenderChoices}
use Rattle.afdx_command_senders.specs.declared.asked.Beside.{Beside}
use Rattle.afdx_command_senders.specs.declared.asked.Beside.TheVariants.{Nothing, Switch}
use Rattle.afdx_command_senders.specs.declared.command.SenderQuestion.{SenderQuestion}

-- one by this outlook, with these choices, of these ports that were recorded, where the bytes of
-- its inputs are known
abbrev pub SendersAnswer : {B I : Type 0} → Option B →
    (Ports → B → I → List (Item Seen) → Result SeenCount RunFault → Type 0) → I →
    Outlook → Taps → SenderChoices → (old new : Option (List ℕ)) → Result RunCounts RunFault →
    Type 0
SendersAnswer known Takes inputs o taps choices old new answer = IfSome known (λ bytes.
    let a = asked_of o.tables taps choices in (z : Setup) × IsSetting o a z
    × RunAnswers (Takes (ports_of_one o.tables) bytes inputs) (AreAllLines (z, a))
    (AreEarlyLines (z, a)) (AreFirstLines (z, a)) choices.choices.now.is_lossy old new answer)

-- the same of one by which the switch is judged, too
abbrev pub BothAnswer : {B I : Type 0} → Option B →
    (Ports → B → I → List (Item Seen) → Result SeenCount RunFault → Type 0) → I →
    Outlook → Taps → SenderChoices → (old new : Option (List ℕ)) → Result RunCounts RunFault →
    Type 0
BothAnswer known Takes inputs o taps choices old new answer = IfSome known (λ bytes.
    let a = asked_of o.tables taps choices in (z : Setup) × IsSetting o a z
    × RunAnswers (Takes (ports_of_one o.tables) bytes inputs) (AreBothShown o (z, a))
    (AreBothEarly (z, a)) (AreBothSome (z, a)) choices.choices.now.is_lossy old new answer)

-- the one of these that is asked for
abbrev pub AskedAnswer : Beside → {B I : Type 0} → Option B →
    (Ports → B → I → List (Item Seen) → Result SeenCount RunFault → Type 0) → I →
    Outlook → Taps → SenderChoices → (old new : Option (List ℕ)) → Result RunCounts RunFault →
    Type 0
AskedAnswer Nothing = SendersAnswer
AskedAnswer Switch = BothAnswer

-- a run ended the command, at the switch that is asked for, or there is none
abbrev pub IsAskedOr : {E : Type 0} → (E → Option (List ℕ)) → SenderQuestion →
    (old new : Watched E) → Judged → (Outlook → Result RunCounts RunFault → Type 0) → Type 0 →
    Type 0
IsAskedOr error_bytes what old new ended ran =
    IsAnsweredOr error_bytes what.config.now (option_map (λ name. name.now) what.switch) old new
    ended (λ described t. ran (outlook_at described t))
