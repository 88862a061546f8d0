use Rattle.std.proofs.Common.{ℕ, [], Option}
use Rattle.afdx_senders.specs.History.{HaveTold}
use Rattle.afdx_senders.specs.Setups.{Setup, ending}
use Rattle.afdx_senders.specs.Sites.{recorded_in}
use Rattle.afdx_command_conform.specs.Tapped.{Taps}
use Rattle.afdx_command_senders.specs.Asked.{asked_of}
use Rattle.afdx_command_senders.specs.Outlook.{outlook_of}
use Rattle.afdx_command_senders.specs.Setting.{AreRecorded, IsSettingBelow}
use Rattle.afdx_command_senders.proofs.following.senders_of.Given as goal

abbrev pub invariant-loop-place : goal.invariant-loop-place
invariant-loop-place l = record {
  judged : (taps : Taps) → AreRecorded taps (recorded_in l.fn.recorded) → (z : Setup)
      × IsSettingBelow l.place (outlook_of l.fn.outlook) (asked_of l.fn.outlook.tables.now taps l.asked) z
      × ((until : ℕ) (before : Option ℕ) → HaveTold (ending until z) before [] [] l.senders);
}
