-- What a run that polices one link has told.
use Rattle.std.specs.Prelude.{ℕ, ◌≡◌, ◌≤◌, ◌+◌, List, length, Option, is_none, is_some}
use Rattle.afdx_frame.specs.declared.by_side.BySide.{BySide}
use Rattle.afdx_police.specs.Arrival.{Arrival}
use Rattle.afdx_police.specs.Rule.{Rule}
use Rattle.afdx_police.specs.declared.account.LinkAccount.{LinkAccount}
use Rattle.afdx_input_lines.specs.declared.frame_line.Heading.{Heading}
use Rattle.afdx_input_sources.specs.Engine.{Item}
use Rattle.afdx_input_sources.specs.Items.{arrivals}
use Rattle.afdx_input_sources.specs.Listed.{frames}
use Rattle.afdx_input_sources.specs.Lists.{latest_in}
use Rattle.afdx_replay.specs.policing.Text.{count_judged}
use Rattle.afdx_replay.specs.policing.Policed.{WritesText, WritesBeginning}
use Rattle.afdx_replay.specs.policing.Accounts.{HaveSeen, AreUntil}
use Rattle.afdx_replay.specs.declared.policing.run.Police.{Police}

-- these arrivals are told: the accounts stand for them, they are counted, and their text is written
pub record HasTold (rule : Rule) (accounts : BySide LinkAccount) (accepted dropped : ℕ)
    (old new : Option (List ℕ)) (past : List Arrival) : Type 0 where
  pub seen : HaveSeen accounts rule past
  pub accepted_is : accepted ≡ count_judged is_none rule past
  pub dropped_is : dropped ≡ count_judged is_some rule past
  pub written : WritesText rule old new past

-- the same of the items of a source; no account was used after the latest of them
pub record TellsItems (rule : Rule) (police : Police) (old new : Option (List ℕ))
    (past : List (Item Heading)) : Type 0 where
  pub told : HasTold rule police.accounts police.accepted police.dropped old new (arrivals past)
  pub until : AreUntil police.accounts (latest_in frames (arrivals past))
  pub counted : police.accepted + police.dropped ≤ length past

abbrev pub BeginsItems : Rule → Option (List ℕ) → Option (List ℕ) → List (Item Heading) → Type 0
BeginsItems rule old new past = WritesBeginning rule old new (arrivals past)
