-- The accounts of both sides through one arrival more.
use Rattle.std.proofs.Common.{ℕ, ◌≤◌, List, ◌∷◌}
use Rattle.afdx_frame.specs.BySide.{on, with_on}
use Rattle.afdx_frame.specs.declared.by_side.BySide.{BySide}
use Rattle.afdx_frame.specs.declared.link.Side.{Side}
use Rattle.afdx_frame.specs.declared.link.Side.TheVariants.{A, B}
use Rattle.afdx_police.specs.Arrival.{Arrival, arrival_with, own}
use Rattle.afdx_police.specs.LinkAccounts.{StandsForOwn, last_time}
use Rattle.afdx_police.specs.Rule.{Rule}
use Rattle.afdx_police.specs.declared.account.LinkAccount.{LinkAccount}
use Rattle.afdx_replay.specs.policing.Accounts.{HaveSeen, AreUntil}

module _ (accounts : BySide LinkAccount) where
  pub until-on : (time : ℕ) → AreUntil accounts time → (side : Side) → last_time (on side accounts) ≤ time
  until-on time until A = until.on_a
  until-on time until B = until.on_b

  pub until-with : (time : ℕ) → AreUntil accounts time → (side : Side) (new : LinkAccount) → last_time new ≤ time
      → AreUntil (with_on side accounts new) time
  until-with time until A new le = record { on_a = le; on_b = until.on_b }
  until-with time until B new le = record { on_a = until.on_a; on_b = le }

  module _ (rule : Rule) (past : List Arrival) (seen : HaveSeen accounts rule past) where
    pub seen-on : (side : Side) → StandsForOwn rule (on side accounts) (own rule.vl side past)
    seen-on A = seen.on_a
    seen-on B = seen.on_b

    -- the other side's account stands for what it stood for
    pub seen-with : (tag time : ℕ) (side : Side) (port : ℕ) (bytes : List ℕ) (new : LinkAccount) →
        let x = arrival_with tag time side port bytes in
        StandsForOwn rule new (own rule.vl side (x ∷ past)) →
        HaveSeen (with_on side accounts new) rule (x ∷ past)
    seen-with tag time A port bytes new stands = record { on_a = stands; on_b = seen.on_b }
    seen-with tag time B port bytes new stands = record { on_a = seen.on_a; on_b = stands }
