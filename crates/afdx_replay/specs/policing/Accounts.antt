-- What the accounts of a run stand for.
use Rattle.std.specs.Prelude.{ℕ, ◌≤◌, List}
use Rattle.afdx_frame.specs.declared.by_side.BySide.{BySide}
use Rattle.afdx_frame.specs.declared.link.Side.TheVariants.{A, B}
use Rattle.afdx_police.specs.Arrival.{Arrival, own}
use Rattle.afdx_police.specs.LinkAccounts.{StandsForOwn, last_time}
use Rattle.afdx_police.specs.Rule.{Rule}
use Rattle.afdx_police.specs.declared.account.LinkAccount.{LinkAccount}

-- these arrivals came, and each side's account is the one that the link's own arrivals there leave
pub record HaveSeen (accounts : BySide LinkAccount) (rule : Rule) (past : List Arrival) : Type 0
  where
    pub on_a : StandsForOwn rule accounts.a (own rule.vl A past)
    pub on_b : StandsForOwn rule accounts.b (own rule.vl B past)

-- neither account was used after this time
pub record AreUntil (accounts : BySide LinkAccount) (time : ℕ) : Type 0 where
  pub on_a : last_time accounts.a ≤ time
  pub on_b : last_time accounts.b ≤ time
