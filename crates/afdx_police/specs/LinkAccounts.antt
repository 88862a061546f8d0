-- The account of a link, of either kind of policing, and the arrivals that it stands for.
use Rattle.std.specs.Prelude.{◌≡◌, ℕ, Some, None, List}
use Rattle.afdx_frame.specs.declared.link.Policing.{Policing}
use Rattle.afdx_frame.specs.declared.link.Policing.TheVariants.{Byte, Frame}
use Rattle.afdx_police.specs.Arrival.{Arrival}
use Rattle.afdx_police.specs.Charge.{charge_by}
use Rattle.afdx_police.specs.Offers.{offer_of, offers_of}
use Rattle.afdx_police.specs.Account.{Account}
use Rattle.afdx_police.specs.Policer.{Offer, StandsFor}
use Rattle.afdx_police.specs.Rule.{Rule}
use Rattle.afdx_police.specs.Shape.{fault_of}
use Rattle.afdx_police.specs.declared.account.LinkAccount.{LinkAccount}
use Rattle.afdx_police.specs.declared.account.LinkAccount.TheVariants.{ByByte, ByFrame}

abbrev pub policing_of : LinkAccount → Policing
policing_of (ByByte account) = Byte
policing_of (ByFrame account) = Frame

abbrev pub account_of : LinkAccount → Account
account_of (ByByte account) = account
account_of (ByFrame account) = account

-- the time of the last arrival that was offered to it, 0 at first
abbrev pub last_time : LinkAccount → ℕ
last_time held = (account_of held).time

-- the account is the one that these own arrivals of the rule's link leave
pub record StandsForOwn (rule : Rule) (held : LinkAccount) (own : List Arrival) : Type 0 where
  pub by_rule : (account_of held).rule ≡ rule
  pub kind : policing_of held ≡ rule.policing
  pub offers : StandsFor (charge_by rule.policing) (account_of held) (offers_of rule own)

-- the arrival has no fault in its shape, and this is what is offered of it
pub record IsOfferedAs (rule : Rule) (x : Arrival) (offer : Offer) : Type 0 where
  pub sound : fault_of (Some rule) x.port x.bytes ≡ None
  pub same : offer_of x ≡ offer
