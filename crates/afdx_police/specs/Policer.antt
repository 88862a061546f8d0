-- What a policer's account is after a list of offers, the newest first.
use Rattle.std.specs.Prelude.{◌≡◌, ℕ, ◌+◌, ◌≤◌, All, Bool, List, map}
use Rattle.afdx_frame.specs.Regulation.{Regulation, cap, wire_of}
use Rattle.afdx_police.specs.Account.{Account, missing}
use Rattle.afdx_police.specs.Rule.{regulation_of}
use Rattle.afdx_police.specs.Window.{Charged, fits, accepted_of}

-- a frame that is offered: when it comes, and its length
pub record Offer : Type 0 where
  pub time : ℕ
  pub length : ℕ

-- as the window rule sees it: `charge_of smax wire` is what a frame of that wire size is charged
abbrev pub charged_offer : (ℕ → ℕ → ℕ) → Regulation → Offer → Charged
charged_offer charge_of link offer =
    record { time = offer.time; charge = charge_of link.smax (wire_of offer.length) }

-- the accepted ones of the offers
abbrev pub accepted_offers : (ℕ → ℕ → ℕ) → Regulation → List Offer → List Charged
accepted_offers charge_of link offers = accepted_of link (map (charged_offer charge_of link) offers)

-- whether one more offer is accepted after these
abbrev pub is_accepted : (ℕ → ℕ → ℕ) → Regulation → List Offer → Offer → Bool
is_accepted charge_of link offers offer =
    fits link (accepted_offers charge_of link offers) (charged_offer charge_of link offer)

-- the account is the one that these offers leave
pub record StandsFor (charge_of : ℕ → ℕ → ℕ) (account : Account)
    (offers : List Offer) : Type 0 where
  pub came :
      All (λ x. x.time ≤ account.time)
      (accepted_offers charge_of (regulation_of account.rule) offers)
  pub level :
      account.level
      + missing (regulation_of account.rule)
      (accepted_offers charge_of (regulation_of account.rule) offers) account.time
      ≡ cap (regulation_of account.rule)
