-- Laws over the definitions.
use Rattle.std.specs.Prelude.{◌≡◌, ℕ, ◌+◌, ◌*◌, ◌-◌, ◌<◌, ◌≤◌, ◌↔◌, All, IsTrue, IsSome, true}
use Rattle.std.specs.Prelude.{false, Option, Some, None, Err, List, [], ◌∷◌, length}
use Rattle.afdx_frame.specs.Parts.{frame_of}
use Rattle.afdx_frame.specs.Regulation.{Regulation, byte_units, fill_rate, cap, wire_of}
use Rattle.afdx_frame.specs.declared.fault.MacFault.{MacFault}
use Rattle.afdx_frame.specs.Words.{mac_word}
use Rattle.afdx_frame.specs.declared.link.Side.{Side}
use Rattle.afdx_police.specs.declared.account.LinkAccount.{LinkAccount}
use Rattle.afdx_police.specs.declared.shape.Reason.{Reason}
use Rattle.afdx_police.specs.Account.{level, missing}
use Rattle.afdx_police.specs.Arrival.{Arrival, is_side, names, own}
use Rattle.afdx_police.specs.Charge.{charge_by}
use Rattle.afdx_police.specs.LinkAccounts.{StandsForOwn}
use Rattle.afdx_police.specs.Offers.{offers_of}
use Rattle.afdx_police.specs.Policer.{accepted_offers}
use Rattle.afdx_police.specs.Rule.{Rule, is_bag, regulation_of}
use Rattle.afdx_police.specs.Shape.{IsSound, fault_of, reason_for}
use Rattle.afdx_police.specs.Verdicts.{accepted_own, charged_by, reason_after}
use Rattle.afdx_police.specs.Window.{Charged, Fits, fits}
use Rattle.afdx_police.specs.Words.{reason_word}

-- the test of all windows says that each one keeps the rule
abbrev pub FitsIsEachWindow : Type 0
FitsIsEachWindow =
    (link : Regulation) (accepted : List Charged) (last : Charged) →
    IsTrue (fits link accepted last) ↔ Fits link accepted last

-- a frame fits by the window rule exactly if the account's level is at least its charge
abbrev pub FitsIsAccountTest : Type 0
FitsIsAccountTest =
    (link : Regulation) (accepted : List Charged) (last : Charged) →
    IsTrue (is_bag link.bag_ms) →
    0 < last.charge →
    IsTrue (fits link accepted last) ↔ (byte_units * last.charge ≤ level link accepted last.time)

-- how an account moves: nothing is missing at first, a gap fills it, an accepted frame is charged,
-- and one fits if there is room
pub record AccountMoves (link : Regulation) : Type 0 where
  pub start : (time : ℕ) → missing link [] time ≡ 0
  pub gap : (accepted : List Charged) (time later : ℕ) →
      All (λ x. x.time ≤ time) accepted →
      time ≤ later →
      missing link accepted later ≡ missing link accepted time - fill_rate link * (later - time)
  pub accept : (accepted : List Charged) (last : Charged) →
      missing link (last ∷ accepted) last.time
      ≡ missing link accepted last.time + byte_units * last.charge
  pub room : (accepted : List Charged) (last : Charged) →
      IsTrue (fits link accepted last)
      ↔ (missing link accepted last.time + byte_units * last.charge ≤ cap link)

abbrev pub EachAccountMoves : Type 0
EachAccountMoves = (link : Regulation) → IsTrue (is_bag link.bag_ms) → AccountMoves link

-- a link's accepted arrivals are what the policer accepts of those that have no fault
abbrev pub ArrivalsAreOffers : Type 0
ArrivalsAreOffers = (rule : Rule) (past : List Arrival) →
    accepted_own rule past
    ≡ accepted_offers (charge_by rule.policing) (regulation_of rule) (offers_of rule past)

-- one more arrival is a link's own on a side exactly if it came there and its bytes name the link
pub record OwnSteps (vl : ℕ) (side : Side) (x : Arrival) (past : List Arrival) : Type 0 where
  pub one_more : is_side side x.side ≡ true →
      names vl x.bytes ≡ true →
      own vl side (x ∷ past) ≡ x ∷ own vl side past
  pub other_side : is_side side x.side ≡ false → own vl side (x ∷ past) ≡ own vl side past
  pub other_link : names vl x.bytes ≡ false → own vl side (x ∷ past) ≡ own vl side past

abbrev pub EachOwnSteps : Type 0
EachOwnSteps = (vl : ℕ) (side : Side) (x : Arrival) (past : List Arrival) → OwnSteps vl side x past

-- bytes that don't name a rule's link have the fault that they have under no rule
pub record StrangerIsRefused (rule : Rule) (port : ℕ) (bytes : List ℕ) : Type 0 where
  pub same : fault_of (Some rule) port bytes ≡ fault_of None port bytes
  pub refused : IsSome (fault_of (Some rule) port bytes)

abbrev pub StrangersAreRefused : Type 0
StrangersAreRefused =
    (rule : Rule) (port : ℕ) (bytes : List ℕ) →
    names rule.vl bytes ≡ false →
    StrangerIsRefused rule port bytes

-- bytes that are no frame are dropped for that, whatever the rule and the port
abbrev pub NoFrameIsRefused : Type 0
NoFrameIsRefused =
    (rule : Option Rule) (port : ℕ) (bytes : List ℕ) (fault : MacFault) →
    frame_of bytes ≡ Err fault →
    fault_of rule port bytes ≡ Some (reason_for fault)

-- they are dropped in the word of their fault
abbrev pub FaultsKeepTheirWords : Type 0
FaultsKeepTheirWords = (fault : MacFault) → reason_word (reason_for fault) ≡ mac_word fault

-- an arrival with a fault is dropped for it, whatever came before, and leaves the account as it was
pub record FaultChangesNothing (rule : Rule) (held : LinkAccount) (past : List Arrival)
    (x : Arrival) (fault : Reason) : Type 0 where
  pub reason : reason_after rule past x ≡ Some fault
  pub stands : StandsForOwn rule held past → StandsForOwn rule held (x ∷ past)

abbrev pub FaultsChangeNothing : Type 0
FaultsChangeNothing =
    (rule : Rule) (held : LinkAccount) (past : List Arrival) (x : Arrival) (fault : Reason) →
    fault_of (Some rule) x.port x.bytes ≡ Some fault →
    FaultChangesNothing rule held past x fault

-- an arrival has no fault exactly if nothing is wrong in it
abbrev pub SoundHasNoFault : Type 0
SoundHasNoFault =
    (rule : Rule) (port : ℕ) (bytes : List ℕ) →
    (fault_of (Some rule) port bytes ≡ None) ↔ IsSound rule port bytes

-- such an arrival is charged at least what it takes on the wire, and at most its link's greatest
-- frame
pub record IsChargedFor (rule : Rule) (x : Arrival) : Type 0 where
  pub at_least : wire_of (length x.bytes) ≤ (charged_by rule x).charge
  pub at_most : (charged_by rule x).charge ≤ (regulation_of rule).smax

abbrev pub SoundIsChargedFor : Type 0
SoundIsChargedFor = (rule : Rule) (x : Arrival) → IsSound rule x.port x.bytes → IsChargedFor rule x

-- an arrival is accepted exactly if it has no fault and fits, and only then it is one more of the
-- accepted
pub record VerdictDecides (rule : Rule) (past : List Arrival) (x : Arrival) : Type 0 where
  pub exactly : (reason_after rule past x ≡ None)
      ↔ ((fault_of (Some rule) x.port x.bytes ≡ None)
      × IsTrue (fits (regulation_of rule) (accepted_own rule past) (charged_by rule x)))
  pub accepted : reason_after rule past x ≡ None →
      accepted_own rule (x ∷ past) ≡ charged_by rule x ∷ accepted_own rule past
  pub dropped : (reason : Reason) →
      reason_after rule past x ≡ Some reason →
      accepted_own rule (x ∷ past) ≡ accepted_own rule past

abbrev pub VerdictsDecide : Type 0
VerdictsDecide = (rule : Rule) (past : List Arrival) (x : Arrival) → VerdictDecides rule past x
