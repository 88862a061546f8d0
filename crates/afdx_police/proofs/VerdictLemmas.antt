-- Verdicts on a link's own arrivals are those of its account.
use Rattle.std.proofs.Common.{◌≡◌, Bool, true, false, List, [], ◌∷◌, refl, sym, ◌∙◌, ap, subst}
use Rattle.std.specs.Prelude.{Option, Some, None, IsSome, is_none, ◌&&◌, if◌then◌else◌}
use Rattle.std.specs.Option.{option_or}
use Rattle.afdx_frame.specs.declared.link.Policing.{Policing}
use Rattle.afdx_frame.specs.declared.link.Side.{Side}
use Rattle.afdx_police.specs.declared.account.LinkAccount.{LinkAccount}
use Rattle.afdx_police.specs.declared.shape.Reason.{Reason}
use Rattle.afdx_police.specs.declared.shape.Reason.TheVariants.{OverRate}
use Rattle.afdx_frame.specs.declared.link.Side.TheVariants.{A, B}
use Rattle.afdx_police.proofs.ShapeLemmas.{stranger_refused}
use Rattle.afdx_police.specs.Arrival.{Arrival, is_side, names, own}
use Rattle.afdx_police.specs.Charge.{charge_by}
use Rattle.afdx_police.specs.Laws.{FaultChangesNothing, VerdictDecides}
use Rattle.afdx_police.specs.LinkAccounts.{IsOfferedAs, StandsForOwn}
use Rattle.afdx_police.specs.Offers.{offer_of, offers_of}
use Rattle.afdx_police.specs.Account.{Account}
use Rattle.afdx_police.specs.Policer.{Offer, StandsFor, accepted_offers, is_accepted}
use Rattle.afdx_police.specs.Rule.{Rule, regulation_of}
use Rattle.afdx_police.specs.Shape.{fault_of}
use Rattle.afdx_police.specs.Verdicts.{accepted_own, charged_by, reason_after}
use Rattle.afdx_police.specs.Window.{Charged, accepted_of, fits}

-- one more arrival without a fault is one more offer
pub offers_of-sound : (rule : Rule) (past : List Arrival) (x : Arrival)
    → fault_of (Some rule) x.port x.bytes ≡ None → offers_of rule (x ∷ past) ≡ offer_of x
    ∷ offers_of rule past
offers_of-sound rule past x e = rw e refl

-- and one with a fault is none
pub offers_of-fault : (rule : Rule) (past : List Arrival) (x : Arrival) (fault : Reason)
    → fault_of (Some rule) x.port x.bytes ≡ Some fault → offers_of rule (x ∷ past) ≡ offers_of rule past
offers_of-fault rule past x fault e = rw e refl

same-test : (b : Bool) (p q : List Charged)
    → (if is_none (if b then None else Some OverRate) then p else q) ≡ (if b then p else q)
same-test true p q = refl
same-test false p q = refl

-- a link's accepted arrivals are those of the offers
pub accepted_own-offers : (rule : Rule) (past : List Arrival) →
    accepted_own rule past ≡ accepted_offers (charge_by rule.policing) (regulation_of rule) (offers_of rule past)
unfolding accepted_own accepted_of
accepted_own-offers rule [] = refl
accepted_own-offers rule (x ∷ past) = at (fault_of (Some rule) x.port x.bytes) refl (accepted_own-offers rule past)
  where
    at : (o : Option Reason) → fault_of (Some rule) x.port x.bytes ≡ o →
        accepted_own rule past ≡ accepted_offers (charge_by rule.policing) (regulation_of rule) (offers_of rule past) →
        accepted_own rule (x ∷ past)
        ≡ accepted_offers (charge_by rule.policing) (regulation_of rule) (offers_of rule (x ∷ past))
    at None e rest = rw (e, rest)
        (same-test (fits (regulation_of rule)
        (accepted_offers (charge_by rule.policing) (regulation_of rule) (offers_of rule past))
        (charged_by rule x)) _ _)
    at (Some fault) e rest = rw e rest

-- the reason of an arrival without a fault is the policer's
pub reason-sound : (rule : Rule) (past : List Arrival) (x : Arrival) (passes : Bool)
    → fault_of (Some rule) x.port x.bytes ≡ None →
    passes ≡ is_accepted (charge_by rule.policing) (regulation_of rule) (offers_of rule past) (offer_of x) →
    (if passes then None else Some OverRate) ≡ reason_after rule past x
unfolding reason_after
reason-sound rule past x passes sound answer =
    let of-own : passes ≡ fits (regulation_of rule) (accepted_own rule past) (charged_by rule x)
    = answer ∙ ap (λ (list : List Charged). fits (regulation_of rule) list (charged_by rule x))
    (sym (accepted_own-offers rule past)) in
    rw (sound, of-own) refl

-- the reason of one with a fault is the fault
pub reason-fault : (rule : Rule) (past : List Arrival) (x : Arrival) (fault : Reason)
    → fault_of (Some rule) x.port x.bytes ≡ Some fault → reason_after rule past x ≡ Some fault
unfolding reason_after
reason-fault rule past x fault e = rw e refl

pub fault_changes_nothing : (rule : Rule) (held : LinkAccount) (past : List Arrival) (x : Arrival) (fault : Reason) →
    fault_of (Some rule) x.port x.bytes ≡ Some fault → FaultChangesNothing rule held past x fault
fault_changes_nothing rule held past x fault e = record {
  reason = reason-fault rule past x fault e;
  stands = λ st. record {
    by_rule = st.by_rule;
    kind = st.kind;
    offers = rw (offers_of-fault rule past x fault e) st.offers;
  };
}

-- the answer of an account on an arrival that was offered
pub answer-reason : (policing : Policing) (rule : Rule) (account : Account) (past : List Arrival)
    (x : Arrival) (offer : Offer) (passes : Bool) →
    account.rule ≡ rule → policing ≡ rule.policing → IsOfferedAs rule x offer →
    passes ≡ is_accepted (charge_by policing) (regulation_of account.rule) (offers_of rule past) offer →
    (if passes then None else Some OverRate) ≡ reason_after rule past x
answer-reason policing rule account past x offer passes by-rule kind offered answer =
    reason-sound rule past x passes offered.sound
    (answer
    ∙ ap (λ (r : Rule). is_accepted (charge_by policing) (regulation_of r) (offers_of rule past) offer) by-rule
    ∙ ap (λ (p : Policing). is_accepted (charge_by p) (regulation_of rule) (offers_of rule past) offer) kind
    ∙ ap (λ (o : Offer). is_accepted (charge_by rule.policing) (regulation_of rule)
    (offers_of rule past) o) (sym offered.same))

-- and the account that it leaves
pub offered-stands : (policing : Policing) (rule : Rule) (account : Account) (past : List Arrival)
    (x : Arrival) (offer : Offer) →
    policing ≡ rule.policing → IsOfferedAs rule x offer
    → StandsFor (charge_by policing) account (offer ∷ offers_of rule past) →
    StandsFor (charge_by rule.policing) account (offers_of rule (x ∷ past))
offered-stands policing rule account past x offer kind offered stands =
    let offers : offers_of rule (x ∷ past) ≡ offer ∷ offers_of rule past =
    offers_of-sound rule past x offered.sound
    ∙ ap (λ (o : Offer). o ∷ offers_of rule past) offered.same in
    subst (λ (list : List Offer). StandsFor (charge_by rule.policing) account list) (sym offers)
    (subst (λ (p : Policing). StandsFor (charge_by p) account (offer ∷ offers_of rule past)) kind stands)

same_side : (side : Side) (b : Bool) → (is_side side side && b) ≡ b
same_side A b = refl
same_side B b = refl

-- an arrival without a fault is a link's own
named-own : (rule : Rule) (x : Arrival) (all : List Arrival) → names rule.vl x.bytes ≡ true
    → own rule.vl x.side (x ∷ all) ≡ x ∷ own rule.vl x.side all
named-own rule x all e = rw (same_side x.side (names rule.vl x.bytes), e) refl

other-own : (rule : Rule) (x : Arrival) (all : List Arrival) → names rule.vl x.bytes ≡ false
    → own rule.vl x.side (x ∷ all) ≡ own rule.vl x.side all
other-own rule x all e = rw (same_side x.side (names rule.vl x.bytes), e) refl

some-none : (o : Option Reason) → IsSome o → o ≡ None → ⊥
some-none (Some r) some e = absurd (cc)
some-none None some e = absurd (cc)

pub sound-own : (rule : Rule) (x : Arrival) (all : List Arrival)
    → fault_of (Some rule) x.port x.bytes ≡ None → own rule.vl x.side (x ∷ all)
    ≡ x ∷ own rule.vl x.side all
sound-own rule x all sound = at (names rule.vl x.bytes) refl
  where
    at : (b : Bool) → names rule.vl x.bytes ≡ b → own rule.vl x.side (x ∷ all) ≡ x ∷ own rule.vl x.side all
    at true e = named-own rule x all e
    at false e = absurd (some-none (fault_of (Some rule) x.port x.bytes)
        (stranger_refused rule x.port x.bytes e).refused sound)

-- one with a fault leaves the account as it was, a link's own or not
pub fault-stands_in : (rule : Rule) (held : LinkAccount) (x : Arrival) (all : List Arrival)
    (fault : Reason) → fault_of (Some rule) x.port x.bytes ≡ Some fault →
    StandsForOwn rule held (own rule.vl x.side all) → StandsForOwn rule held (own rule.vl x.side (x ∷ all))
fault-stands_in rule held x all fault wrong stands = at (names rule.vl x.bytes) refl
  where
    at : (b : Bool) → names rule.vl x.bytes ≡ b → StandsForOwn rule held (own rule.vl x.side (x ∷ all))
    at true e = subst (λ (list : List Arrival). StandsForOwn rule held list)
        (sym (named-own rule x all e))
        ((fault_changes_nothing rule held (own rule.vl x.side all) x fault wrong).stands stands)
    at false e = subst (λ (list : List Arrival). StandsForOwn rule held list) (sym (other-own rule x all e)) stands

-- an arrival that was offered is a link's own
pub sound-stands_in : (rule : Rule) (held : LinkAccount) (x : Arrival) (all : List Arrival)
    → fault_of (Some rule) x.port x.bytes ≡ None →
    StandsForOwn rule held (x ∷ own rule.vl x.side all) → StandsForOwn rule held (own rule.vl x.side (x ∷ all))
sound-stands_in rule held x all sound stands =
    subst (λ (list : List Arrival). StandsForOwn rule held list) (sym (sound-own rule x all sound)) stands

-- an arrival is accepted exactly if it has no fault and fits
none-or : (fault : Option Reason) (fit : Bool)
    → option_or fault (if fit then None else Some OverRate) ≡ None → (fault ≡ None) × (fit ≡ true)
none-or None true h = (refl, refl)
none-or None false h = absurd (cc)
none-or (Some r) fit h = absurd (cc)

or-none : (fault : Option Reason) (fit : Bool) → fault ≡ None → fit ≡ true
    → option_or fault (if fit then None else Some OverRate) ≡ None
or-none fault fit e h = rw (e, h) refl

joins-none : (o : Option Reason) (p q : List Charged) → o ≡ None → (if is_none o then p else q) ≡ p
joins-none o p q e = rw e refl

joins-some : (o : Option Reason) (reason : Reason) (p q : List Charged) → o ≡ Some reason
    → (if is_none o then p else q) ≡ q
joins-some o reason p q e = rw e refl

pub verdict_decides : (rule : Rule) (past : List Arrival) (x : Arrival) → VerdictDecides rule past x
unfolding reason_after accepted_own
verdict_decides rule past x =
    let fault : Option Reason = fault_of (Some rule) x.port x.bytes in
    let fit : Bool = fits (regulation_of rule) (accepted_own rule past) (charged_by rule x) in
    record {
      exactly = (λ h. none-or fault fit h, λ h. or-none fault fit h.0 h.1);
      accepted = λ h. joins-none (reason_after rule past x)
          (charged_by rule x ∷ accepted_own rule past) (accepted_own rule past) h;
      dropped = λ reason h. joins-some (reason_after rule past x) reason
          (charged_by rule x ∷ accepted_own rule past) (accepted_own rule past) h;
    }
