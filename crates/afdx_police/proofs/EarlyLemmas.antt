-- By how much a frame comes too early: the time in which its account is filled with what it lacks.
use Rattle.std.proofs.Common.{◌≡◌, ℕ, ◌+◌, ◌*◌, ◌-◌, ◌/◌, ◌<◌, ◌≤◌, ◌↔◌, true, List, ◌∷◌, refl, sym, ◌∙◌}
use Rattle.std.proofs.Common.{ap, arith, subst}
use Rattle.std.specs.Int.{div_ceil}
use Rattle.std.specs.Prelude.{All, IsTrue, Option, Some, None}
use Rattle.std.proofs.Math.Nat.{mul-le-mul_right}
use Rattle.std.proofs.lemmas.Bool.{false_from_ne_true}
use Rattle.std.proofs.Common.{Bool, not, true≢false}
use Rattle.std.proofs.lemmas.Grind.{div_ceil_times}
use Rattle.afdx_frame.specs.Regulation.{Regulation, is_bag, bag, jitter, byte_units, fill_rate, cap}
use Rattle.afdx_frame.specs.declared.link.Policing.{Policing}
use Rattle.afdx_police.specs.Account.{Account, missing}
use Rattle.afdx_police.specs.Arrival.{Arrival}
use Rattle.afdx_police.specs.Charge.{charge_by}
use Rattle.afdx_police.specs.Early.{IsEarlyBy, IsLeastWait, charged_later, least_wait}
use Rattle.afdx_police.specs.LinkAccounts.{IsOfferedAs}
use Rattle.afdx_police.specs.Offers.{offers_of}
use Rattle.afdx_police.specs.Policer.{Offer, StandsFor, accepted_offers, charged_offer}
use Rattle.afdx_police.specs.Rule.{Rule, IsRuleAfterCable, regulation_of}
use Rattle.afdx_police.specs.Shape.{fault_of, faults}
use Rattle.afdx_police.specs.declared.shape.Reason.{Reason}
use Rattle.afdx_police.specs.declared.shape.Reason.TheVariants.{OverRate}
use Rattle.afdx_police.specs.Verdicts.{accepted_own, charged_by, drop_reason, is_over_rate, reason_after}
use Rattle.afdx_police.specs.Window.{Charged, fits}
use Rattle.afdx_police.proofs.AccountLemmas.{factor_positive, fits-room, is_bag-divides, missing-later}
use Rattle.afdx_police.proofs.FirstOfLemmas.{first_of-each}
use Rattle.afdx_police.proofs.VerdictLemmas.{accepted_own-offers, verdict_decides}

-- over numbers: a quotient that is rounded up is the least that reaches
ceil-reaches : (lack rate : ℕ) → 0 < rate → lack ≤ div_ceil lack rate * rate
ceil-reaches lack rate some = (div_ceil_times lack rate some).0

short : (lack rate quotient less : ℕ) → quotient * rate < lack + rate → less < quotient → less * rate < lack
short lack rate quotient less least below =
    let more : (less + 1) * rate ≤ quotient * rate = mul-le-mul_right rate (omega (arith, below)) in
    omega (arith, more, least)

ceil-least : (lack rate less : ℕ) → 0 < rate → less < div_ceil lack rate → less * rate < lack
ceil-least lack rate less some below =
    short lack rate (div_ceil lack rate) less (div_ceil_times lack rate some).1 below

rate-some : (smax m : ℕ) → 0 < smax → 0 < m → 0 < smax * m
rate-some smax m some_bytes some_units =
    let one : 1 * m ≤ smax * m = mul-le-mul_right m some_bytes in
    omega (arith, one, some_units)

pub fill_rate-some : (link : Regulation) → IsTrue (is_bag link.bag_ms) → 0 < link.smax → 0 < fill_rate link
fill_rate-some link is-bag some =
    rate-some link.smax (128 / link.bag_ms) some
    (factor_positive link.bag_ms (128 / link.bag_ms) (is_bag-divides link.bag_ms is-bag))

-- a full account covers each frame of its link
charge-covered : (link : Regulation) (charge : ℕ) → IsTrue (is_bag link.bag_ms) → charge ≤ link.smax
    → byte_units * charge ≤ cap link
charge-covered link charge is-bag at-most =
    let m : link.bag_ms * (128 / link.bag_ms) ≡ 128 = is_bag-divides link.bag_ms is-bag in
    let units : fill_rate link * bag link ≡ link.smax * 1000000 * (link.bag_ms * (128 / link.bag_ms)) = grind arith in
    let whole : fill_rate link * bag link ≡ link.smax * 1000000 * 128 = units ∙ rw m refl in
    let both : cap link ≡ fill_rate link * bag link + fill_rate link * jitter link = grind arith in
    omega (arith, whole, both, at-most)

-- a frame that comes later finds the account filled so much more
fits-later : (link : Regulation) (accepted : List Charged) (last : Charged) (wait : ℕ)
    → IsTrue (is_bag link.bag_ms) → All (λ x. x.time ≤ last.time) accepted →
    (fits link accepted (charged_later wait last) ≡ true)
    ↔ (missing link accepted last.time - fill_rate link * wait + byte_units * last.charge ≤ cap link)
fits-later link accepted last wait is-bag came =
    let gap : last.time + wait - last.time ≡ wait = omega arith in
    let filled : missing link accepted (last.time + wait) ≡ missing link accepted last.time - fill_rate link * wait
    = rw gap at (missing-later link accepted last.time (last.time + wait) came (omega arith)) in
    rw filled at (fits-room link is-bag accepted (charged_later wait last))

pub least_wait-fill : (link : Regulation) (accepted : List Charged) (last : Charged)
    → IsTrue (is_bag link.bag_ms) → 0 < link.smax → last.charge ≤ link.smax
    → All (λ x. x.time ≤ last.time) accepted → IsLeastWait link accepted last (least_wait link accepted last)
unfolding least_wait
least_wait-fill link accepted last is-bag some at-most came =
    let rate : ℕ = fill_rate link in
    let lack : ℕ = missing link accepted last.time + byte_units * last.charge - cap link in
    let filled : 0 < fill_rate link = fill_rate-some link is-bag some in
    let covered : byte_units * last.charge ≤ cap link = charge-covered link last.charge is-bag at-most in
    record {
      fits_then =
          let reached = ceil-reaches lack rate filled in
          (fits-later link accepted last (div_ceil lack rate) is-bag came).1 (omega (arith, reached, covered));
      not_before = λ less below.
          let short = ceil-least lack rate less filled below in
          false_from_ne_true (fits link accepted (charged_later less last))
          (λ fit. let room = (fits-later link accepted last less is-bag came).0 fit in
          absurd (omega (arith, short, room)));
    }

-- what an account that is filled up to the offer's time lacks
pub StandsFor-wait : (charge_of : ℕ → ℕ → ℕ) (rule : Rule) (level : ℕ) (offers : List Offer)
    (offer : Offer) → StandsFor charge_of (record { rule = rule; level = level; time = offer.time }) offers →
    div_ceil (charge_of (rule.lmax + 20) (offer.length + 20) * byte_units - level) (fill_rate (regulation_of rule))
    ≡ least_wait (regulation_of rule) (accepted_offers charge_of (regulation_of rule) offers)
    (charged_offer charge_of (regulation_of rule) offer)
unfolding least_wait
StandsFor-wait charge_of rule level offers offer stands =
    let link : Regulation = regulation_of rule in
    let accepted : List Charged = accepted_offers charge_of link offers in
    let charge : ℕ = charge_of (rule.lmax + 20) (offer.length + 20) in
    let lack : charge * byte_units - level ≡ missing link accepted offer.time + byte_units * charge - cap link
    = omega (arith, stands.level) in
    ap (λ (n : ℕ). div_ceil n (fill_rate link)) lack

-- and its least wait is that of the window rule
pub StandsFor-least : (charge_of : ℕ → ℕ → ℕ) (rule : Rule) (level : ℕ) (offers : List Offer)
    (offer : Offer) (wait : ℕ) → IsRuleAfterCable rule →
    charge_of (rule.lmax + 20) (offer.length + 20) ≤ rule.lmax + 20 →
    StandsFor charge_of (record { rule = rule; level = level; time = offer.time }) offers →
    wait ≡ least_wait (regulation_of rule) (accepted_offers charge_of (regulation_of rule) offers)
    (charged_offer charge_of (regulation_of rule) offer) →
    IsLeastWait (regulation_of rule) (accepted_offers charge_of (regulation_of rule) offers)
    (charged_offer charge_of (regulation_of rule) offer) wait
StandsFor-least charge_of rule level offers offer wait is-rule at-most stands e =
    let link : Regulation = regulation_of rule in
    let accepted : List Charged = accepted_offers charge_of link offers in
    let last : Charged = charged_offer charge_of link offer in
    subst (λ (w : ℕ). IsLeastWait link accepted last w) (sym e)
    (least_wait-fill link accepted last is-rule.bag (omega arith) at-most stands.came)

-- what is so of an offer after others is so of the own arrival that is offered
pub of-own : (P : Regulation → List Charged → Charged → Type 0) (policing : Policing) (rule : Rule)
    (account : Account) (past : List Arrival) (x : Arrival) (offer : Offer) →
    account.rule ≡ rule → policing ≡ rule.policing → IsOfferedAs rule x offer →
    P (regulation_of account.rule)
    (accepted_offers (charge_by policing) (regulation_of account.rule) (offers_of rule past))
    (charged_offer (charge_by policing) (regulation_of account.rule) offer) →
    P (regulation_of rule) (accepted_own rule past) (charged_by rule x)
of-own P policing rule account past x offer by-rule kind offered h =
    let link : Regulation = regulation_of rule in
    let offers : List Offer = offers_of rule past in
    let of-rule = subst (λ (r : Rule). P (regulation_of r)
    (accepted_offers (charge_by policing) (regulation_of r) offers)
    (charged_offer (charge_by policing) (regulation_of r) offer)) by-rule h in
    let of-kind = subst (λ (p : Policing). P link (accepted_offers (charge_by p) link offers)
    (charged_offer (charge_by p) link offer)) kind of-rule in
    let of-arrival = subst (λ (o : Offer). P link (accepted_offers (charge_by rule.policing) link offers)
    (charged_offer (charge_by rule.policing) link o)) (sym offered.same) of-kind in
    subst (λ (list : List Charged). P link list (charged_by rule x)) (sym (accepted_own-offers rule past)) of-arrival

-- the least wait of an arrival without a fault
pub early-by : (rule : Rule) (past : List Arrival) (x : Arrival) (wait : ℕ)
    → fault_of (Some rule) x.port x.bytes ≡ None
    → IsLeastWait (regulation_of rule) (accepted_own rule past) (charged_by rule x) wait
    → IsEarlyBy rule past x wait
unfolding reason_after
early-by rule past x wait sound least = record {
  accepted_then = rw (sound, least.fits_then) refl;
  dropped_before = λ less below. rw (sound, least.not_before less below) refl;
}

-- an arrival that is dropped changes no reason after it
pub reason-refused : (rule : Rule) (past : List Arrival) (x y : Arrival) (reason : Reason)
    → reason_after rule past x ≡ Some reason → reason_after rule (x ∷ past) y ≡ reason_after rule past y
unfolding reason_after
reason-refused rule past x y reason dropped =
    ap (λ (accepted : List Charged). drop_reason rule accepted y) ((verdict_decides rule past x).dropped reason dropped)

-- the rate is no fault of a shape
abbrev is_of_shape : Reason → Bool
is_of_shape reason = not (is_over_rate (Some reason))

pub fault-not_rate : (rule : Option Rule) (port : ℕ) (bytes : List ℕ) → fault_of rule port bytes ≡ Some OverRate → ⊥
unfolding fault_of
fault-not_rate None port bytes is =
    true≢false (sym (first_of-each is_of_shape (faults None port bytes) OverRate refl is))
fault-not_rate (Some rule) port bytes is =
    true≢false (sym (first_of-each is_of_shape (faults (Some rule) port bytes) OverRate refl is))

pub is_over_rate-true : (reason : Option Reason) → is_over_rate reason ≡ true → reason ≡ Some OverRate
is_over_rate-true (Some OverRate) is = refl
is_over_rate-true reason is = absurd cc
