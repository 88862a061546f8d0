-- The account of one number and one time, over a list of offers.
use Rattle.std.proofs.Common.{◌≡◌, ℕ, ◌+◌, ◌*◌, ◌-◌, ◌/◌, ◌<◌, ◌≤◌, inl, inr, Bool, true, false}
use Rattle.std.proofs.Common.{◌↔◌, List, [], ◌∷◌, min, refl, sym, ◌∙◌, arith}
use Rattle.std.specs.Prelude.{nat_le, IsTrue}
use Rattle.std.proofs.Math.Nat.{mul-le-mul_left}
use Rattle.std.proofs.lemmas.Bool.{leb-true, le-leb, lt-leb, cond-true, cond-false}
use Rattle.std.proofs.lemmas.Bool.Decides.{leb_tells}
use Rattle.std.proofs.lemmas.List.Elements.{All-cons, All-nil}
use Rattle.afdx_frame.specs.Regulation.{Regulation, bag, jitter, byte_units, fill_rate, cap}
use Rattle.afdx_frame.specs.Regulation.{jitter_from_any}
use Rattle.afdx_police.specs.Account.{Account, overdrawn, missing}
use Rattle.afdx_police.specs.Policer.{Offer, charged_offer, accepted_offers, StandsFor}
use Rattle.afdx_police.specs.Rule.{Rule, IsRuleAfterCable, is_bag, regulation_of}
use Rattle.afdx_police.specs.Window.{Charged, fits, accepted_of}
use Rattle.afdx_police.proofs.AccountLemmas.{fits-room, is_bag-divides, is_bag-positive, missing-later, missing-accept}

-- the account's units are bounded
pub cap-le : (link : Regulation) → IsTrue (is_bag link.bag_ms) → link.smax ≤ 1538
    → link.jitter_us ≤ jitter_from_any link.bag_ms → cap link ≤ 20080128000000
cap-le link b s j =
    let m : link.bag_ms * (128 / link.bag_ms) ≡ 128 = is_bag-divides link.bag_ms b in
    let some : 1 ≤ link.bag_ms = is_bag-positive link.bag_ms b in
    let time : bag link + jitter link ≤ 102000000 * link.bag_ms = omega (arith, j, some) in
    let product : cap link ≤ (link.smax * (128 / link.bag_ms)) * (102000000 * link.bag_ms) =
    mul-le-mul_left (fill_rate link) time in
    let units : (link.smax * (128 / link.bag_ms)) * (102000000 * link.bag_ms)
    ≡ link.smax * 102000000 * (link.bag_ms * (128 / link.bag_ms)) = grind arith in
    let units-128 : (link.smax * (128 / link.bag_ms)) * (102000000 * link.bag_ms)
    ≡ link.smax * 102000000 * 128 = units ∙ rw m refl in
    omega (arith, product, units-128)

-- over numbers: what the account gains in a gap, what is missing loses
fill-short : (rate full level missing gap : ℕ) → level + missing ≡ rate * full → gap ≤ full →
    min (rate * full) (level + min gap full * rate) + (missing - rate * gap) ≡ rate * full
fill-short rate full level missing gap e h =
    let short : min gap full ≡ gap = omega arith in
    rw short (omega arith)

fill-long : (rate full level missing gap : ℕ) → level + missing ≡ rate * full → full ≤ gap →
    min (rate * full) (level + min gap full * rate) + (missing - rate * gap) ≡ rate * full
fill-long rate full level missing gap e h =
    let long : min gap full ≡ full = omega arith in
    let enough : rate * full ≤ rate * gap = mul-le-mul_left rate h in
    rw long (omega arith)

fill : (rate full level missing gap : ℕ) → level + missing ≡ rate * full →
    min (rate * full) (level + min gap full * rate) + (missing - rate * gap) ≡ rate * full
fill rate full level missing gap e =
    elim (leb_tells gap full) [
      | inl h ↦ fill-short rate full level missing gap e h.1
      | inr h ↦ fill-long rate full level missing gap e (omega (arith, h.1))
    ]

-- the accepted ones of one offer more
accepted-fits : (charge_of : ℕ → ℕ → ℕ) (link : Regulation) (offers : List Offer) (offer : Offer) →
    fits link (accepted_offers charge_of link offers) (charged_offer charge_of link offer) ≡ true →
    accepted_offers charge_of link (offer ∷ offers) ≡ charged_offer charge_of link offer
    ∷ accepted_offers charge_of link offers
unfolding accepted_of
accepted-fits charge_of link offers offer h =
    cond-true (fits link (accepted_offers charge_of link offers) (charged_offer charge_of link offer))
    (charged_offer charge_of link offer ∷ accepted_offers charge_of link offers)
    (accepted_offers charge_of link offers) h

accepted-unfit : (charge_of : ℕ → ℕ → ℕ) (link : Regulation) (offers : List Offer) (offer : Offer) →
    fits link (accepted_offers charge_of link offers) (charged_offer charge_of link offer) ≡ false →
    accepted_offers charge_of link (offer ∷ offers) ≡ accepted_offers charge_of link offers
unfolding accepted_of
accepted-unfit charge_of link offers offer h =
    cond-false (fits link (accepted_offers charge_of link offers) (charged_offer charge_of link offer))
    (charged_offer charge_of link offer ∷ accepted_offers charge_of link offers)
    (accepted_offers charge_of link offers) h

-- a full account stands for no offers
pub StandsFor-full : (charge_of : ℕ → ℕ → ℕ) (rule : Rule)
    → StandsFor charge_of (record { rule = rule; level = cap (regulation_of rule); time = 0 }) []
unfolding accepted_of overdrawn
StandsFor-full charge_of rule = record { came = All-nil (λ x. x.time ≤ 0); level = omega arith }

-- what stands for the offers at one time stands for them later, once it is filled
pub StandsFor-filled : (charge_of : ℕ → ℕ → ℕ) (account : Account) (offers : List Offer) (time : ℕ)
    → StandsFor charge_of account offers → account.time ≤ time →
    StandsFor charge_of (record {
      rule = account.rule;
      level =
          min (cap (regulation_of account.rule))
          (account.level + min (time - account.time)
          (bag (regulation_of account.rule) + jitter (regulation_of account.rule)) * fill_rate
          (regulation_of account.rule));
      time = time;
    }) offers
StandsFor-filled charge_of account offers time stands later =
    let link : Regulation = regulation_of account.rule in
    let accepted : List Charged = accepted_offers charge_of link offers in
    let loses : missing link accepted time ≡ missing link accepted account.time - fill_rate link * (time - account.time)
    = missing-later link accepted account.time time stands.came later in
    record {
      came = λ k d below. omega (arith, stands.came k d below, later);
      level = rw loses (fill (fill_rate link) (bag link + jitter link) account.level
          (missing link accepted account.time) (time - account.time) stands.level);
    }

-- two tests that are true together are one
same_test : (b c : Bool) → (b ≡ true → c ≡ true) → (c ≡ true → b ≡ true) → b ≡ c
same_test true c there back = sym (there refl)
same_test false true there back = back refl
same_test false false there back = refl

-- the answer at an account that is filled up to the offer's time
pub StandsFor-answer : (charge_of : ℕ → ℕ → ℕ) (rule : Rule) (level : ℕ) (offers : List Offer)
    (offer : Offer) → IsRuleAfterCable rule →
    StandsFor charge_of (record { rule = rule; level = level; time = offer.time }) offers →
    nat_le (charge_of (rule.lmax + 20) (offer.length + 20) * byte_units) level
    ≡ fits (regulation_of rule) (accepted_offers charge_of (regulation_of rule) offers)
    (charged_offer charge_of (regulation_of rule) offer)
StandsFor-answer charge_of rule level offers offer is-rule stands =
    let link : Regulation = regulation_of rule in
    let accepted : List Charged = accepted_offers charge_of link offers in
    let charge : ℕ = charge_of (rule.lmax + 20) (offer.length + 20) in
    let room : (fits link accepted (charged_offer charge_of link offer) ≡ true)
    ↔ (missing link accepted offer.time + byte_units * charge ≤ cap link)
    = fits-room link is-rule.bag accepted (charged_offer charge_of link offer) in
    same_test (nat_le (charge * byte_units) level) (fits link accepted (charged_offer charge_of link offer))
    (λ h. let passes : charge * byte_units ≤ level = leb-true _ _ h in room.1 (omega (arith, passes, stands.level)))
    (λ h. let fit : missing link accepted offer.time + byte_units * charge ≤ cap link = room.0 h in
    le-leb _ _ (omega (arith, fit, stands.level)))

-- the account that an accepted offer leaves
pub StandsFor-accepted : (charge_of : ℕ → ℕ → ℕ) (rule : Rule) (level : ℕ) (offers : List Offer)
    (offer : Offer) → IsRuleAfterCable rule →
    StandsFor charge_of (record { rule = rule; level = level; time = offer.time }) offers →
    charge_of (rule.lmax + 20) (offer.length + 20) * byte_units ≤ level →
    StandsFor charge_of (record {
      rule = rule;
      level = level - charge_of (rule.lmax + 20) (offer.length + 20) * byte_units;
      time = offer.time;
    }) (offer ∷ offers)
StandsFor-accepted charge_of rule level offers offer is-rule stands passes =
    let link : Regulation = regulation_of rule in
    let accepted : List Charged = accepted_offers charge_of link offers in
    let last : Charged = charged_offer charge_of link offer in
    let answer = StandsFor-answer charge_of rule level offers offer is-rule stands in
    let joins : accepted_offers charge_of link (offer ∷ offers) ≡ last ∷ accepted =
    accepted-fits charge_of link offers offer (sym answer ∙ le-leb _ _ passes) in
    let charges : missing link (last ∷ accepted) offer.time
    ≡ missing link accepted offer.time + byte_units * last.charge =
    missing-accept link accepted last in
    record {
      came = rw joins (All-cons (λ x. x.time ≤ offer.time) last accepted (omega arith) stands.came);
      level = rw (joins, charges) (omega (arith, stands.level, passes));
    }

-- and a refused one
pub StandsFor-refused : (charge_of : ℕ → ℕ → ℕ) (rule : Rule) (level : ℕ) (offers : List Offer)
    (offer : Offer) → IsRuleAfterCable rule →
    StandsFor charge_of (record { rule = rule; level = level; time = offer.time }) offers →
    level < charge_of (rule.lmax + 20) (offer.length + 20) * byte_units →
    StandsFor charge_of (record { rule = rule; level = level; time = offer.time }) (offer ∷ offers)
StandsFor-refused charge_of rule level offers offer is-rule stands fails =
    let link : Regulation = regulation_of rule in
    let accepted : List Charged = accepted_offers charge_of link offers in
    let answer = StandsFor-answer charge_of rule level offers offer is-rule stands in
    let stays : accepted_offers charge_of link (offer ∷ offers) ≡ accepted =
    accepted-unfit charge_of link offers offer (sym answer ∙ lt-leb _ _ fails) in
    record { came = rw stays stands.came; level = rw stays stands.level }
