use Rattle.std.proofs.Common.{◌≡◌, sym, subst}
use Rattle.afdx_police.specs.Charge.{charge_by}
use Rattle.afdx_police.specs.Early.{IsLeastWait, least_wait}
use Rattle.afdx_police.specs.LinkAccounts.{StandsForOwn}
use Rattle.afdx_police.specs.Offers.{offers_of}
use Rattle.afdx_police.specs.Policer.{Offer, StandsFor}
use Rattle.afdx_frame.specs.declared.link.Policing.{Policing}
use Rattle.afdx_frame.specs.declared.link.Policing.TheVariants.{Byte, Frame}
use Rattle.afdx_police.specs.declared.account.LinkAccount.TheVariants.{ByByte, ByFrame}
use Rattle.afdx_police.proofs.EarlyLemmas.{early-by, of-own}
use Rattle.afdx_police.proofs.account.LinkAccount.early.Goals as goal

pub returns-in-ByByte-clause-fill : goal.returns-in-ByByte-clause-fill
returns-in-ByByte-clause-fill c rule past x stands offered =
    let st : StandsForOwn rule (ByByte c.in-ByByte.policer) past = rw c.in-ByByte.is at stands in
    let kind : Byte ≡ rule.policing = st.kind in
    let by-byte : StandsFor (charge_by Byte) c.in-ByByte.policer (offers_of rule past) =
    subst (λ (p : Policing). StandsFor (charge_by p) c.in-ByByte.policer (offers_of rule past))
    (sym kind) st.offers in
    let offer : Offer = record { time = c.args.time; length = c.args.length } in
    of-own (λ link accepted last. c.early.result ≡ least_wait link accepted last) Byte rule
    c.in-ByByte.policer past x offer st.by_rule kind offered
    (c.early.ensures.fill (offers_of rule past) by-byte)

pub returns-in-ByByte-clause-least : goal.returns-in-ByByte-clause-least
returns-in-ByByte-clause-least c rule past x stands offered =
    let st : StandsForOwn rule (ByByte c.in-ByByte.policer) past = rw c.in-ByByte.is at stands in
    let kind : Byte ≡ rule.policing = st.kind in
    let by-byte : StandsFor (charge_by Byte) c.in-ByByte.policer (offers_of rule past) =
    subst (λ (p : Policing). StandsFor (charge_by p) c.in-ByByte.policer (offers_of rule past))
    (sym kind) st.offers in
    let offer : Offer = record { time = c.args.time; length = c.args.length } in
    early-by rule past x c.early.result offered.sound
    (of-own (λ link accepted last. IsLeastWait link accepted last c.early.result) Byte rule
    c.in-ByByte.policer past x offer st.by_rule kind offered
    (c.early.ensures.least (offers_of rule past) by-byte))

pub returns-in-ByFrame-clause-fill : goal.returns-in-ByFrame-clause-fill
returns-in-ByFrame-clause-fill c rule past x stands offered =
    let st : StandsForOwn rule (ByFrame c.in-ByFrame.policer) past = rw c.in-ByFrame.is at stands in
    let kind : Frame ≡ rule.policing = st.kind in
    let by-frame : StandsFor (charge_by Frame) c.in-ByFrame.policer (offers_of rule past) =
    subst (λ (p : Policing). StandsFor (charge_by p) c.in-ByFrame.policer (offers_of rule past))
    (sym kind) st.offers in
    let offer : Offer = record { time = c.args.time; length = c.args.length } in
    of-own (λ link accepted last. c.early-in-ByFrame.result ≡ least_wait link accepted last) Frame rule
    c.in-ByFrame.policer past x offer st.by_rule kind offered
    (c.early-in-ByFrame.ensures.fill (offers_of rule past) by-frame)

pub returns-in-ByFrame-clause-least : goal.returns-in-ByFrame-clause-least
returns-in-ByFrame-clause-least c rule past x stands offered =
    let st : StandsForOwn rule (ByFrame c.in-ByFrame.policer) past = rw c.in-ByFrame.is at stands in
    let kind : Frame ≡ rule.policing = st.kind in
    let by-frame : StandsFor (charge_by Frame) c.in-ByFrame.policer (offers_of rule past) =
    subst (λ (p : Policing). StandsFor (charge_by p) c.in-ByFrame.policer (offers_of rule past))
    (sym kind) st.offers in
    let offer : Offer = record { time = c.args.time; length = c.args.length } in
    early-by rule past x c.early-in-ByFrame.result offered.sound
    (of-own (λ link accepted last. IsLeastWait link accepted last c.early-in-ByFrame.result) Frame rule
    c.in-ByFrame.policer past x offer st.by_rule kind offered
    (c.early-in-ByFrame.ensures.least (offers_of rule past) by-frame))
