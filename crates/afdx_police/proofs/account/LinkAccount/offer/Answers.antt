use Rattle.std.proofs.Common.{◌≡◌, sym, subst, ◌∙◌}
use Rattle.afdx_frame.specs.declared.link.Policing.{Policing}
use Rattle.afdx_frame.specs.declared.link.Policing.TheVariants.{Byte, Frame}
use Rattle.afdx_police.specs.Charge.{charge_by}
use Rattle.afdx_police.specs.LinkAccounts.{StandsForOwn}
use Rattle.afdx_police.specs.Offers.{offers_of}
use Rattle.afdx_police.specs.Policer.{StandsFor}
use Rattle.afdx_police.specs.declared.account.LinkAccount.TheVariants.{ByByte, ByFrame}
use Rattle.afdx_police.proofs.VerdictLemmas.{answer-reason, offered-stands}
use Rattle.afdx_police.proofs.account.LinkAccount.offer.Goals as goal

pub returns-in-ByByte-clause-answer : goal.returns-in-ByByte-clause-answer
returns-in-ByByte-clause-answer c rule past x stands offered =
    let st : StandsForOwn rule (ByByte c.in-ByByte.policer) past = rw c.in-ByByte.is at stands in
    let kind : Byte ≡ rule.policing = st.kind in
    let by-byte : StandsFor (charge_by Byte) c.in-ByByte.policer (offers_of rule past) =
    subst (λ (p : Policing). StandsFor (charge_by p) c.in-ByByte.policer (offers_of rule past))
    (sym kind) st.offers in
    c.over_rate.ensures ∙ answer-reason Byte rule c.in-ByByte.policer past x
    (record { time = c.args.time; length = c.args.length }) c.offer.result st.by_rule st.kind
    offered (c.offer.ensures.answer (offers_of rule past) by-byte)

pub returns-in-ByByte-clause-stands : goal.returns-in-ByByte-clause-stands
returns-in-ByByte-clause-stands c rule past x stands offered =
    let st : StandsForOwn rule (ByByte c.in-ByByte.policer) past = rw c.in-ByByte.is at stands in
    let kind : Byte ≡ rule.policing = st.kind in
    let by-byte : StandsFor (charge_by Byte) c.in-ByByte.policer (offers_of rule past) =
    subst (λ (p : Policing). StandsFor (charge_by p) c.in-ByByte.policer (offers_of rule past))
    (sym kind) st.offers in
    record {
      by_rule = c.offer.ensures.rule ∙ st.by_rule;
      kind = st.kind;
      offers = offered-stands Byte rule c.offer.new.self past x
          (record { time = c.args.time; length = c.args.length }) st.kind offered
          (c.offer.ensures.stands (offers_of rule past) by-byte);
    }

pub returns-in-ByFrame-clause-answer : goal.returns-in-ByFrame-clause-answer
returns-in-ByFrame-clause-answer c rule past x stands offered =
    let st : StandsForOwn rule (ByFrame c.in-ByFrame.policer) past = rw c.in-ByFrame.is at stands in
    let kind : Frame ≡ rule.policing = st.kind in
    let by-frame : StandsFor (charge_by Frame) c.in-ByFrame.policer (offers_of rule past) =
    subst (λ (p : Policing). StandsFor (charge_by p) c.in-ByFrame.policer (offers_of rule past))
    (sym kind) st.offers in
    c.over_rate-in-ByFrame.ensures ∙ answer-reason Frame rule c.in-ByFrame.policer past x
    (record { time = c.args.time; length = c.args.length }) c.offer-in-ByFrame.result st.by_rule
    st.kind offered (c.offer-in-ByFrame.ensures.answer (offers_of rule past) by-frame)

pub returns-in-ByFrame-clause-stands : goal.returns-in-ByFrame-clause-stands
returns-in-ByFrame-clause-stands c rule past x stands offered =
    let st : StandsForOwn rule (ByFrame c.in-ByFrame.policer) past = rw c.in-ByFrame.is at stands in
    let kind : Frame ≡ rule.policing = st.kind in
    let by-frame : StandsFor (charge_by Frame) c.in-ByFrame.policer (offers_of rule past) =
    subst (λ (p : Policing). StandsFor (charge_by p) c.in-ByFrame.policer (offers_of rule past))
    (sym kind) st.offers in
    record {
      by_rule = c.offer-in-ByFrame.ensures.rule ∙ st.by_rule;
      kind = st.kind;
      offers = offered-stands Frame rule c.offer-in-ByFrame.new.self past x
          (record { time = c.args.time; length = c.args.length }) st.kind offered
          (c.offer-in-ByFrame.ensures.stands (offers_of rule past) by-frame);
    }
