use Rattle.std.proofs.Common.{◌≡◌, ℕ, List, sym, ◌∙◌, ap}
use Rattle.std.specs.Prelude.{Option, Some, None}
use Rattle.afdx_frame.specs.Parts.{bytes_of}
use Rattle.afdx_police.specs.Arrival.{Arrival, own}
use Rattle.afdx_police.specs.Policer.{Offer}
use Rattle.afdx_police.specs.Rule.{Rule}
use Rattle.afdx_police.specs.Shape.{fault_of}
use Rattle.afdx_police.specs.declared.shape.Reason.{Reason}
use Rattle.afdx_police.proofs.VerdictLemmas.{reason-fault, fault_changes_nothing, fault-stands_in, sound-stands_in}
use Rattle.afdx_police.proofs.account.LinkAccount.police.Goals as goal

offer_at : ℕ → ℕ → Offer
offer_at time length = record { time = time; length = length }

-- what was judged by the account's own rule
judged : (rule held : Rule) (port : ℕ) (bytes : List ℕ) (answer : Option Reason) → held ≡ rule
    → answer ≡ fault_of (Some held) port bytes → fault_of (Some rule) port bytes ≡ answer
judged rule held port bytes answer e h = ap (λ (r : Rule). fault_of (Some r) port bytes) (sym e) ∙ sym h

pub returns-in-Some-clause-reason : goal.returns-in-Some-clause-reason
returns-in-Some-clause-reason c rule past tag side stands =
    sym (reason-fault rule past
    (record {
      tag = tag;
      time = c.args.time;
      side = side;
      port = c.args.port;
      bytes = (bytes_of c.args.frame);
    }) c.in-Some.reason
    (judged rule _ c.args.port (bytes_of c.args.frame) _ (c.rule.ensures ∙ stands.by_rule) c.in-Some.ensures.reason))

pub returns-in-Some-clause-stands : goal.returns-in-Some-clause-stands
returns-in-Some-clause-stands c rule past tag side stands =
    (fault_changes_nothing rule c.args.self.now past
    (record {
      tag = tag;
      time = c.args.time;
      side = side;
      port = c.args.port;
      bytes = (bytes_of c.args.frame);
    }) c.in-Some.reason
    (judged rule _ c.args.port (bytes_of c.args.frame) _ (c.rule.ensures ∙ stands.by_rule)
    c.in-Some.ensures.reason)).stands stands

pub returns-in-Some-clause-verdict : goal.returns-in-Some-clause-verdict
returns-in-Some-clause-verdict c rule all tag side stands =
    sym (reason-fault rule (own rule.vl side all)
    (record {
      tag = tag;
      time = c.args.time;
      side = side;
      port = c.args.port;
      bytes = (bytes_of c.args.frame);
    }) c.in-Some.reason
    (judged rule _ c.args.port (bytes_of c.args.frame) _ (c.rule.ensures ∙ stands.by_rule) c.in-Some.ensures.reason))

pub returns-in-Some-clause-stands_in : goal.returns-in-Some-clause-stands_in
returns-in-Some-clause-stands_in c rule all tag side stands =
    fault-stands_in rule c.args.self.now
    (record {
      tag = tag;
      time = c.args.time;
      side = side;
      port = c.args.port;
      bytes = (bytes_of c.args.frame);
    }) all c.in-Some.reason
    (judged rule _ c.args.port (bytes_of c.args.frame) _
    (c.rule.ensures ∙ stands.by_rule) c.in-Some.ensures.reason) stands

pub returns-in-None-clause-stands : goal.returns-in-None-clause-stands
unfolding offer_at
returns-in-None-clause-stands c rule past tag side stands =
    c.offer.ensures.stands rule past
    (record {
      tag = tag;
      time = c.args.time;
      side = side;
      port = c.args.port;
      bytes = (bytes_of c.args.frame);
    }) stands
    (record {
      sound = judged rule _ c.args.port (bytes_of c.args.frame) _ (c.rule.ensures ∙ stands.by_rule)
          c.in-None.ensures.reason;
      same = ap (offer_at c.args.time) (sym c.length.ensures);
    })

pub returns-in-None-clause-stands_in : goal.returns-in-None-clause-stands_in
unfolding offer_at
returns-in-None-clause-stands_in c rule all tag side stands =
    let x : Arrival = record {
      tag = tag;
      time = c.args.time;
      side = side;
      port = c.args.port;
      bytes = (bytes_of c.args.frame);
    } in
    let sound : fault_of (Some rule) x.port x.bytes ≡ None =
    judged rule _ c.args.port (bytes_of c.args.frame) _ (c.rule.ensures ∙ stands.by_rule)
    c.in-None.ensures.reason in
    sound-stands_in rule c.offer.new.self x all sound
    (c.offer.ensures.stands rule (own rule.vl side all) x stands
    (record { sound = sound; same = ap (offer_at c.args.time) (sym c.length.ensures) }))

-- an arrival that was judged without a fault has none
faultless : (held : Rule) (port : ℕ) (bytes : List ℕ) (fault : Reason)
    → None ≡ fault_of (Some held) port bytes → fault_of (Some held) port bytes ≡ Some fault → ⊥
faultless held port bytes fault none some = absurd (cc)

pub returns-in-None-clause-unchanged : goal.returns-in-None-clause-unchanged
returns-in-None-clause-unchanged c fault e =
    absurd (faultless _ c.args.port (bytes_of c.args.frame) fault
    (rw c.rule.ensures at c.in-None.ensures.reason) e)
