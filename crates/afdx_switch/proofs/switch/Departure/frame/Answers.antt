use Rattle.std.proofs.Common.{◌∙◌, rules, subst, sym}
use Rattle.afdx_frame.specs.Parts.{IsLinkFrame}
use Rattle.afdx_frame.proofs.SealsLemmas.{known-right, whole-right}
use Rattle.afdx_switch.proofs.switch.Departure.frame.Goals as goal

pub invariant_of-result : goal.invariant_of-result
invariant_of-result c = record {
  known = known-right c.message-message.result.now;
  fits = search rules;
}

pub returns-clause-bytes : goal.returns-clause-bytes
returns-clause-bytes c = whole-right c.message-message.result.now ∙ c.message-message.ensures.message

pub returns-clause-framed : goal.returns-clause-framed
returns-clause-framed c = subst IsLinkFrame (sym (returns-clause-bytes c)) c.message-message.ensures.framed
