use Rattle.std.proofs.Common.{arith}
use Rattle.afdx_police.specs.RuleOf.{rule_of}
use Rattle.afdx_replay.proofs.ToldLemmas.{told-start}
use Rattle.afdx_replay.proofs.policing.run.Police.new.Goals as goal

pub returns : goal.returns
returns c = λ output. record {
  told = told-start (rule_of c.args.rule.now) _ output c.new_accounts-accounts.ensures.seen;
  until = c.new_accounts-accounts.ensures.until;
  counted = omega arith;
}
