use Rattle.std.proofs.Common.{sym, refl}
use Rattle.afdx_admit.proofs.ExactLemmas.{admitted_from, from_admitted}
use Rattle.afdx_admit.proofs.admitted.admit.Goals as goal

pub invariant_of-result : goal.invariant_of-result
invariant_of-result c = (
  c.first_fault.ensures.lawful,
  admitted_from c.args.tables c.first_fault.ensures.lawful (sym c.in-None.ensures.fault),
)

pub returns-in-None-clause-exact : goal.returns-in-None-clause-exact
returns-in-None-clause-exact c = (
  λ _. admitted_from c.args.tables c.first_fault.ensures.lawful (sym c.in-None.ensures.fault),
  λ _. refl,
)

pub returns-in-Some-clause-exact : goal.returns-in-Some-clause-exact
returns-in-Some-clause-exact c = (
  λ no_ok. absurd (cc no_ok),
  λ admitted. absurd (cc (
    from_admitted c.args.tables c.first_fault.ensures.lawful admitted,
    c.in-Some.ensures.fault,
  )),
)
