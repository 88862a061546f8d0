use Rattle.std.proofs.Common.{sym, refl}
use Rattle.afdx_admit.proofs.CascadeExactLemmas.{admitted-from, from-admitted}
use Rattle.afdx_admit.proofs.CascadeKnownLemmas.{first-known}
use Rattle.afdx_admit.proofs.cascade.admit_all.Goals as goal

pub invariant_of-result : goal.invariant_of-result
invariant_of-result c = (
  c.first_fault.ensures.switches,
  admitted-from c.args.switches c.first_fault.ensures.switches (sym c.in-None.ensures.fault),
)

pub returns-in-None-clause-exact : goal.returns-in-None-clause-exact
returns-in-None-clause-exact c = (
  λ _. admitted-from c.args.switches c.first_fault.ensures.switches (sym c.in-None.ensures.fault),
  λ _. refl,
)

pub returns-in-Some-clause-exact : goal.returns-in-Some-clause-exact
returns-in-Some-clause-exact c = (
  λ no_ok. absurd (cc no_ok),
  λ admitted. absurd (cc (
    from-admitted c.args.switches c.first_fault.ensures.switches admitted,
    c.in-Some.ensures.fault,
  )),
)

pub returns-in-Some-clause-known : goal.returns-in-Some-clause-known
returns-in-Some-clause-known c =
    first-known c.args.switches c.first_fault.ensures.switches c.in-Some.fault (sym c.in-Some.ensures.fault)
