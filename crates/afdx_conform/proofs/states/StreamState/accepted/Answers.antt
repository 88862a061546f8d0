use Rattle.std.proofs.Common.{drop, subst}
use Rattle.afdx_conform.specs.HeldStates.{IsNext}
use Rattle.afdx_conform.specs.declared.states.NextFrame.{NextFrame}
use Rattle.afdx_conform.proofs.HeldLemmas.{next-fits}
use Rattle.afdx_conform.proofs.states.StreamState.accepted.Goals as goal

pub returns-in-Fits-clause-defined : goal.returns-in-Fits-clause-defined
returns-in-Fits-clause-defined c z x ys h = next-fits z x c.args.levels c.args.self.waiting c.args.self.passed ys
    (subst (λ (n : NextFrame). IsNext z x (drop c.args.self.passed ys) n) c.in-Fits.is h)
