use Rattle.std.proofs.Common.{rules, ◌≡◌, get_or, sym, ◌∙◌}
use Rattle.afdx_conform.proofs.LimitLemmas.{fits-next, other-next}
use Rattle.afdx_conform.proofs.limits.Limits.next.Goals as goal

pub returns-then-fits-clause-defined : goal.returns-then-fits-clause-defined
returns-then-fits-clause-defined c z x a at of opens =
    let is : c.index-frames-passed.result ≡ get_or c.args.frames.now c.args.passed c.index-frames-passed.result =
    search rules in
    fits-next z x c.args.frames.now c.args.passed c.index-frames-passed.result c.if-passed-frames.true is
    (sym c.if-fits.true ∙ c.fits.ensures z x a at of)

pub returns-else-fits-clause-defined : goal.returns-else-fits-clause-defined
returns-else-fits-clause-defined c z x a at of opens =
    let is : c.index-frames-passed.result ≡ get_or c.args.frames.now c.args.passed c.index-frames-passed.result =
    search rules in
    other-next z x c.args.frames.now c.args.passed c.index-frames-passed.result c.if-passed-frames.true is
    (sym c.if-fits.false ∙ c.fits.ensures z x a at of)
