use Rattle.std.proofs.Common.{map, drop, sym, ◌∙◌}
use Rattle.afdx_conform.specs.KnownBytes.{may_fit}
use Rattle.afdx_conform.specs.Limits.{gone_of}
use Rattle.afdx_conform.specs.Marks.{arrival_of}
use Rattle.afdx_conform.proofs.DeviationLemmas.{deviation-far, deviation-early, deviation-behind, deviation-other, deviation-stop, deviation-late}
use Rattle.afdx_conform.proofs.deviating.deviation.Goals as goal

pub returns-then-is_far : goal.returns-then-is_far
returns-then-is_far c z a =
    deviation-far z (map arrival_of (drop c.args.from c.args.arrivals.now)) (arrival_of c.args.arrived.now)
    (gone_of c.args.frame.now)
    (sym (c.is_far.ensures z a) ∙ c.if-is_far.true)

pub returns-then-is_early : goal.returns-then-is_early
returns-then-is_early c z a =
    deviation-early z (map arrival_of (drop c.args.from c.args.arrivals.now)) (arrival_of c.args.arrived.now)
    (gone_of c.args.frame.now)
    c.early_by-by.result (sym (c.is_far.ensures z a) ∙ c.if-is_far.false) (sym (c.is_early.ensures z a)
    ∙ c.if-is_early.true)
    (c.early_by-by.ensures z a)

pub returns-then-fits_one : goal.returns-then-fits_one
returns-then-fits_one c z a =
    deviation-behind z (map arrival_of (drop c.args.from c.args.arrivals.now)) (arrival_of c.args.arrived.now)
    (gone_of c.args.frame.now)
    (sym (c.is_far.ensures z a) ∙ c.if-is_far.false) (sym (c.is_early.ensures z a) ∙ c.if-is_early.false)
    (sym (c.fits_one.ensures z a) ∙ c.if-fits_one.true)

pub returns-else-is_late : goal.returns-else-is_late
returns-else-is_late c z a =
    deviation-other z (map arrival_of (drop c.args.from c.args.arrivals.now)) (arrival_of c.args.arrived.now)
    (gone_of c.args.frame.now)
    (sym (c.is_far.ensures z a) ∙ c.if-is_far.false) (sym (c.is_early.ensures z a) ∙ c.if-is_early.false)
    (sym (c.fits_one.ensures z a) ∙ c.if-fits_one.false) (sym (c.is_late.ensures z a) ∙ c.if-is_late.false)

pub returns-else-is_same : goal.returns-else-is_same
returns-else-is_same c z a =
    deviation-stop z (map arrival_of (drop c.args.from c.args.arrivals.now)) (arrival_of c.args.arrived.now)
    (gone_of c.args.frame.now)
    (sym (c.is_far.ensures z a) ∙ c.if-is_far.false) (sym (c.is_early.ensures z a) ∙ c.if-is_early.false)
    (sym (c.fits_one.ensures z a) ∙ c.if-fits_one.false) (sym (c.is_late.ensures z a) ∙ c.if-is_late.true)
    (sym c.is_same.ensures ∙ c.if-is_same.false)

pub returns-then-is_same : goal.returns-then-is_same
returns-then-is_same c z a =
    deviation-late z (map arrival_of (drop c.args.from c.args.arrivals.now)) (arrival_of c.args.arrived.now)
    (gone_of c.args.frame.now)
    c.late_by-by.result (sym (c.is_far.ensures z a) ∙ c.if-is_far.false) (sym (c.is_early.ensures z a)
    ∙ c.if-is_early.false)
    (sym (c.fits_one.ensures z a) ∙ c.if-fits_one.false) (sym (c.is_late.ensures z a) ∙ c.if-is_late.true)
    (sym c.is_same.ensures ∙ c.if-is_same.true) (c.late_by-by.ensures z a)

pub fits_one-requires : goal.fits_one-requires
fits_one-requires c = c.no_less-behind.ensures (may_fit c.args.limits.now c.args.frame.now) c.args.arrivals.now
    c.requires
