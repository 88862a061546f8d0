use Rattle.std.proofs.Common.{sym, ◌∙◌}
use Rattle.afdx_conform.specs.Limits.{gone_of}
use Rattle.afdx_conform.specs.Marks.{marked_all}
use Rattle.afdx_conform.proofs.NamingLemmas.{strange-damaged, strange-turn, strange-none}
use Rattle.afdx_conform.proofs.naming.strangeness.Goals as goal

pub returns-in-Some : goal.returns-in-Some
returns-in-Some c z a =
    strange-damaged z (marked_all c.args.arrivals.now c.args.marks.now) (gone_of c.args.frame.now) c.in-Some.reason
    (sym c.damage.ensures ∙ c.in-Some.is)

pub returns-then-fits_unmarked : goal.returns-then-fits_unmarked
returns-then-fits_unmarked c z a =
    strange-turn z (marked_all c.args.arrivals.now c.args.marks.now) (gone_of c.args.frame.now)
    (sym c.damage.ensures ∙ c.in-None.is)
    (sym (c.fits_unmarked.ensures z a) ∙ c.if-fits_unmarked.true)

pub returns-else-fits_unmarked : goal.returns-else-fits_unmarked
returns-else-fits_unmarked c z a =
    strange-none z (marked_all c.args.arrivals.now c.args.marks.now) (gone_of c.args.frame.now)
    (sym c.damage.ensures ∙ c.in-None.is)
    (sym (c.fits_unmarked.ensures z a) ∙ c.if-fits_unmarked.false)
