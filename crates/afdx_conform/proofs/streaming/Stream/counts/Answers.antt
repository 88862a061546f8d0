use Rattle.std.proofs.Common.{◌-◌, length, ap, sym, ◌∙◌}
use Rattle.afdx_conform.specs.Findings.{Judged}
use Rattle.afdx_conform.specs.Histories.{shown, uncut}
use Rattle.afdx_conform.proofs.StandingEnds.{counted, whole-is}
use Rattle.afdx_conform.proofs.streaming.Stream.counts.Goals as goal

pub returns-clause-judged : goal.returns-clause-judged
returns-clause-judged c z xs ys j due h =
    sym h.judged
    ∙ ap (λ (k : Judged). shown k)
    (sym (whole-is z xs (uncut z ys) (length ys - length (uncut z ys)) h.over c.args.self.now.growth
    h.is_after due))

pub returns-clause-counted : goal.returns-clause-counted
returns-clause-counted c z xs ys j due h =
    counted z xs (uncut z ys) (length ys - length (uncut z ys)) h.over c.args.self.now.growth c.counts.result
    h.is_after due
    c.counts.ensures.unsure (λ none. c.counts.ensures.counted z xs (uncut z ys) (length ys - length (uncut z ys))
    h.over none h.is_after)
