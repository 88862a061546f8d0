use Rattle.std.proofs.Common.{Some, sym, ap, ◌∙◌}
use Rattle.afdx_frame.specs.declared.link.Priority.TheVariants.{High, Low}
use Rattle.afdx_solve.specs.Solved.{in_us, delay_to}
use Rattle.afdx_solve.proofs.DelayLemmas.{delay-stands}
use Rattle.afdx_solve.proofs.delays.delay_to.Goals as goal

pub returns-in-High : goal.returns-in-High
returns-in-High c =
    let b = c.bounds_to-bounds.ensures.bounds in
    let t = c.args.tables.now in
    c.in_us.ensures ∙ ap (λ n. in_us (Some n)) b.high
    ∙ sym (delay-stands t High c.args.system.0 b.row b.stands)
    ∙ ap (λ k. delay_to t k c.args.system.0) (sym c.in-High.is)

pub returns-in-Low : goal.returns-in-Low
returns-in-Low c =
    let b = c.bounds_to-bounds.ensures.bounds in
    let t = c.args.tables.now in
    c.in_us-in-Low.ensures ∙ ap in_us b.low
    ∙ sym (delay-stands t Low c.args.system.0 b.row b.stands)
    ∙ ap (λ k. delay_to t k c.args.system.0) (sym c.in-Low.is)
