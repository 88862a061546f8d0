use Rattle.std.proofs.Common.{ap, ◌∙◌}
use Rattle.afdx_config.specs.Changed.{with_buffer}
use Rattle.afdx_solve.specs.Solved.{chosen, with_least_buffer}
use Rattle.afdx_solve.proofs.solving.set_buffer.Goals as goal

pub returns : goal.returns
unfolding with_least_buffer
returns c =
    let t = c.args.tables.now in
    let o = c.args.options in
    c.set_buffer.ensures.changed
    ∙ ap (λ b. with_buffer b t) (c.chosen-buffer.ensures
    ∙ ap (λ n. chosen o.kept.buffer o.raise_only n c.least_buffer.result) c.buffer.ensures.buffer
    ∙ ap (chosen o.kept.buffer o.raise_only t.buffer) c.least_buffer.ensures)
