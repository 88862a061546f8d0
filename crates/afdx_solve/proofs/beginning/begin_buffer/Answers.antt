use Rattle.std.proofs.Common.{ap, ◌∙◌}
use Rattle.afdx_solve.specs.Solved.{chosen}
use Rattle.afdx_solve.proofs.BeginLemmas.{buffer-begins}
use Rattle.afdx_solve.proofs.beginning.begin_buffer.Goals as goal

pub returns : goal.returns
returns c =
    let o = c.args.options in
    c.set_buffer.ensures.changed
    ∙ buffer-begins o c.args.switches.now c.args.switch.0 c.tables.result.now c.tables.ensures.tables
    c.chosen-least.result
    (c.chosen-least.ensures ∙ ap (λ n. chosen o.kept.buffer o.raise_only n 64) c.buffer-buffer.ensures.buffer)
