use Rattle.std.proofs.Common.{rules, sym, ◌∙◌}
use Rattle.afdx_input_files.proofs.OptionLemmas.{said-broken}
use Rattle.afdx_input_files.proofs.options.said_among.Goals as goal

pub returns-then-not-are_whole-clause-said : goal.returns-then-not-are_whole-clause-said
returns-then-not-are_whole-clause-said c =
    sym (said-broken c.args.order c.args.code c.args.size c.args.options.now (sym c.are_whole.ensures ∙ search rules))
