use Rattle.std.proofs.Common.{rules, sym}
use Rattle.afdx_input_files.proofs.OptionLemmas.{said-none}
use Rattle.afdx_input_files.proofs.options.said_in.Goals as goal

pub returns-then-is_empty-clause-said : goal.returns-then-is_empty-clause-said
returns-then-is_empty-clause-said c =
    sym (said-none c.args.order c.args.code c.args.size c.args.options.now (search rules))
