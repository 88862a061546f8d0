use Rattle.afdx_input_lines.proofs.SplitLemmas.{split_at_byte, split_at_none}
use Rattle.afdx_input_lines.proofs.splitting.first_field.Goals as goal

pub returns-in-Some-clause-parts : goal.returns-in-Some-clause-parts
returns-in-Some-clause-parts c = split_at_byte c.args.byte c.args.text.now c.in-Some.at c.in-Some.ensures

pub returns-in-None-clause-parts : goal.returns-in-None-clause-parts
returns-in-None-clause-parts c = split_at_none c.args.byte c.args.text.now c.in-None.ensures
