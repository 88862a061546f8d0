use Rattle.std.proofs.Common.{sym}
use Rattle.afdx_input_lines.proofs.SpaceLemmas.{found_space, found_none}
use Rattle.afdx_input_lines.proofs.fields.has_space.Goals as goal

pub returns-in-Some : goal.returns-in-Some
returns-in-Some c = sym (found_space c.args.bytes.now _ c.in-Some.ensures)

pub returns-in-None : goal.returns-in-None
returns-in-None c = sym (found_none c.args.bytes.now c.in-None.ensures)
