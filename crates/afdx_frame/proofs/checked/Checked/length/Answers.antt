use Rattle.std.proofs.Common.{arith}
use Rattle.afdx_frame.proofs.SealsLemmas.{length-whole}
use Rattle.afdx_frame.proofs.checked.Checked.length.Goals as goal

pub returns : goal.returns
returns c = omega (arith, c.length.ensures, length-whole c.args.self.now.seal c.args.self.now.message.now)
