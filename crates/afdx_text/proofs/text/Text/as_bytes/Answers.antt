use Rattle.std.proofs.Common.{ap, take}
use Rattle.afdx_text.specs.Texts.{text_bytes}
use Rattle.afdx_text.proofs.text.Text.as_bytes.Goals as goal

pub returns : goal.returns
unfolding text_bytes
returns c = ap (take c.args.self.now.end) c.deref.ensures.value
