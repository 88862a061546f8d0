use Rattle.std.proofs.Common.{refl}
use Rattle.afdx_text.specs.Texts.{text_bytes}
use Rattle.afdx_text.proofs.text.Text.new.Goals as goal

pub returns : goal.returns
unfolding text_bytes
returns c = refl
