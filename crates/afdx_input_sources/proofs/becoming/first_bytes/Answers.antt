use Rattle.std.proofs.Common.{ap, ◌∙◌, ℕ, take}
use Rattle.std.proofs.lemmas.List.{take_min}
use Rattle.afdx_input_sources.proofs.becoming.first_bytes.Goals as goal

pub returns : goal.returns
returns c = ap (λ (n : ℕ). take n c.args.bytes.now) c.min.ensures ∙ take_min 2000 c.args.bytes.now
