use Rattle.afdx_conform.proofs.ExampleLemmas.{some_is_right}
use Rattle.afdx_conform.proofs.RightLemmas.{right_explained}
use Rattle.afdx_conform.proofs.laws.right_is_explained.Goals as goal

pub returns : goal.returns
returns c = record { all = right_explained; some = some_is_right }
