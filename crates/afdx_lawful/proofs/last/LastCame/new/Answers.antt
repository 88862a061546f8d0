use Rattle.afdx_lawful.proofs.LastLemmas.{none_last}
use Rattle.afdx_lawful.proofs.last.LastCame.new.Goals as goal

pub returns : goal.returns
returns c number = none_last number
