use Rattle.afdx_solve.proofs.ShortLemmas.{none-short, none-short-at}
use Rattle.afdx_solve.proofs.laws.none_is_short.Goals as goal

pub returns : goal.returns
returns c = record { one = none-short; several = none-short-at }
