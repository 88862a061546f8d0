use Rattle.afdx_police.proofs.VerdictLemmas.{verdict_decides}
use Rattle.afdx_police.proofs.laws.verdicts_decide.Goals as goal

pub returns : goal.returns
returns c = verdict_decides
