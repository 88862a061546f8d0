use Rattle.afdx_input_sources.proofs.LawLemmas.{sequences-agree}
use Rattle.afdx_input_sources.proofs.laws.sequences_agree.Goals as goal

pub returns : goal.returns
returns c = sequences-agree
