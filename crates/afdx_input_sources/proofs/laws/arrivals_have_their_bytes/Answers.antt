use Rattle.afdx_input_sources.proofs.LawLemmas.{have-their-bytes}
use Rattle.afdx_input_sources.proofs.laws.arrivals_have_their_bytes.Goals as goal

pub returns : goal.returns
returns c = have-their-bytes
