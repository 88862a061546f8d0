use Rattle.afdx_senders.proofs.QuietLemmas as lemma
use Rattle.afdx_senders.proofs.laws.no_line_is_quiet.Goals as goal

pub returns : goal.returns
returns c = lemma.no_line_is_quiet
