use Rattle.afdx_police.proofs.WordLemmas.{same_word}
use Rattle.afdx_police.proofs.laws.faults_keep_their_words.Goals as goal

pub returns : goal.returns
returns c = same_word
