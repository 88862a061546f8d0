use Rattle.afdx_command_words.proofs.SayingLemmas.{some_words}
use Rattle.afdx_command_words.proofs.laws.words_say.Goals as goal

pub returns : goal.returns
returns c = some_words
