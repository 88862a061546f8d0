use Rattle.afdx_command_words.proofs.SayingLemmas.{other_words}
use Rattle.afdx_command_words.proofs.laws.others_say_nothing.Goals as goal

pub returns : goal.returns
returns c = other_words
