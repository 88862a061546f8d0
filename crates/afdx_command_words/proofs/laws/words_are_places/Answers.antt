use Rattle.afdx_command_words.proofs.PlaceLawLemmas.{words_are_places}
use Rattle.afdx_command_words.proofs.laws.words_are_places.Goals as goal

pub returns : goal.returns
returns c = words_are_places
