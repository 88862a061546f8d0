use Rattle.afdx_command_words.proofs.OnceLemmas.{word-once}
use Rattle.afdx_command_words.proofs.laws.says_one_thing.Goals as goal

pub returns : goal.returns
returns c = word-once
