use Rattle.std.proofs.Common.{◌∙◌}
use Rattle.afdx_command_words.proofs.WordsLemmas.{among-texts}
use Rattle.afdx_command_words.proofs.asked.is_one_of.Goals as goal

pub returns : goal.returns
returns c = c.contains.ensures.value ∙ among-texts c.args.word.now c.args.words.now
