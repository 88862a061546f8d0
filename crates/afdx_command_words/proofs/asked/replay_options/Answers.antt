use Rattle.std.proofs.Common.{Bool, codes, subst}
use Rattle.clap.specs.Words.{found_of}
use Rattle.afdx_command_words.specs.Said.{SaysFlag}
use Rattle.afdx_command_words.proofs.WordsLemmas.{not-not}
use Rattle.afdx_command_words.proofs.asked.replay_options.Goals as goal

pub returns : goal.returns
returns c = record {
  freely = subst (λ (given : Bool). SaysFlag (found_of c.args.matches.now) (codes "no-admission") given)
      (not-not c.is_given-freely.result) c.is_given-freely.ensures;
  drops = c.is_given-explains_drops.ensures;
}
