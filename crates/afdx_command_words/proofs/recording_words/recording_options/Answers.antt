use Rattle.std.proofs.Common.{List, codes, refl, subst, ℕ}
use Rattle.clap.specs.Words.{found_of, matched_of}
use Rattle.afdx_command_words.specs.Placed.{AreCame}
use Rattle.afdx_command_words.proofs.WordsLemmas.{words-found}
use Rattle.afdx_command_words.proofs.recording_words.recording_options.Goals as goal

pub returns-clause-places : goal.returns-clause-places
returns-clause-places c =
    let same = words-found c.get_strs.result _ c.unwrap_or-words.result
    (matched_of (found_of c.args.matches.now) (codes "interface")) c.get_strs.ensures c.unwrap_or-words.ensures refl in
    subst (λ (words : List (List ℕ)). AreCame words c.in_ok-interfaces.interfaces) same c.in_ok-interfaces.ensures
