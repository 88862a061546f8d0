use Rattle.std.proofs.Common.{List, ap, codes, refl, ℕ, ◌∙◌}
use Rattle.clap.specs.Words.{found_of, matched_of}
use Rattle.afdx_command_words.specs.AskedSaid.{is_among}
use Rattle.afdx_command_words.proofs.WordsLemmas.{words-found}
use Rattle.afdx_command_words.proofs.asked.keeps.Goals as goal

pub returns : goal.returns
returns c =
    let same = words-found c.get_strs.result _ c.unwrap_or-words.result
    (matched_of (found_of c.args.matches.now) (codes "keep")) c.get_strs.ensures c.unwrap_or-words.ensures refl in
    c.is_one_of.ensures ∙ ap (λ (words : List (List ℕ)). is_among c.args.key.now words) same
