use Rattle.std.proofs.Common.{IfOk, List, ℕ, refl, subst}
use Rattle.std.specs.List.{AllZip}
use Rattle.clap.specs.Words.{found_of, matched_of}
use Rattle.std.proofs.Common.{codes}
use Rattle.afdx_command_words.specs.ConformSaid.{NamesLink}
use Rattle.afdx_command_words.proofs.WordsLemmas.{words-found}
use Rattle.afdx_command_words.proofs.conform_words.left_out_in.Goals as goal

pub returns : goal.returns
returns c =
    let same = words-found c.get_strs.result _ c.unwrap_or-words.result
    (matched_of (found_of c.args.matches.now) (codes "leave-out")) c.get_strs.ensures c.unwrap_or-words.ensures refl in
    subst (λ (words : List (List ℕ)). IfOk c.links_in.result (λ links. AllZip NamesLink words links.items)) same
    c.links_in.ensures
