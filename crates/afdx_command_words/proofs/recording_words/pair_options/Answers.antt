use Rattle.std.proofs.Common.{List, codes, refl, subst, ℕ}
use Rattle.clap.specs.Words.{found_of, matched_of}
use Rattle.afdx_frame.specs.declared.link.Side.TheVariants.{A, B}
use Rattle.afdx_command_words.specs.Placed.{AreCameOn}
use Rattle.afdx_command_words.proofs.WordsLemmas.{words-found}
use Rattle.afdx_command_words.proofs.recording_words.pair_options.Goals as goal

pub returns-clause-places_a : goal.returns-clause-places_a
returns-clause-places_a c =
    let same = words-found c.get_strs.result _ c.unwrap_or-words.result
    (matched_of (found_of c.args.matches.now) (codes "interface")) c.get_strs.ensures c.unwrap_or-words.ensures refl in
    subst (λ (words : List (List ℕ)). AreCameOn A words c.in_ok-interfaces.interfaces.a) same
    c.in_ok-interfaces.ensures.a

pub returns-clause-places_b : goal.returns-clause-places_b
returns-clause-places_b c =
    let same = words-found c.get_strs.result _ c.unwrap_or-words.result
    (matched_of (found_of c.args.matches.now) (codes "interface")) c.get_strs.ensures c.unwrap_or-words.ensures refl in
    subst (λ (words : List (List ℕ)). AreCameOn B words c.in_ok-interfaces.interfaces.b) same
    c.in_ok-interfaces.ensures.b
