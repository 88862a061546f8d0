use Rattle.std.proofs.Common.{codes, subst, sym}
use Rattle.clap.specs.Words.{found_of}
use Rattle.afdx_input_sources.specs.Places.{names_of, place_of}
use Rattle.afdx_input_sources.specs.declared.places.Interfaces.{Interfaces}
use Rattle.afdx_command_words.specs.Placed.{AreCame, Came, OfAll}
use Rattle.afdx_command_words.specs.Said.{words_of}
use Rattle.afdx_command_words.proofs.PlacedLemmas.{all-put}
use Rattle.afdx_command_words.proofs.seen_words.came_options.Goals as goal

pub returns-clause-places : goal.returns-clause-places
returns-clause-places c =
    let words = words_of (found_of c.args.matches.now) (codes "interface") in
    let new = c.put_came.new.interfaces in
    subst (λ (those : Interfaces). AreCame words those) (sym c.in_ok-options.ensures.places)
    (all-put OfAll (Came (names_of new)) words (place_of c.in_ok-came.came) (place_of new) c.in_ok-put_came.ensures
    c.in_ok-came.ensures)
