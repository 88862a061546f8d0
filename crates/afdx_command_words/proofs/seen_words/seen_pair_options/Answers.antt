use Rattle.std.proofs.Common.{codes, subst, sym}
use Rattle.clap.specs.Words.{found_of}
use Rattle.afdx_input_sources.specs.Places.{names_of, place_of}
use Rattle.afdx_input_sources.specs.declared.places.Interfaces.{Interfaces}
use Rattle.afdx_command_words.specs.Placed.{AreCame, AreGone, Came, Gone, OfAll}
use Rattle.afdx_command_words.specs.Said.{words_of}
use Rattle.afdx_command_words.proofs.PlacedLemmas.{all-put}
use Rattle.afdx_command_words.proofs.seen_words.seen_pair_options.Goals as goal

pub returns-clause-places_came : goal.returns-clause-places_came
returns-clause-places_came c =
    let words = words_of (found_of c.args.matches.now) (codes "interface") in
    let new = c.put_came.new.interfaces in
    subst (λ (those : Interfaces). AreCame words those) (sym c.in_ok-of_came.ensures.places)
    (all-put OfAll (Came (names_of new)) words (place_of c.in_ok-came.came) (place_of new) c.in_ok-put_came.ensures
    c.in_ok-came.ensures)

pub returns-clause-places_left : goal.returns-clause-places_left
returns-clause-places_left c =
    let words = words_of (found_of c.args.matches.now) (codes "left") in
    let new = c.put_left.new.interfaces in
    subst (λ (those : Interfaces). AreGone words those) (sym c.in_ok-of_left.ensures.places)
    (all-put OfAll Gone words (place_of c.in_ok-left.left) (place_of new) c.in_ok-put_left.ensures.put
    c.in_ok-left.ensures)
