use Rattle.std.proofs.Common.{codes, subst, sym, ◌≡◌}
use Rattle.clap.specs.Words.{found_of}
use Rattle.afdx_input_sources.specs.Places.{place_of}
use Rattle.afdx_input_sources.specs.declared.places.Interfaces.{Interfaces}
use Rattle.afdx_command_words.specs.Placed.{AreSeen}
use Rattle.afdx_command_words.specs.Said.{words_of}
use Rattle.afdx_command_words.proofs.PlacedLemmas.{if-ok-map}
use Rattle.afdx_command_words.proofs.PuttingLemmas.{are-seen}
use Rattle.afdx_command_words.proofs.seen_words.seen_options.Goals as goal

pub returns-clause-places : goal.returns-clause-places
returns-clause-places c =
    let found = found_of c.args.matches.now in
    let came = words_of found (codes "interface") in
    let left = words_of found (codes "left") in
    let seen = are-seen came left (place_of c.in_ok-interfaces.interfaces) c.put_came.new.interfaces
    c.put_left.new.interfaces c.in_ok-interfaces.ensures c.in_ok-put_came.ensures c.in_ok-put_left.ensures.put
    c.in_ok-put_left.ensures.names in
    if-ok-map c.options_of.result (λ said. said.interfaces ≡ c.put_left.new.interfaces)
    (λ said. AreSeen came left said.interfaces)
    (λ said e. subst (λ (those : Interfaces). AreSeen came left those) (sym e) seen) c.options_of.ensures.places
