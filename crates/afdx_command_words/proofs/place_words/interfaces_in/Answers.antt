use Rattle.std.proofs.Common.{refl}
use Rattle.afdx_input_sources.specs.Places.{names_of, place_of}
use Rattle.afdx_command_words.specs.PlaceSaid.{spot_of}
use Rattle.afdx_command_words.specs.Placed.{Came, OfAll}
use Rattle.afdx_command_words.proofs.PuttingLemmas.{came-next, empty-put, nowhere, words-put}
use Rattle.afdx_command_words.proofs.place_words.interfaces_in.Goals as goal

pub loop-word-init : goal.loop-word-init
loop-word-init c =
    empty-put OfAll (Came (names_of c.in_ok-interfaces.interfaces)) (place_of c.in_ok-interfaces.interfaces)
    c.in_ok-interfaces.ensures

pub loop-word-preserved : goal.loop-word-preserved
loop-word-preserved c =
    came-next OfAll c.args.words.now c.loop-word.word-index _ nowhere c.loop-word.interfaces c.put_once.new.interfaces
    c.in-Some.interface (spot_of c.in-Some.said) c.loop-word-test.true c.loop-word.invariant
    (c.in-Some.ensures.read.given (c.in-Some.interface, spot_of c.in-Some.said) refl) tt c.in_ok-put_once.ensures

pub returns : goal.returns
returns c =
    words-put OfAll (Came (names_of c.loop-word.interfaces)) c.args.words.now c.loop-word.word-index nowhere
    (place_of c.loop-word.interfaces) c.loop-word-test.false c.loop-word.invariant (λ k. refl)
