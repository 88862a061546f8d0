use Rattle.std.proofs.Common.{◌≡◌, take}
use Rattle.afdx_input_sources.specs.Places.{names_of, place_of}
use Rattle.afdx_command_words.specs.Placed.{ArePutBeside, Gone, OfAll}
use Rattle.afdx_command_words.proofs.PlacedLemmas.{texts}
use Rattle.afdx_command_words.proofs.seen_words.put_left.Given as goal

abbrev pub invariant-loop-word : goal.invariant-loop-word
invariant-loop-word l =
    ArePutBeside OfAll Gone (texts (take l.word-index l.words)) (place_of l.fn.interfaces) (place_of l.interfaces)
    × (names_of l.interfaces ≡ names_of l.fn.interfaces)
