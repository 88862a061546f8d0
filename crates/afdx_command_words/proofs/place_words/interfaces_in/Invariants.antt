use Rattle.std.proofs.Common.{take}
use Rattle.afdx_input_sources.specs.Places.{names_of, place_of}
use Rattle.afdx_command_words.specs.Placed.{ArePutBeside, Came, OfAll}
use Rattle.afdx_command_words.proofs.PlacedLemmas.{texts}
use Rattle.afdx_command_words.proofs.PuttingLemmas.{nowhere}
use Rattle.afdx_command_words.proofs.place_words.interfaces_in.Given as goal

abbrev pub invariant-loop-word : goal.invariant-loop-word
invariant-loop-word l =
    ArePutBeside OfAll (Came (names_of l.interfaces)) (texts (take l.word-index l.words)) nowhere
    (place_of l.interfaces)
