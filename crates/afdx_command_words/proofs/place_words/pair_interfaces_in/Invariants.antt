use Rattle.std.proofs.Common.{take}
use Rattle.afdx_frame.specs.declared.link.Side.TheVariants.{A, B}
use Rattle.afdx_input_sources.specs.Places.{names_of, place_of}
use Rattle.afdx_command_words.specs.Placed.{ArePutBeside, Came, OfSide}
use Rattle.afdx_command_words.proofs.PlacedLemmas.{texts}
use Rattle.afdx_command_words.proofs.PuttingLemmas.{nowhere}
use Rattle.afdx_command_words.proofs.place_words.pair_interfaces_in.Given as goal

abbrev pub invariant-loop-word : goal.invariant-loop-word
invariant-loop-word l =
    ArePutBeside (OfSide A) (Came (names_of l.pair.a)) (texts (take l.word-index l.words)) nowhere (place_of l.pair.a)
    × ArePutBeside (OfSide B) (Came (names_of l.pair.b)) (texts (take l.word-index l.words)) nowhere (place_of l.pair.b)
