use Rattle.std.proofs.Common.{map, take}
use Rattle.std.specs.List.{AllZip}
use Rattle.afdx_command_words.specs.ConformSaid.{NamesLink}
use Rattle.afdx_command_words.proofs.conform_words.links_in.Given as goal

abbrev pub invariant-loop-word : goal.invariant-loop-word
invariant-loop-word l = AllZip NamesLink (map (λ word. word.now) (take l.word-index l.words)) l.links.items
