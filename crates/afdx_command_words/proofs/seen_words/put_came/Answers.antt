use Rattle.std.proofs.Common.{List, None, codes, refl, subst, ℕ}
use Rattle.clap.specs.Words.{found_of, matched_of}
use Rattle.afdx_input_sources.specs.Places.{names_of, place_of}
use Rattle.afdx_command_words.specs.PlaceSaid.{IsWord}
use Rattle.afdx_command_words.specs.Placed.{ArePutBeside, Came, OfAll}
use Rattle.afdx_command_words.specs.Said.{words_of}
use Rattle.afdx_command_words.specs.WordLaws.{spot_with}
use Rattle.afdx_command_words.proofs.PlacedLemmas.{none-put, on-ok}
use Rattle.afdx_command_words.proofs.PuttingLemmas.{option-put, seen-next}
use Rattle.afdx_command_words.proofs.WordsLemmas.{words-found}
use Rattle.afdx_command_words.proofs.seen_words.put_came.Goals as goal

pub loop-word-init : goal.loop-word-init
loop-word-init c = none-put OfAll (Came (names_of c.args.interfaces.now)) (place_of c.args.interfaces.now)

pub loop-word-preserved : goal.loop-word-preserved
loop-word-preserved c =
    let interface = c.in_ok-interface.interface in
    let spot = spot_with c.in_ok-interface.side None c.in_ok-interface.port in
    let is = subst (λ (word : List ℕ). IsWord word interface spot) c.interface-given.ensures
    c.in_ok-interface.ensures.said in
    seen-next c.unwrap_or-words.result.now c.loop-word.word-index _ (place_of c.args.interfaces.now)
    c.loop-word.interfaces c.put_new.new.interfaces c.in_ok-interface.interface c.in_ok-interface.side
    c.in_ok-interface.port c.place_on.result c.loop-word-test.true c.loop-word.invariant
    is c.place_on.ensures c.in_ok-put_new.ensures

pub returns : goal.returns
returns c =
    let same = words-found c.get_strs.result _ c.unwrap_or-words.result
    (matched_of (found_of c.args.matches.now) (codes "interface")) c.get_strs.ensures c.unwrap_or-words.ensures refl in
    on-ok c.any_of.result
    (ArePutBeside OfAll (Came (names_of c.loop-word.interfaces))
    (words_of (found_of c.args.matches.now) (codes "interface")) (place_of c.args.interfaces.now)
    (place_of c.loop-word.interfaces))
    (option-put OfAll (Came (names_of c.loop-word.interfaces)) c.unwrap_or-words.result.now c.loop-word.word-index
    (place_of c.args.interfaces.now) (place_of c.loop-word.interfaces) c.loop-word-test.false c.loop-word.invariant
    (words_of (found_of c.args.matches.now) (codes "interface")) same)
