use Rattle.std.proofs.Common.{◌∙◌, ◌≡◌, List, None, Option, Some, codes, refl, subst, ℕ}
use Rattle.clap.specs.Words.{found_of, matched_of}
use Rattle.afdx_input_sources.specs.Places.{names_of, place_of}
use Rattle.afdx_command_words.specs.PlaceSaid.{IsWord}
use Rattle.afdx_command_words.specs.Placed.{ArePutBeside, Gone, OfAll}
use Rattle.afdx_command_words.specs.Said.{words_of}
use Rattle.afdx_command_words.specs.WordLaws.{spot_with}
use Rattle.afdx_command_words.proofs.PlacedLemmas.{none-put, on-ok}
use Rattle.afdx_command_words.proofs.PuttingLemmas.{gone-next, option-put}
use Rattle.afdx_command_words.proofs.WordsLemmas.{words-found}
use Rattle.afdx_command_words.proofs.seen_words.put_left.Goals as goal

pub loop-word-init : goal.loop-word-init
loop-word-init c = (none-put OfAll Gone (place_of c.args.interfaces.now), refl)

pub loop-word-preserved : goal.loop-word-preserved
loop-word-preserved c = (
  let interface = c.in_ok-interface.interface in
      let spot = spot_with c.in_ok-interface.side None (Some c.in-Some.port) in
      let told = subst
      (λ (port : Option ℕ). IsWord c.left-given.result.word.now interface (spot_with c.in_ok-interface.side None port))
      c.in-Some.is c.in_ok-interface.ensures.said in
      let is = subst (λ (word : List ℕ). IsWord word interface spot) c.left-given.ensures told in
      gone-next c.unwrap_or-words.result.now c.loop-word.word-index _ (place_of c.args.interfaces.now)
      c.loop-word.interfaces c.put_new.new.interfaces c.in_ok-interface.interface c.in_ok-interface.side
      c.in-Some.port c.loop-word-test.true c.loop-word.invariant.0 is c.in_ok-put_new.ensures,
  c.in_ok-put_new.ensures.names ∙ c.loop-word.invariant.1,
)

pub returns-clause-put : goal.returns-clause-put
returns-clause-put c =
    let same = words-found c.get_strs.result _ c.unwrap_or-words.result
    (matched_of (found_of c.args.matches.now) (codes "left")) c.get_strs.ensures c.unwrap_or-words.ensures refl in
    on-ok c.any_of.result
    (ArePutBeside OfAll Gone (words_of (found_of c.args.matches.now) (codes "left")) (place_of c.args.interfaces.now)
    (place_of c.loop-word.interfaces))
    (option-put OfAll Gone c.unwrap_or-words.result.now c.loop-word.word-index (place_of c.args.interfaces.now)
    (place_of c.loop-word.interfaces) c.loop-word-test.false c.loop-word.invariant.0
    (words_of (found_of c.args.matches.now) (codes "left")) same)

pub returns-clause-names : goal.returns-clause-names
returns-clause-names c =
    on-ok c.any_of.result (names_of c.loop-word.interfaces ≡ names_of c.args.interfaces.now) c.loop-word.invariant.1
