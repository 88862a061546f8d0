use Rattle.std.proofs.Common.{rules, ◌≡◌, ◌++◌, [], ◌∷◌}
use Rattle.afdx_command_words.proofs.WordsLemmas.{links-more}
use Rattle.afdx_command_words.proofs.conform_words.links_in.Goals as goal

pub loop-word-preserved : goal.loop-word-preserved
loop-word-preserved c =
    let pushed : c.push.new.self.items ≡ c.loop-word.links.items ++ c.in_ok-link.link ∷ [] = search rules in
    links-more c.args.words.now c.loop-word.word-index _ c.loop-word.links.items c.push.new.self.items
    c.in_ok-link.link c.loop-word-test.true c.loop-word.invariant c.in_ok-link.ensures pushed
