use Rattle.std.proofs.Common.{rules, List, [], ◌∷◌, ◌++◌, ap, ◌∙◌}
use Rattle.std.proofs.lemmas.Fn.{filter_same}
use Rattle.std.specs.Prelude.{not}
use Rattle.afdx_conform.specs.HeldStates.{outdoes}
use Rattle.afdx_conform.specs.declared.states.StreamState.{StreamState}
use Rattle.afdx_conform.proofs.KeepLemmas.{kept-if-outdone, kept-if-not}
use Rattle.afdx_conform.proofs.states.keep.Goals as goal

pub returns-then-is_outdone : goal.returns-then-is_outdone
returns-then-is_outdone c = kept-if-outdone c.args.state c.args.held.now.items (search rules)

pub returns : goal.returns
returns c = kept-if-not c.args.state c.args.held.now.items c.push.new.self.items (search rules)
    (c.in_ok-push.ensures.items
    ∙ ap (λ (l : List StreamState). l ++ (c.args.state ∷ []))
    (filter_same _ (λ (h : StreamState). not (outdoes c.args.state h)) _ (λ x b f' k. search rules) _ _
    c.retain.ensures.filtered))
