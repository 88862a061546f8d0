use Rattle.std.proofs.Common.{List, map, ap, ◌∙◌}
use Rattle.std.proofs.lemmas.List.Elements.{All-same}
use Rattle.afdx_conform.specs.HeldStates.{IsWithin, state_of}
use Rattle.afdx_conform.specs.declared.states.StreamState.{StreamState}
use Rattle.afdx_conform.proofs.arriving.go_on.Goals as goal

pub returns-clause-thinned : goal.returns-clause-thinned
returns-clause-thinned c ys all =
    ap (λ (l : List StreamState). map (state_of ys) l) c.settle.ensures.held ∙ c.in_ok-few.ensures.defined ys all

pub returns-clause-within : goal.returns-clause-within
returns-clause-within c rates frames count all =
    All-same (λ (h : StreamState). IsWithin rates frames count h) _ _ c.settle.ensures.held
    (c.in_ok-few.ensures.within rates frames count all)
