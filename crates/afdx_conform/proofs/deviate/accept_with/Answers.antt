use Rattle.std.proofs.Common.{List, map, ap, ◌∙◌}
use Rattle.std.proofs.lemmas.List.Elements.{All-same}
use Rattle.std.specs.Prelude.{IsTrue}
use Rattle.afdx_conform.specs.Accounts.{AreNear}
use Rattle.afdx_conform.specs.Explanations.{link, charge, levels_then}
use Rattle.afdx_conform.specs.Findings.{aged, as_accepted}
use Rattle.afdx_conform.specs.HeldStates.{IsWithin, state_of}
use Rattle.afdx_conform.specs.Levels.{has_to_pass}
use Rattle.afdx_conform.specs.Marks.{arrival_of}
use Rattle.afdx_conform.specs.declared.states.StreamState.{StreamState}
use Rattle.afdx_conform.proofs.deviate.accept_with.Goals as goal

pub returns-clause-defined : goal.returns-clause-defined
returns-clause-defined c z ys last r k ns near must =
    c.in_ok-held.ensures.defined z ys last r k ns
    (All-same (λ (h : StreamState). AreNear c.args.rates.now h.levels) _ _ c.as_slice-before.ensures.value near)
    (All-same (λ (h : StreamState). IsTrue
    (has_to_pass (link z) z.by (charge z (arrival_of c.args.coming.now.arrived.now))
    (levels_then z h.levels last (arrival_of c.args.coming.now.arrived.now)))) _ _ c.as_slice-before.ensures.value must)
    ∙ ap (λ (l : List StreamState). as_accepted z (arrival_of c.args.coming.now.arrived.now)
    (aged z last (arrival_of c.args.coming.now.arrived.now) (map (state_of ys) l))) c.as_slice-before.ensures.value

pub returns-clause-within : goal.returns-clause-within
returns-clause-within c link by frames count r all =
    c.in_ok-held.ensures.within link by frames count r
    (All-same (λ (h : StreamState). IsWithin c.args.rates.now frames count h) _ _ c.as_slice-before.ensures.value all)
