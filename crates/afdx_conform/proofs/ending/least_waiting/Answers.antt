use Rattle.std.proofs.Common.{List, get_or, map, refl, ap, ◌∙◌, arith}
use Rattle.std.proofs.lemmas.List.{take_all}
use Rattle.afdx_conform.specs.HeldStates.{state_of}
use Rattle.afdx_conform.specs.Histories.{least_from}
use Rattle.afdx_conform.specs.declared.states.StreamState.{StreamState}
use Rattle.afdx_conform.proofs.LoopLemmas.{least-next, least-whole, some-held}
use Rattle.afdx_conform.proofs.ending.least_waiting.Goals as goal

abbrev no-held : StreamState
no-held = record { passed = 0; levels = record { lo = 0; hi = 0 }; waiting = 0 }

pub loop-state-init : goal.loop-state-init
unfolding least_from
loop-state-init c ys = refl

pub loop-state-preserved : goal.loop-state-preserved
loop-state-preserved c ys =
    least-next no-held ys c.args.held.now c.loop-state.state-index
    (get_or c.args.held.now 0 no-held).waiting c.loop-state.least c.min-least.result
    c.loop-state-test.true (c.loop-state.invariant ys) c.min-least.ensures

pub returns : goal.returns
returns c ys =
    c.loop-state.invariant ys
    ∙ ap (λ (l : List StreamState). least_from (get_or c.args.held.now 0 no-held).waiting (map (state_of ys) l))
    (take_all c.loop-state.state-index c.args.held.now (let h = c.loop-state-test.false in omega (arith, h)))
    ∙ least-whole ys c.args.held.now no-held (some-held c.args.held.now c.is_empty.ensures c.if-is_empty.false)
