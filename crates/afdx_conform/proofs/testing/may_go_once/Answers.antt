use Rattle.std.proofs.Common.{◌≤◌, length, true, false, sym, ◌∙◌, arith}
use Rattle.afdx_conform.specs.Marks.{arrival_of}
use Rattle.afdx_conform.specs.Testing.{may_go}
use Rattle.afdx_conform.specs.declared.states.StreamState.{StreamState}
use Rattle.afdx_conform.proofs.ArrivalLemmas.{any-held, any-held-end}
use Rattle.afdx_conform.proofs.testing.may_go_once.Goals as goal

abbrev no-held : StreamState
no-held = record { passed = 0; levels = record { lo = 0; hi = 0 }; waiting = 0 }

pub returns-then-may_go_from : goal.returns-then-may_go_from
returns-then-may_go_from c z ys last r j ns =
    sym (c.loop-state.invariant z ys last r j ns
    ∙ any-held ys (λ s. may_go z last (arrival_of c.args.arrived.now) s) c.args.held.now c.loop-state.state-index
    no-held true
    c.loop-state-test.true (sym (c.may_go_from.ensures z ys last r j ns) ∙ c.if-may_go_from.true))

pub loop-state-preserved : goal.loop-state-preserved
loop-state-preserved c z ys last r j ns =
    c.loop-state.invariant z ys last r j ns
    ∙ any-held ys (λ s. may_go z last (arrival_of c.args.arrived.now) s) c.args.held.now c.loop-state.state-index
    no-held false
    c.loop-state-test.true (sym (c.may_go_from.ensures z ys last r j ns) ∙ c.if-may_go_from.false)

pub returns : goal.returns
returns c z ys last r j ns =
    let past : length c.args.held.now ≤ c.loop-state.state-index =
    (let h = c.loop-state-test.false in omega (arith, h)) in
    sym (c.loop-state.invariant z ys last r j ns
    ∙ any-held-end ys (λ s. may_go z last (arrival_of c.args.arrived.now) s) c.args.held.now c.loop-state.state-index
    past)
