use Rattle.std.proofs.Common.{◌≤◌, length, true, false, sym, ◌∙◌, arith}
use Rattle.afdx_conform.specs.Marks.{arrival_of}
use Rattle.afdx_conform.specs.Testing.{goes_either_way}
use Rattle.afdx_conform.specs.declared.states.StreamState.{StreamState}
use Rattle.afdx_conform.proofs.ArrivalLemmas.{any-held, any-held-end}
use Rattle.afdx_conform.proofs.testing.is_uncertain.Goals as goal

abbrev no-held : StreamState
no-held = record { passed = 0; levels = record { lo = 0; hi = 0 }; waiting = 0 }

pub returns-then-goes_both_ways : goal.returns-then-goes_both_ways
returns-then-goes_both_ways c z ys last r j ns =
    sym (c.loop-state.invariant z ys last r j ns
    ∙ any-held ys (λ s. goes_either_way z last (arrival_of c.args.arrived.now) s) c.args.held.now
    c.loop-state.state-index no-held true
    c.loop-state-test.true (sym (c.goes_both_ways.ensures z ys last r j ns) ∙ c.if-goes_both_ways.true))

pub loop-state-preserved : goal.loop-state-preserved
loop-state-preserved c z ys last r j ns =
    c.loop-state.invariant z ys last r j ns
    ∙ any-held ys (λ s. goes_either_way z last (arrival_of c.args.arrived.now) s) c.args.held.now
    c.loop-state.state-index no-held false
    c.loop-state-test.true (sym (c.goes_both_ways.ensures z ys last r j ns) ∙ c.if-goes_both_ways.false)

pub returns : goal.returns
returns c z ys last r j ns =
    let past : length c.args.held.now ≤ c.loop-state.state-index =
    (let h = c.loop-state-test.false in omega (arith, h)) in
    sym (c.loop-state.invariant z ys last r j ns
    ∙ any-held-end ys (λ s. goes_either_way z last (arrival_of c.args.arrived.now) s) c.args.held.now
    c.loop-state.state-index past)
