use Rattle.std.proofs.Common.{List, ◌++◌, get_or, sym, ap, ◌∙◌, subst, arith}
use Rattle.afdx_conform.specs.declared.states.StreamState.{StreamState}
use Rattle.afdx_conform.proofs.ApartLemmas.{AreBelow, below-none, below-on, kept-of-none, kept-of-next, kept-of-set-aside, kept-of-all}
use Rattle.afdx_conform.proofs.states.thinned_in_order.Goals as goal

abbrev no-held : StreamState
no-held = record { passed = 0; levels = record { lo = 0; hi = 0 }; waiting = 0 }

pub loop-state-init : goal.loop-state-init
loop-state-init c = (
  kept-of-none c.args.held.now (c.new-done.result.items ++ c.new-few.result.items)
      (ap (λ (l : List StreamState). l ++ c.new-few.result.items) c.new-done.ensures.items ∙ c.new-few.ensures.items),
  subst (λ (l : List StreamState). AreBelow 0 l) (sym c.new-done.ensures.items) (below-none 0),
)

below : (c : goal.In_ok-keep) → AreBelow c.unwrap_or-least.result c.set_aside.new.done.items
below c = c.in_ok-set_aside.ensures.below (below-on c.loop-state.top c.unwrap_or-least.result c.loop-state.done.items
    (let h = c.if-least-top.false in omega (arith, h)) c.loop-state.invariant.1)

pub loop-state-preserved : goal.loop-state-preserved
loop-state-preserved c = (
  kept-of-next c.args.held.now (c.loop-state.done.items ++ c.loop-state.few.items)
      (c.set_aside.new.done.items ++ c.keep.new.held.items) c.loop-state.state-index no-held c.loop-state-test.true
      c.loop-state.invariant.0
      (kept-of-set-aside (get_or c.args.held.now c.loop-state.state-index no-held)
      c.loop-state.done.items c.loop-state.few.items c.set_aside.new.done.items c.set_aside.new.few.items
      c.keep.new.held.items c.unwrap_or-least.result c.in_ok-set_aside.ensures.same (below c)
      (let h = c.if-state-least.false in omega (arith, h)) c.in_ok-keep.ensures),
  below c,
)

pub returns-clause-enough : goal.returns-clause-enough
returns-clause-enough c = (kept-of-all c.args.held.now (c.loop-state.done.items ++ c.loop-state.few.items)
    c.extend_from_slice.new.self.items c.loop-state.state-index (let h = c.loop-state-test.false in omega (arith, h))
    c.loop-state.invariant.0
    (c.in_ok-extend_from_slice.ensures.items ∙ ap (λ (l : List StreamState). c.loop-state.done.items ++ l)
    c.as_slice.ensures.value)).enough

pub returns-clause-front : goal.returns-clause-front
returns-clause-front c = (kept-of-all c.args.held.now (c.loop-state.done.items ++ c.loop-state.few.items)
    c.extend_from_slice.new.self.items c.loop-state.state-index (let h = c.loop-state-test.false in omega (arith, h))
    c.loop-state.invariant.0
    (c.in_ok-extend_from_slice.ensures.items ∙ ap (λ (l : List StreamState). c.loop-state.done.items ++ l)
    c.as_slice.ensures.value)).front

pub returns-clause-within : goal.returns-clause-within
returns-clause-within c = (kept-of-all c.args.held.now (c.loop-state.done.items ++ c.loop-state.few.items)
    c.extend_from_slice.new.self.items c.loop-state.state-index (let h = c.loop-state-test.false in omega (arith, h))
    c.loop-state.invariant.0
    (c.in_ok-extend_from_slice.ensures.items ∙ ap (λ (l : List StreamState). c.loop-state.done.items ++ l)
    c.as_slice.ensures.value)).within

pub returns-clause-defined : goal.returns-clause-defined
returns-clause-defined c ys all = ((kept-of-all c.args.held.now (c.loop-state.done.items ++ c.loop-state.few.items)
    c.extend_from_slice.new.self.items c.loop-state.state-index (let h = c.loop-state-test.false in omega (arith, h))
    c.loop-state.invariant.0
    (c.in_ok-extend_from_slice.ensures.items
    ∙ ap (λ (l : List StreamState). c.loop-state.done.items ++ l) c.as_slice.ensures.value)).few ys all).same
