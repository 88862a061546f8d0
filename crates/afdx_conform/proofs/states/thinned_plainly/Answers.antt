use Rattle.std.proofs.Common.{List, [], map, get_or, sym, ap, ◌∙◌, subst, arith}
use Rattle.std.proofs.lemmas.List.{take_all}
use Rattle.std.specs.Prelude.{All}
use Rattle.std.proofs.lemmas.List.Elements.{All-nil}
use Rattle.afdx_conform.specs.HeldStates.{state_of, AreFront, IsWithin}
use Rattle.afdx_conform.specs.Thinned.{AreEnough}
use Rattle.afdx_conform.specs.declared.states.StreamState.{StreamState}
use Rattle.afdx_conform.proofs.KeepLemmas.{enough-none, enough-next, kept-front, front-none, kept-all}
use Rattle.afdx_conform.proofs.FewLemmas.{AreFew, few-none, few-next}
use Rattle.afdx_conform.specs.Findings.{thinned_onto}
use Rattle.afdx_conform.proofs.states.thinned_plainly.Goals as goal

abbrev no-held : StreamState
no-held = record { passed = 0; levels = record { lo = 0; hi = 0 }; waiting = 0 }

pub loop-state-init : goal.loop-state-init
loop-state-init c = (
  λ ys. subst (λ (l : List StreamState). AreEnough [] (map (state_of ys) l)) (sym c.new-out.ensures.items)
      (enough-none ys),
  subst (λ (l : List StreamState). AreFront l) (sym c.new-out.ensures.items) front-none,
  λ ys all. subst (λ (l : List StreamState). AreFew ys l []) (sym c.new-out.ensures.items) (few-none ys),
  λ rates frames count all. subst (λ (l : List StreamState). All (λ h. IsWithin rates frames count h) l)
      (sym c.new-out.ensures.items)
      (All-nil (λ (h : StreamState). IsWithin rates frames count h)),
)

pub loop-state-preserved : goal.loop-state-preserved
loop-state-preserved c = (
  λ ys. enough-next ys c.args.held.now c.loop-state.out.items c.keep.new.held.items c.loop-state.state-index no-held
      c.loop-state-test.true (c.loop-state.invariant.0 ys) c.in_ok-keep.ensures,
  kept-front (get_or c.args.held.now c.loop-state.state-index no-held) c.loop-state.out.items c.keep.new.held.items
      c.loop-state.invariant.1 c.in_ok-keep.ensures,
  λ ys all. few-next ys c.args.held.now c.loop-state.out.items c.keep.new.held.items c.loop-state.state-index no-held
      c.loop-state-test.true (all c.loop-state.state-index no-held c.loop-state-test.true)
      (c.loop-state.invariant.2 ys all)
      c.in_ok-keep.ensures,
  λ rates frames count all. subst (λ (l : List StreamState). All (λ h. IsWithin rates frames count h) l)
      (sym c.in_ok-keep.ensures)
      (kept-all (λ h. IsWithin rates frames count h) (get_or c.args.held.now c.loop-state.state-index no-held)
      c.loop-state.out.items
      (c.loop-state.invariant.3 rates frames count all) (all c.loop-state.state-index no-held c.loop-state-test.true)),
)

pub returns-clause-enough : goal.returns-clause-enough
returns-clause-enough c ys =
    subst (λ (l : List StreamState). AreEnough (map (state_of ys) l) (map (state_of ys) c.loop-state.out.items))
    (take_all c.loop-state.state-index c.args.held.now (let h = c.loop-state-test.false in omega (arith, h)))
    (c.loop-state.invariant.0 ys)

pub returns-clause-front : goal.returns-clause-front
returns-clause-front c = c.loop-state.invariant.1

pub returns-clause-defined : goal.returns-clause-defined
returns-clause-defined c ys all =
    (c.loop-state.invariant.2 ys all).same
    ∙ ap (λ (l : List StreamState). thinned_onto [] (map (state_of ys) l))
    (take_all c.loop-state.state-index c.args.held.now (let h = c.loop-state-test.false in omega (arith, h)))

pub returns-clause-within : goal.returns-clause-within
returns-clause-within c = c.loop-state.invariant.3
