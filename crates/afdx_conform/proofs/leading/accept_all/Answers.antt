use Rattle.std.proofs.Common.{◌≡◌, ℕ, List, [], ◌∷◌, ◌++◌, map, take, drop, get_or, sym, ap, ◌∙◌, subst, arith}
use Rattle.std.proofs.lemmas.List.{map-append, take_more, take_all}
use Rattle.std.proofs.lemmas.List.Elements.{All-nil, All-push}
use Rattle.std.specs.Prelude.{All, IsTrue}
use Rattle.afdx_conform.specs.Explanations.{link, charge, levels_then}
use Rattle.afdx_conform.specs.Findings.{aged, as_accepted}
use Rattle.afdx_conform.specs.HeldStates.{IsWithin, state_of}
use Rattle.afdx_conform.specs.Levels.{Levels, later, charged, has_to_pass}
use Rattle.afdx_conform.specs.Marks.{arrival_of}
use Rattle.afdx_conform.specs.States.{State, state_with}
use Rattle.afdx_conform.specs.declared.states.StreamState.{StreamState}
use Rattle.afdx_conform.proofs.DeviateLemmas.{accepted-more}
use Rattle.afdx_conform.proofs.leading.accept_all.Goals as goal

abbrev no-held : StreamState
no-held = record { passed = 0; levels = record { lo = 0; hi = 0 }; waiting = 0 }

pub loop-state-init : goal.loop-state-init
loop-state-init c = (
  λ z ys last r j ns near must. ap (λ (l : List StreamState). map (state_of ys) l) c.new-out.ensures.items,
  λ link by frames count r all. subst (λ (l : List StreamState). All (λ h. IsWithin c.args.rates.now frames count h) l)
      (sym c.new-out.ensures.items) (All-nil (λ (h : StreamState). IsWithin c.args.rates.now frames count h)),
)

pub loop-state-preserved : goal.loop-state-preserved
loop-state-preserved c = (
  λ z ys last r j ns near must.
      let moved : c.later-levels.result ≡ levels_then z (get_or c.args.held.now c.loop-state.state-index
      no-held).levels last
      (arrival_of c.args.arrived.now) =
      c.later-levels.ensures.moved (link z) z.by r
      ∙ ap (λ (n : ℕ). later (link z) z.by n (get_or c.args.held.now c.loop-state.state-index no-held).levels) ns in
      let passes = subst (λ (k : ℕ). IsTrue (has_to_pass (link z) z.by k c.later-levels.result)) (sym j.charge)
      (subst (λ (v : Levels). IsTrue (has_to_pass (link z) z.by (charge z (arrival_of c.args.arrived.now)) v))
      (sym moved)
      (must c.loop-state.state-index no-held c.loop-state-test.true)) in
      let taken = c.charged_with_room-levels.ensures.moved (link z) z.by r
      (c.later-levels.ensures.near (link z) z.by r (near c.loop-state.state-index no-held c.loop-state-test.true))
      passes
      ∙ ap (λ (k : ℕ). charged (link z) z.by k c.later-levels.result) j.charge
      ∙ ap (λ (v : Levels). charged (link z) z.by (charge z (arrival_of c.args.arrived.now)) v) moved in
      ap (λ (l : List StreamState). map (state_of ys) l) c.in_ok-push.ensures.items
      ∙ map-append (state_of ys) c.loop-state.out.items _
      ∙ ap
      (λ (l : List State). l
      ++ (state_with (drop (get_or c.args.held.now c.loop-state.state-index no-held).passed ys)
      c.charged_with_room-levels.result (get_or c.args.held.now c.loop-state.state-index no-held).waiting ∷ []))
      (c.loop-state.invariant.0 z ys last r j ns near must)
      ∙ ap (λ (v : Levels). as_accepted z (arrival_of c.args.arrived.now)
      (aged z last (arrival_of c.args.arrived.now) (map (state_of ys) (take c.loop-state.state-index c.args.held.now)))
      ++ (state_with (drop (get_or c.args.held.now c.loop-state.state-index no-held).passed ys) v
      (get_or c.args.held.now c.loop-state.state-index no-held).waiting ∷ [])) taken
      ∙ sym (accepted-more z (arrival_of c.args.arrived.now) last ys (take c.loop-state.state-index c.args.held.now)
      (get_or c.args.held.now c.loop-state.state-index no-held))
      ∙ ap (λ (l : List StreamState). as_accepted z (arrival_of c.args.arrived.now)
      (aged z last (arrival_of c.args.arrived.now) (map (state_of ys) l)))
      (sym (take_more c.args.held.now c.loop-state.state-index no-held c.loop-state-test.true)),
  λ link by frames count r all.
      let w = all c.loop-state.state-index no-held c.loop-state-test.true in
      subst (λ (l : List StreamState). All (λ h. IsWithin c.args.rates.now frames count h) l)
      (sym c.in_ok-push.ensures.items)
      (All-push (λ (h : StreamState). IsWithin c.args.rates.now frames count h) c.loop-state.out.items _
      (c.loop-state.invariant.1 link by frames count r all)
      (record {
        passed = w.passed;
        waiting = w.waiting;
        levels = c.charged_with_room-levels.ensures.bounded;
        near = c.charged_with_room-levels.ensures.near (c.later-levels.ensures.near link by r w.near);
      })),
)

pub returns-clause-defined : goal.returns-clause-defined
returns-clause-defined c z ys last r j ns near must =
    c.loop-state.invariant.0 z ys last r j ns near must
    ∙ ap (λ (l : List StreamState). as_accepted z (arrival_of c.args.arrived.now)
    (aged z last (arrival_of c.args.arrived.now) (map (state_of ys) l)))
    (take_all c.loop-state.state-index c.args.held.now (let h = c.loop-state-test.false in omega (arith, h)))

pub returns-clause-within : goal.returns-clause-within
returns-clause-within c link by frames count r all = c.loop-state.invariant.1 link by frames count r all
