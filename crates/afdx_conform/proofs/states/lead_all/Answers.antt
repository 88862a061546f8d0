use Rattle.std.specs.Prelude.{All}
use Rattle.std.proofs.lemmas.List.Elements.{All-nil, All-append}
use Rattle.std.proofs.Common.{ℕ, ◌+◌, subst, List, ◌++◌, map, take, get_or, sym, ap, ◌∙◌, arith}
use Rattle.std.proofs.lemmas.List.{take_all}
use Rattle.std.specs.Option.{option_to_list}
use Rattle.afdx_conform.specs.Explanations.{link, levels_then}
use Rattle.afdx_conform.specs.HeldStates.{state_of, IsWithin}
use Rattle.afdx_conform.specs.States.{State, led_by, states_at}
use Rattle.afdx_conform.specs.declared.states.Case.{Case}
use Rattle.afdx_conform.specs.declared.states.StreamState.{StreamState}
use Rattle.afdx_conform.specs.Levels.{Levels, later}
use Rattle.afdx_conform.specs.declared.states.NextFrame.TheVariants.{Fits}
use Rattle.afdx_conform.proofs.HeldLemmas.{one-more, pushed, two-pushed}
use Rattle.afdx_conform.proofs.states.lead_all.Goals as goal

pub loop-case-init : goal.loop-case-init
unfolding led_by
loop-case-init c = (
  λ z x ys last r e g all. ap (λ (l : List StreamState). map (state_of ys) l) c.new-out.ensures.items,
  λ link by frames count r all. subst
      (λ (l : List StreamState). All (λ h. IsWithin c.args.rates.now frames (count + 1) h) l)
      (sym c.new-out.ensures.items) (All-nil (λ (h : StreamState). IsWithin c.args.rates.now frames (count + 1) h)),
)

pub returns-clause-defined : goal.returns-clause-defined
returns-clause-defined c z x ys last r e g all =
    c.loop-case.invariant.0 z x ys last r e g all
    ∙ ap (λ (l : List Case). led_by (λ s. states_at z x (levels_then z s.levels last x) s)
    (map (λ d. state_of ys d.held) l))
    (take_all c.loop-case.case-index c.args.cases.now (let h = c.loop-case-test.false in omega (arith, h)))

abbrev no-case : Case
no-case = record { held = record { passed = 0; levels = record { lo = 0; hi = 0 }; waiting = 0 }; next = Fits }

pub loop-case-preserved : goal.loop-case-preserved
loop-case-preserved c = (
  λ z x ys last r e g all.
      let i : ℕ = c.loop-case.case-index in
      let so_far = c.loop-case.invariant.0 z x ys last r e g all in
      let lead = c.lead-accepted.ensures.defined z x ys r e (all c.loop-case.case-index no-case c.loop-case-test.true)
      in
      let levels = c.later-levels.ensures.moved (link z) z.by r
      ∙ ap (λ (n : ℕ). later (link z) z.by n (get_or c.args.cases.now c.loop-case.case-index no-case).held.levels) g in
      pushed (state_of ys) c.loop-case.out.items c.push_some.new.out.items c.push_some-in-loop-case.new.out.items
      (option_to_list c.lead-accepted.result.0) (option_to_list c.lead-accepted.result.1)
      c.in_ok-push_some.ensures c.in_ok-push_some-2.ensures
      ∙ ap (λ (l : List State). l ++ map (state_of ys)
      (option_to_list c.lead-accepted.result.0 ++ option_to_list c.lead-accepted.result.1)) so_far
      ∙ ap (λ (l : List State). led_by (λ s. states_at z x (levels_then z s.levels last x) s)
      (map (λ d. state_of ys d.held) (take c.loop-case.case-index c.args.cases.now)) ++ l)
      (sym lead
      ∙ ap
      (λ (v : Levels). states_at z x v
      (state_of ys (get_or c.args.cases.now c.loop-case.case-index no-case).held)) levels)
      ∙ sym (one-more (λ s. states_at z x (levels_then z s.levels last x) s) (λ d. state_of ys d.held) c.args.cases.now
      c.loop-case.case-index no-case c.loop-case-test.true),
  λ link by frames count r all.
      let case = all c.loop-case.case-index no-case c.loop-case-test.true in
      let near = c.later-levels.ensures.near link by r case.held.near in
      subst (λ (l : List StreamState). All (λ h. IsWithin c.args.rates.now frames (count + 1) h) l)
      (sym (two-pushed c.loop-case.out.items c.push_some.new.out.items c.push_some-in-loop-case.new.out.items
      (option_to_list c.lead-accepted.result.0) (option_to_list c.lead-accepted.result.1)
      c.in_ok-push_some.ensures c.in_ok-push_some-2.ensures))
      (All-append (λ (h : StreamState). IsWithin c.args.rates.now frames (count + 1) h) c.loop-case.out.items _
      (c.loop-case.invariant.1 link by frames count r all)
      (c.lead-accepted.ensures.within frames count case.held.passed case.held.waiting near case.left)),
)

pub returns-clause-within : goal.returns-clause-within
returns-clause-within c link by frames count r all = c.loop-case.invariant.1 link by frames count r all
