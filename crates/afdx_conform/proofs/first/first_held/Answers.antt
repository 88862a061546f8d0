use Rattle.std.proofs.Common.{rules, ◌≡◌, [], map, length, get_or, sym, ap, ◌∙◌, arith}
use Rattle.std.proofs.lemmas.List.Elements.{All-push, All-nil, All-same}
use Rattle.afdx_conform.specs.Explanations.{link}
use Rattle.afdx_conform.specs.HeldStates.{IsWithin}
use Rattle.afdx_conform.specs.Levels.{Levels}
use Rattle.afdx_conform.specs.Limits.{gone_of}
use Rattle.afdx_conform.specs.States.{first_states}
use Rattle.afdx_conform.specs.declared.states.StreamState.{StreamState}
use Rattle.afdx_conform.proofs.DeviateLemmas.{gone-past}
use Rattle.afdx_conform.proofs.DeviateSteps.{gone-here}
use Rattle.afdx_conform.proofs.FirstLemmas.{first-one, first-end, first-stop, first-more}
use Rattle.afdx_conform.proofs.first.first_held.Goals as goal

pub loop-place-init : goal.loop-place-init
loop-place-init c =
    let one = c.in_ok-out.ensures.items in
    record {
      defined = λ z b by. first-one z c.first_levels-levels.result (map gone_of c.args.frames.now) _ one;
      within = All-same (λ (h : StreamState). IsWithin c.args.bounds.now.rates (length c.args.frames.now) 0 h) _ _ one
          (All-push (λ (h : StreamState). IsWithin c.args.bounds.now.rates (length c.args.frames.now) 0 h) []
          (record { passed = 0; levels = c.first_levels-levels.result; waiting = 0 })
          (All-nil (λ (h : StreamState). IsWithin c.args.bounds.now.rates (length c.args.frames.now) 0 h))
          (record {
            passed = omega arith;
            waiting = omega arith;
            levels = c.first_levels-levels.ensures.bounded;
            near = c.first_levels-levels.ensures.near;
          }));
    }

pub loop-place-preserved : goal.loop-place-preserved
loop-place-preserved c = record {
  defined = λ z b by.
      let is : c.index-frames-place.result ≡ get_or c.args.frames.now c.loop-place.place c.index-frames-place.result =
      search rules in
      first-more z c.first_levels-levels.result (map gone_of c.args.frames.now) c.loop-place.out.items
      c.loop-place.place
      (gone_of c.index-frames-place.result) (c.loop-place.invariant.defined z b by)
      (gone-here c.args.frames.now c.loop-place.place c.index-frames-place.result c.loop-place-test.true is) _
      (sym (c.is_begun.ensures z b.limits by) ∙ c.if-is_begun.true) c.in_ok-push.ensures.items;
  within = All-same (λ (h : StreamState). IsWithin c.args.bounds.now.rates (length c.args.frames.now) 0 h) _ _
      c.in_ok-push.ensures.items
      (All-push (λ (h : StreamState). IsWithin c.args.bounds.now.rates (length c.args.frames.now) 0 h)
      c.loop-place.out.items _
      c.loop-place.invariant.within
      (record {
        passed = (let lt = c.loop-place-test.true in omega (arith, lt));
        waiting = omega arith;
        levels = c.first_levels-levels.ensures.bounded;
        near = c.first_levels-levels.ensures.near;
      }));
}

pub returns-else-is_begun-clause-defined : goal.returns-else-is_begun-clause-defined
returns-else-is_begun-clause-defined c z b by =
    let is : c.index-frames-place.result ≡ get_or c.args.frames.now c.loop-place.place c.index-frames-place.result =
    search rules in
    first-stop z c.first_levels-levels.result (map gone_of c.args.frames.now) c.loop-place.out.items c.loop-place.place
    (gone_of c.index-frames-place.result) (c.loop-place.invariant.defined z b by)
    (gone-here c.args.frames.now c.loop-place.place c.index-frames-place.result c.loop-place-test.true is)
    (sym (c.is_begun.ensures z b.limits by) ∙ c.if-is_begun.false)
    ∙ ap (λ (v : Levels). first_states z v (map gone_of c.args.frames.now))
    (c.first_levels-levels.ensures.defined (link z) z.by b.rates by)

pub returns-else-is_begun-clause-within : goal.returns-else-is_begun-clause-within
returns-else-is_begun-clause-within c = c.loop-place.invariant.within

pub returns-clause-defined : goal.returns-clause-defined
returns-clause-defined c z b by =
    first-end z c.first_levels-levels.result (map gone_of c.args.frames.now) c.loop-place.out.items c.loop-place.place
    (gone-past c.args.frames.now c.loop-place.place (let h = c.loop-place-test.false in omega (arith, h)))
    (c.loop-place.invariant.defined z b by)
    ∙ ap (λ (v : Levels). first_states z v (map gone_of c.args.frames.now))
    (c.first_levels-levels.ensures.defined (link z) z.by b.rates by)

pub returns-clause-within : goal.returns-clause-within
returns-clause-within c = c.loop-place.invariant.within
