use Rattle.std.proofs.Common.{◌≡◌, ◌||◌, ◌∙◌, sym, ap, subst, arith, length}
use Rattle.afdx_solve.specs.Raising.{IsSettledAt}
use Rattle.afdx_solve.proofs.LoopLemmas.{raised-next}
use Rattle.afdx_solve.proofs.raising.raise_all.Goals.{then-raised, else-raised}
use Rattle.afdx_solve.proofs.raising.raise_all.Goals as goal

pub loop-k-preserved : goal.loop-k-preserved
loop-k-preserved c =
    let o = c.args.options in
    let one = c.raise_at-one.result in
    let both : c.if-raised.raised ≡ c.loop-k.raised || one =
    elim c.if-raised.branch [
      | then-raised w ↦ w.raised-is ∙ w.if-raised.true ∙ ap (λ b. b || one) (sym w.if-raised.true)
      | else-raised w ↦ w.raised-is ∙ ap (λ b. b || one) (sym w.if-raised.false)
    ] in
    raised-next o (IsSettledAt o) c.args.switches.now c.loop-k.switches c.raise_at-one.new.switches c.loop-k.raised one
    c.if-raised.raised c.loop-k.k both c.loop-k.invariant c.raise_at-one.ensures.raises
    (λ no none. c.raise_at-one.ensures.settled none)

pub returns-clause-settled : goal.returns-clause-settled
returns-clause-settled c = λ none k less.
    let same = c.loop-k.invariant.raises.same none in
    subst (λ ss. IsSettledAt c.args.options ss k) (sym same)
    (c.loop-k.invariant.settled none k (omega (arith, less, ap length same, c.id_count-count.ensures.count)))
