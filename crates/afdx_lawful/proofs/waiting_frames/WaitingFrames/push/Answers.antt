use Rattle.std.proofs.Common.{◌++◌, ◌∷◌, [], ◌+◌, List, arith, ap, subst, sym, ◌∙◌}
use Rattle.afdx_lawful.specs.Rings.{AreWaiting, held_in}
use Rattle.afdx_lawful.specs.declared.waits.Waits.{Waits}
use Rattle.afdx_lawful.proofs.SlotLemmas.{held_more}
use Rattle.afdx_lawful.proofs.WaitingLemmas.{few, more_waiting}
use Rattle.afdx_lawful.proofs.waiting_frames.WaitingFrames.push.Goals as goal

pub overflow_add-self : goal.overflow_add-self
overflow_add-self c =
    let w = c.self.inside in
    omega (arith, (few w.slots.items w.first w.from w.count c.self.invariant).1, w.slots.small)

pub invariant_of-self-2 : goal.invariant_of-self-2
invariant_of-self-2 c =
    let w = c.self.inside in
    subst (λ slots. AreWaiting slots w.first w.from (w.count + 1)) (sym c.in_ok-push.ensures.items)
    (more_waiting w.slots.items w.first w.from w.count c.self.invariant c.args.waits)

pub returns-clause-more : goal.returns-clause-more
returns-clause-more c =
    let w = c.self.inside in
    ap held_in c.in_ok-push.ensures.items ∙ held_more w.slots.items c.args.waits
    ∙ ap (λ (l : List Waits). l ++ c.args.waits ∷ []) (c.self.view_is ∙ c.shorten.ensures)
