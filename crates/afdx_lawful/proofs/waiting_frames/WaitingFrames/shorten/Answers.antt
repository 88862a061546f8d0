use Rattle.std.proofs.Common.{arith, ap, replicate, subst, sym, ◌∙◌}
use Rattle.afdx_lawful.specs.Rings.{AreWaiting, held_in}
use Rattle.afdx_lawful.proofs.WaitingLemmas.{few, none_gone, shorter}
use Rattle.afdx_lawful.proofs.waiting_frames.WaitingFrames.shorten.Goals as goal

pub overflow_sub-len : goal.overflow_sub-len
overflow_sub-len c =
    let w = c.self.inside in
    omega (arith, (few w.slots.items w.first w.from w.count c.self.invariant).0, c.len.ensures)

pub let_go-requires : goal.let_go-requires
let_go-requires c =
    let w = c.self.inside in
    (few w.slots.items w.first w.from w.count c.self.invariant).0

pub invariant_of-self : goal.invariant_of-self
invariant_of-self c =
    let w = c.self.inside in
    subst (λ slots. AreWaiting slots 0 (replicate 256 0) w.count) (sym c.let_go.ensures)
    (shorter w.slots.items w.first w.from w.count c.self.invariant)

pub returns : goal.returns
returns c =
    let w = c.self.inside in
    ap held_in c.let_go.ensures ∙ none_gone w.slots.items w.first w.from w.count c.self.invariant ∙ c.self.view_is
