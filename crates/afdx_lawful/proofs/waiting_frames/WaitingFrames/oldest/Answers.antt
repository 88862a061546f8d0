use Rattle.std.proofs.Common.{arith, ap, sym, true, None, Some, ◌∙◌}
use Rattle.std.specs.Prelude.{find}
use Rattle.afdx_lawful.specs.declared.waits.Waits.{Waits}
use Rattle.afdx_lawful.proofs.RingLemmas.{oldest_is}
use Rattle.afdx_lawful.proofs.WaitingLemmas.{first_there, none_first}
use Rattle.afdx_lawful.proofs.waiting_frames.WaitingFrames.oldest.Goals as goal

pub returns-then-self-len-clause-time : goal.returns-then-self-len-clause-time
returns-then-self-len-clause-time c side =
    let w = c.self.inside in
    oldest_is side c.args.self.now None
    ((none_first w.slots.items w.first w.from w.count c.self.invariant
    (omega (arith, c.if-self-len.true, c.len.ensures))).0
    ∙ ap (find (λ (x : Waits). true)) c.self.view_is)

pub returns-in-Some-clause-time : goal.returns-in-Some-clause-time
returns-in-Some-clause-time c side =
    let w = c.self.inside in
    oldest_is side c.args.self.now (Some c.in-Some.waits)
    (sym c.in-Some.is ∙ c.index.ensures
    ∙ (first_there w.slots.items w.first w.from w.count c.self.invariant
    (omega (arith, c.if-self-len.false, c.len.ensures)) c.index.result.now).0
    ∙ ap (find (λ (x : Waits). true)) c.self.view_is)

pub returns-in-None-clause-time : goal.returns-in-None-clause-time
returns-in-None-clause-time c side =
    let w = c.self.inside in
    oldest_is side c.args.self.now None
    (sym c.in-None.is ∙ c.index.ensures
    ∙ (first_there w.slots.items w.first w.from w.count c.self.invariant
    (omega (arith, c.if-self-len.false, c.len.ensures)) c.index.result.now).0
    ∙ ap (find (λ (x : Waits). true)) c.self.view_is)
