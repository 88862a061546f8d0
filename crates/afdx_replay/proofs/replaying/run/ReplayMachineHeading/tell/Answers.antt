use Rattle.std.proofs.Common.{arith, add-one, sym, length, subst, inl, inr}
use Rattle.afdx_input_sources.specs.Items.{arrivals}
use Rattle.afdx_replay.specs.replaying.Early.{HearsEarly}
use Rattle.afdx_text.proofs.OutputLemmas.{on-err}
use Rattle.afdx_replay.proofs.replaying.run.ReplayMachineHeading.tell.Goals as goal

pub returns-clause-told : goal.returns-clause-told
returns-clause-told g c = λ rules start past h follows can.
    let t = rules.0 in
    let now = c.in_ok-reason.ensures.told t start (arrivals past) h.told in
    record {
      told = now;
      heard = c.explain.ensures t now.events rules.1 (arrivals past) now.told.switches_are now.arrivals_are
          (c.in_ok-reason.ensures.reason t start (arrivals past) h.told)
          (subst (λ e. HearsEarly g.D.Write.contents t rules.1 e (arrivals past))
          (sym c.tell_arrival.ensures.early) h.heard);
      early = follows.in_order.early;
      clock = c.in_ok-reason.ensures.clock;
      few = omega (arith, follows.in_order.few);
      room = rw add-one at (c.in_ok-reason.ensures.room (length past) h.room);
    }

pub returns-in_err-reason-clause-begins : goal.returns-in_err-reason-clause-begins
returns-in_err-reason-clause-begins g c = λ rules start past h.
    let heard = subst (λ e. HearsEarly g.D.Write.contents rules.0 rules.1 e (arrivals past))
    (sym c.tell_arrival.ensures.early) h.heard in
    on-err c.from_residual.result _ (elim (c.in_err-reason.ensures.some rules.0 start (arrivals past) h.told) [
      | inl some ↦ inl (some, inl heard)
      | inr some ↦ inr (some, inr heard)
    ])
