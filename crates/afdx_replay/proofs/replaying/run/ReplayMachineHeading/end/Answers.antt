use Rattle.std.proofs.Common.{arith, List, subst, sym, inl}
use Rattle.afdx_police.specs.Arrival.{Arrival}
use Rattle.afdx_input_sources.specs.Items.{arrivals}
use Rattle.afdx_replay.specs.replaying.Early.{HearsEarly}
use Rattle.afdx_replay.specs.replaying.Replayed.{WritesSome, ToldAll}
use Rattle.afdx_text.proofs.OutputLemmas.{on-err}
use Rattle.afdx_replay.proofs.replaying.run.ReplayMachineHeading.end.Goals as goal

pub returns-clause-done : goal.returns-clause-done
returns-clause-done g c = λ rules start past h. (
  subst (λ (p : List Arrival). ToldAll rules.0 c.tell_departures.new.self.counts start
      (g.O.Sink.written c.tell_departures.new.output) p) h.told.arrivals_are
      (c.in_ok-tell_departures.ensures.all_done rules.0 h.told.events start h.told.told (omega arith)),
  subst (λ e. HearsEarly g.D.Write.contents rules.0 rules.1 e (arrivals past))
      (sym c.tell_departures.ensures.early) h.heard,
)

pub returns-in_err-tell_departures-clause-begins : goal.returns-in_err-tell_departures-clause-begins
returns-in_err-tell_departures-clause-begins g c = λ rules start past h.
    on-err c.from_residual.result _ (
      subst (λ (p : List Arrival). WritesSome rules.0 start (g.O.Sink.written c.tell_departures.new.output) p)
          h.told.arrivals_are (c.in_err-tell_departures.ensures.some rules.0 h.told.events start h.told.told),
      inl (subst (λ e. HearsEarly g.D.Write.contents rules.0 rules.1 e (arrivals past))
          (sym c.tell_departures.ensures.early) h.heard),
    )
