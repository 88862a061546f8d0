use Rattle.std.proofs.Common.{rules, arith, ◌≡◌, List, subst, Err}
use Rattle.afdx_input_sources.specs.Listed.{Handed}
use Rattle.afdx_command_tables.specs.sending.Sent.{WritesSome}
use Rattle.afdx_command_tables.proofs.SendLemmas.{told-all}
use Rattle.afdx_command_tables.proofs.sending.run.SendingMachineHanded.end.Goals as goal

pub returns-clause-done : goal.returns-clause-done
returns-clause-done g c s start past h =
    told-all s _ _ _ _ start (g.O.Sink.written c.tell_emissions.new.output) h.told.events _
    (c.in_ok-tell_emissions.ensures.told s h.told.events start h.told.told) h.told.submissions_are
    (omega arith)

pub returns-in_err-tell_emissions-clause-begins : goal.returns-in_err-tell_emissions-clause-begins
returns-in_err-tell_emissions-clause-begins g c s start past h =
    let some = subst (λ (p : List Handed). WritesSome s start
    (g.O.Sink.written c.tell_emissions.new.output) p) h.told.submissions_are
    (c.in_err-tell_emissions.ensures.some s h.told.events start h.told.told) in
    let e : c.from_residual.result ≡ Err c.in_err-tell_emissions.field-0.0 = search rules in
    rw e some
