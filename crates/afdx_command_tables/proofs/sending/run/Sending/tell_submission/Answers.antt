use Rattle.std.proofs.Common.{◌≡◌, None, Some, inr, inl}
use Rattle.std.proofs.KnownBytes.{Appends-nil}
use Rattle.afdx_command_tables.specs.sending.Progress.{handed_at}
use Rattle.afdx_text.proofs.OutputLemmas.{on-err}
use Rattle.afdx_command_tables.proofs.SendLemmas.{told-submitted, begun-submitted, until-some, none-of}
use Rattle.afdx_command_tables.proofs.sending.run.Sending.tell_submission.Goals as goal

pub submit-requires-clause-room : goal.submit-requires-clause-room
submit-requires-clause-room g c =
    let n = c.requires.room in
    (n.0, n.1, c.in_ok-tell_emissions.ensures.room n.0 n.2)

pub returns-in_err-fault-clause-some : goal.returns-in_err-fault-clause-some
returns-in_err-fault-clause-some g c s start past h =
    let u = c.in_ok-tell_emissions.ensures.told s h.events start h.told in
    on-err c.from_residual-in_err-fault.result _
    (inl (until-some s c.args.handed.now.time _ _ _ start _ h.events past u h.submissions_are))

pub returns-in_err-put-clause-some : goal.returns-in_err-put-clause-some
returns-in_err-put-clause-some g c s start past h =
    let u = c.in_ok-tell_emissions.ensures.told s h.events start h.told in
    let x = handed_at c.args.n c.args.handed.now c.args.payload.now in
    let tells = rw c.in-Some.is at
    (c.in_ok-fault.ensures.told s u.told.more c.args.n u.told.told.stands u.told.told.counted) in
    on-err c.from_residual-in_err-put.result _
    (inr (begun-submitted s _ _ _ _ _ start _ _ h.events past x (Some c.in-Some.fault) u
    h.submissions_are c.in_ok-tell_emissions.ensures.clock tells
    (rw c.word.ensures at c.in_err-put.ensures.front)))

pub returns-in_ok-put-clause-room : goal.returns-in_ok-put-clause-room
returns-in_ok-put-clause-room g c m h = c.in_ok-fault.ensures.room m (c.in_ok-tell_emissions.ensures.room m h)

pub returns-in_ok-put-clause-told : goal.returns-in_ok-put-clause-told
returns-in_ok-put-clause-told g c s start past h =
    let u = c.in_ok-tell_emissions.ensures.told s h.events start h.told in
    let x = handed_at c.args.n c.args.handed.now c.args.payload.now in
    let tells = rw c.in-Some.is at
    (c.in_ok-fault.ensures.told s u.told.more c.args.n u.told.told.stands u.told.told.counted) in
    told-submitted s _ _ _ _ _ _ start _ _ h.events past x (Some c.in-Some.fault) u
    h.submissions_are c.in_ok-tell_emissions.ensures.clock tells c.submit.ensures.clock
    c.submit.ensures.port
    (rw c.word.ensures at c.in_ok-put.ensures.whole)

pub returns-in_default-clause-room : goal.returns-in_default-clause-room
returns-in_default-clause-room g c m h = c.in_ok-fault.ensures.room m (c.in_ok-tell_emissions.ensures.room m h)

pub returns-in_default-clause-told : goal.returns-in_default-clause-told
returns-in_default-clause-told g c s start past h =
    let u = c.in_ok-tell_emissions.ensures.told s h.events start h.told in
    let x = handed_at c.args.n c.args.handed.now c.args.payload.now in
    let none : c.in_ok-fault.field-0 ≡ None = none-of c.in_ok-fault.field-0 c.in_default.not-Some in
    let tells = rw none at (c.in_ok-fault.ensures.told s u.told.more c.args.n u.told.told.stands u.told.told.counted) in
    told-submitted s _ _ _ _ _ _ start _ _ h.events past x None u h.submissions_are
    c.in_ok-tell_emissions.ensures.clock tells c.submit.ensures.clock c.submit.ensures.port
    (Appends-nil (g.O.Sink.written c.tell_emissions.new.output))
