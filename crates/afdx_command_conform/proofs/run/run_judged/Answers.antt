use Rattle.std.proofs.Common.{rules, ◌≡◌, Err, refl, sym, ◌∙◌, inl, inr}
use Rattle.afdx_command_conform.proofs.AddedLemmas.{if-some}
use Rattle.afdx_command_conform.proofs.RanLemmas.{behind-no-device}
use Rattle.afdx_command_conform.proofs.run.run_judged.Goals as goal

pub tell_all-requires-clause-told : goal.tell_all-requires-clause-told
tell_all-requires-clause-told g c =
    let ready = c.requires.ready in
    (ready.0, ready.1, λ item come. ready.2 item)

-- the inputs had a fault, or the output
pub returns-in_err-count-clause-answer : goal.returns-in_err-count-clause-answer
returns-in_err-count-clause-answer g c = λ k told can.
    let e : c.from_residual.result ≡ Err c.in_err-count.field-0.0 = search rules in
    rw e (if-some (λ bytes h. inl (record { items = h.0; takes = h.1; told = h.2 }))
    (g.A.RunInput.known c.args.inputs.now)
    (c.in_err-count.ensures.answer k told (λ item come. can item)))

-- the output had one at the last line
pub returns-in_err-put-clause-answer : goal.returns-in_err-put-clause-answer
returns-in_err-put-clause-answer g c = λ k told can.
    let mid = g.O.Sink.written c.tell_all.new.output in
    let e : c.from_residual-in_err-put.result ≡ Err c.in_err-put.field-0.0 = search rules in
    rw e (if-some (λ bytes h. inr (record {
      count = c.in_ok-count.count;
      last = c.conclusion-conclusion.result;
      written = mid;
      is_told = record { items = h.0; takes = h.1; done = h.2; counted = c.conclusion-conclusion.ensures };
      why = inr (
        sym c.fault_behind.ensures ∙ c.in_default.is,
        c.in_err-put.ensures.sink.fault,
        c.in_err-put.ensures.front,
      );
    }))
    (g.A.RunInput.known c.args.inputs.now)
    (c.in_ok-count.ensures.answer k told (λ item come. can item)))

-- the recordings have one
pub returns-in-Some-clause-answer : goal.returns-in-Some-clause-answer
returns-in-Some-clause-answer g c = λ k told can.
    if-some (λ bytes h. inr (record {
      count = c.in_ok-count.count;
      last = c.conclusion-conclusion.result;
      written = g.O.Sink.written c.tell_all.new.output;
      is_told = record { items = h.0; takes = h.1; done = h.2; counted = c.conclusion-conclusion.ensures };
      why = inl (sym c.fault_behind.ensures ∙ c.in-Some.is, refl);
    }))
    (g.A.RunInput.known c.args.inputs.now)
    (c.in_ok-count.ensures.answer k told (λ item come. can item))

-- it is no fault of a device
pub returns-in-Some-clause-read : goal.returns-in-Some-clause-read
returns-in-Some-clause-read g c =
    c.in_ok-count.ensures.read ∙ sym (behind-no-device c.args.terms.is_lossy c.in_ok-count.count c.in-Some.fault
    (sym c.fault_behind.ensures ∙ c.in-Some.is)).0

pub returns-in-Some-clause-write : goal.returns-in-Some-clause-write
returns-in-Some-clause-write g c =
    c.in_ok-count.ensures.write ∙ sym (behind-no-device c.args.terms.is_lossy c.in_ok-count.count c.in-Some.fault
    (sym c.fault_behind.ensures ∙ c.in-Some.is)).1

pub returns-clause-answer : goal.returns-clause-answer
returns-clause-answer g c = λ k told can.
    let mid = g.O.Sink.written c.tell_all.new.output in
    if-some (λ bytes h. record {
      written = mid;
      is_told = record { items = h.0; takes = h.1; done = h.2; counted = c.conclusion-conclusion.ensures };
      none_behind = sym c.fault_behind.ensures ∙ c.in_default.is;
      last = c.in_ok-put.ensures.whole;
    })
    (g.A.RunInput.known c.args.inputs.now)
    (c.in_ok-count.ensures.answer k told (λ item come. can item))
