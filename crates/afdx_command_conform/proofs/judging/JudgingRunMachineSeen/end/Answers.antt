use Rattle.std.proofs.Common.{arith}
use Rattle.afdx_input_runs.specs.Joining.{frames_of}
use Rattle.afdx_text.proofs.OutputLemmas.{on-err}
use Rattle.afdx_command_conform.specs.Choices.{latest_of}
use Rattle.afdx_command_conform.specs.Told.{told_by}
use Rattle.afdx_command_conform.proofs.AddedLemmas.{on-ok}
use Rattle.afdx_command_conform.proofs.BegunLemmas.{all-first-lines, begins-by, err-on, none-due-yet, some-first, tells-by, text-front}
use Rattle.afdx_command_conform.proofs.EarlyLemmas.{stands-begun}
use Rattle.afdx_command_conform.proofs.EndLemmas.{all-first}
use Rattle.afdx_command_conform.proofs.judging.JudgingRunMachineSeen.end.Goals as goal

pub returns-in_err-finish-clause-begins : goal.returns-in_err-finish-clause-begins
returns-in_err-finish-clause-begins g c = λ k start past h.
    let frames = frames_of past in
    on-err c.from_residual.result _ (some-first k frames start _ h.0 (text-front start _ _ h.2)
    (stands-begun k frames (latest_of frames) c.args.self.now h.0 (omega arith) h.1.stands))

pub returns-clause-done : goal.returns-clause-done
returns-clause-done g c = λ k start past h.
    let frames = frames_of past in
    let all = c.in_ok-finish.ensures k frames h.0
    (none-due-yet k (latest_of frames) c.args.self.now frames h.0 c.new-due.ensures.items (h.1.works, h.1.stands)) in
    on-ok (λ put. (
      told_by c.finish.new.due.items h.0,
      all,
      tells-by start _ _ h.0 h.2 c.finish.new.due.items
          c.as_slice.ensures.value put,
    ))
    c.put_due.result c.put_due.ensures.told

pub returns-clause-begins : goal.returns-clause-begins
returns-clause-begins g c = λ k start past h.
    let frames = frames_of past in
    let all = c.in_ok-finish.ensures k frames h.0
    (none-due-yet k (latest_of frames) c.args.self.now frames h.0 c.new-due.ensures.items (h.1.works, h.1.stands)) in
    err-on (λ put. all-first-lines k frames start _ (told_by c.finish.new.due.items h.0)
    (begins-by start _ _ h.0 h.2 c.finish.new.due.items c.as_slice.ensures.value put)
    (all-first k c.finish.new.self frames (told_by c.finish.new.due.items h.0) all))
    c.put_due.result c.put_due.ensures.begun
