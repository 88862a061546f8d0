use Rattle.std.proofs.Common.{refl, sym, ◌∙◌}
use Rattle.afdx_input_lines.specs.SubmissionLines.{submission_form, cut_submission, submission_fields_of, submission_said}
use Rattle.afdx_input_lines.proofs.FormLemmas.{says_nothing, says_bad_line, says_first_fault}
use Rattle.afdx_input_lines.proofs.FormLemmas.{says_bytes_error, says_whole}
use Rattle.afdx_input_lines.proofs.SubmissionLemmas.{submission_is_cut}
use Rattle.afdx_input_lines.proofs.SpaceLemmas.{bytes_hold_none, first_of}
use Rattle.afdx_input_lines.proofs.submission_line.read_submission_line.Goals as goal

pub returns-then-says_nothing-clause-ok : goal.returns-then-says_nothing-clause-ok
unfolding submission_said
returns-then-says_nothing-clause-ok c =
    says_nothing submission_form c.args.latest c.args.line.now _ c.trim_line-text.ensures
    (sym c.says_nothing.ensures ∙ c.if-says_nothing.true)

pub returns-in-None-clause-err : goal.returns-in-None-clause-err
unfolding submission_said
returns-in-None-clause-err c =
    (says_bad_line submission_form c.args.latest c.args.line.now _ c.trim_line-text.ensures
    (sym c.says_nothing.ensures ∙ c.if-says_nothing.false) cut_submission c.in-None.ensures)

pub returns-in-Some-fault_of_time-clause-err : goal.returns-in-Some-fault_of_time-clause-err
unfolding submission_said
returns-in-Some-fault_of_time-clause-err c =
    let says = says_first_fault submission_form c.args.latest c.args.line.now _ c.trim_line-text.ensures
    (sym c.says_nothing.ensures ∙ c.if-says_nothing.false) cut_submission (submission_is_cut _ c.requires)
    (submission_fields_of c.in-Some.fields) c.in-Some-fault_of_time.fault c.in-Some.ensures
    c.in-Some-fault_of_time.ensures.fault in
    rw c.first_error.ensures says

pub returns-in-Err-clause-err : goal.returns-in-Err-clause-err
unfolding submission_said
returns-in-Err-clause-err c =
    rw c.first_error-in-Err.ensures (says_bytes_error submission_form c.args.latest c.args.line.now _
    c.trim_line-text.ensures (sym c.says_nothing.ensures ∙ c.if-says_nothing.false) cut_submission
    (submission_is_cut _ c.requires) (submission_fields_of c.in-Some.fields) c.in-Err.error c.in-Some.ensures
    (sym c.fault_of_time.ensures.fault ∙ c.in_default.is) c.in-Err.ensures.err)

pub returns-clause-ok : goal.returns-clause-ok
unfolding submission_said
returns-clause-ok c =
    let bytes = c.in_default-read_bytes.ensures.read in
    let five = first_of _ (submission_fields_of c.in-Some.fields) _
    (bytes_hold_none c.in-Some.fields.digits.now _ bytes) c.in-Some.ensures in
    let says = says_whole submission_form c.args.latest c.args.line.now _ c.trim_line-text.ensures
    (sym c.says_nothing.ensures ∙ c.if-says_nothing.false) cut_submission (submission_is_cut _ c.requires)
    (submission_fields_of c.in-Some.fields) five (sym c.fault_of_time.ensures.fault ∙ c.in_default.is) in
    says ∙ rw bytes refl
