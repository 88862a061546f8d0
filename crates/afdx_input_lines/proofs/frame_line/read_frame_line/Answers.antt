use Rattle.std.proofs.Common.{◌≡◌, refl, sym, ◌∙◌}
use Rattle.afdx_frame.specs.Seals.{whole}
use Rattle.afdx_input_lines.specs.FrameLines.{frame_form, cut_frame, frame_fields_of, line_says}
use Rattle.afdx_input_lines.specs.FrameLines.{frame_bytes}
use Rattle.afdx_input_lines.proofs.FormLemmas.{says_nothing, says_bad_line, says_first_fault}
use Rattle.afdx_input_lines.proofs.FormLemmas.{says_bytes_error, says_whole}
use Rattle.afdx_input_lines.proofs.FrameLemmas.{frame_is_cut}
use Rattle.afdx_input_lines.proofs.SpaceLemmas.{bytes_hold_none, first_of}
use Rattle.afdx_input_lines.proofs.frame_line.read_frame_line.Goals as goal

pub returns-then-says_nothing-clause-ok : goal.returns-then-says_nothing-clause-ok
unfolding line_says
returns-then-says_nothing-clause-ok c =
    says_nothing frame_form c.args.latest c.args.line.now _ c.trim_line-text.ensures
    (sym c.says_nothing.ensures ∙ c.if-says_nothing.true)

pub returns-in-None-clause-err : goal.returns-in-None-clause-err
unfolding line_says
returns-in-None-clause-err c =
    (says_bad_line frame_form c.args.latest c.args.line.now _ c.trim_line-text.ensures
    (sym c.says_nothing.ensures ∙ c.if-says_nothing.false) cut_frame c.in-None.ensures)

pub returns-in-Some-fault_of_numbers-clause-err : goal.returns-in-Some-fault_of_numbers-clause-err
unfolding line_says
returns-in-Some-fault_of_numbers-clause-err c =
    let says = says_first_fault frame_form c.args.latest c.args.line.now _ c.trim_line-text.ensures
    (sym c.says_nothing.ensures ∙ c.if-says_nothing.false) cut_frame (frame_is_cut _ c.requires)
    (frame_fields_of c.in-Some.fields) c.in-Some-fault_of_numbers.fault c.in-Some.ensures
    c.in-Some-fault_of_numbers.ensures.fault in
    rw c.first_error.ensures says

pub returns-in-Err-clause-err : goal.returns-in-Err-clause-err
unfolding line_says
returns-in-Err-clause-err c =
    rw c.first_error-in-Err.ensures (says_bytes_error frame_form c.args.latest c.args.line.now _
    c.trim_line-text.ensures (sym c.says_nothing.ensures ∙ c.if-says_nothing.false) cut_frame
    (frame_is_cut _ c.requires) (frame_fields_of c.in-Some.fields) c.in-Err.error c.in-Some.ensures
    (sym c.fault_of_numbers.ensures.fault ∙ c.in_default.is) c.in-Err.ensures.err)

pub returns-clause-ok : goal.returns-clause-ok
unfolding line_says
returns-clause-ok c =
    let bytes = c.in_default-read_bytes.ensures.read in
    let five = first_of _ (frame_fields_of c.in-Some.fields) _
    (bytes_hold_none c.in-Some.fields.digits.now _ bytes) c.in-Some.ensures in
    let says = says_whole frame_form c.args.latest c.args.line.now _ c.trim_line-text.ensures
    (sym c.says_nothing.ensures ∙ c.if-says_nothing.false) cut_frame (frame_is_cut _ c.requires)
    (frame_fields_of c.in-Some.fields) five (sym c.fault_of_numbers.ensures.fault ∙ c.in_default.is) in
    let made : whole c.seal_of-seal.result c.seal_of-seal.new.frame.items
    ≡ frame_bytes c.in-Some.fields.kind c.read_bytes.new.bytes.items =
    c.seal_of-seal.ensures.bytes in
    says ∙ rw (bytes, made) refl
