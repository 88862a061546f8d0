use Rattle.std.proofs.Common.{◌≡◌, refl, sym, ◌∙◌}
use Rattle.afdx_frame.specs.Seals.{whole}
use Rattle.afdx_input_lines.specs.FrameLines.{frame_bytes}
use Rattle.afdx_input_lines.specs.SitedLines.{sited_form, cut_sited, sited_fields_of, sited_line_says}
use Rattle.afdx_input_lines.proofs.FormLemmas.{says_nothing, says_bad_line, says_first_fault}
use Rattle.afdx_input_lines.proofs.FormLemmas.{says_bytes_error, says_whole}
use Rattle.afdx_input_lines.proofs.SitedLemmas.{sited_is_cut}
use Rattle.afdx_input_lines.proofs.SpaceLemmas.{bytes_hold_none, first_of}
use Rattle.afdx_input_lines.proofs.sited_line.read_sited_line.Goals as goal

pub returns-then-says_nothing-clause-ok : goal.returns-then-says_nothing-clause-ok
unfolding sited_line_says
returns-then-says_nothing-clause-ok c =
    says_nothing (sited_form c.args.switches.now) c.args.latest c.args.line.now _ c.trim_line-text.ensures
    (sym c.says_nothing.ensures ∙ c.if-says_nothing.true)

pub returns-in-None-clause-err : goal.returns-in-None-clause-err
unfolding sited_line_says
returns-in-None-clause-err c =
    says_bad_line (sited_form c.args.switches.now) c.args.latest c.args.line.now _ c.trim_line-text.ensures
    (sym c.says_nothing.ensures ∙ c.if-says_nothing.false) cut_sited c.in-None.ensures.fields

pub returns-in-Some-fault_of_sited-clause-err : goal.returns-in-Some-fault_of_sited-clause-err
unfolding sited_line_says
returns-in-Some-fault_of_sited-clause-err c =
    let switches = c.args.switches.now in
    let says = says_first_fault (sited_form switches) c.args.latest c.args.line.now _ c.trim_line-text.ensures
    (sym c.says_nothing.ensures ∙ c.if-says_nothing.false) cut_sited (sited_is_cut switches _ c.requires.latest)
    (sited_fields_of c.in-Some.sited) c.in-Some-fault_of_sited.fault c.in-Some.ensures.fields
    c.in-Some-fault_of_sited.ensures.fault in
    rw c.first_error.ensures says

pub returns-in-Err-clause-err : goal.returns-in-Err-clause-err
unfolding sited_line_says
returns-in-Err-clause-err c =
    let switches = c.args.switches.now in
    rw c.first_error-in-Err.ensures (says_bytes_error (sited_form switches) c.args.latest c.args.line.now _
    c.trim_line-text.ensures (sym c.says_nothing.ensures ∙ c.if-says_nothing.false) cut_sited
    (sited_is_cut switches _ c.requires.latest) (sited_fields_of c.in-Some.sited) c.in-Err.error
    c.in-Some.ensures.fields (sym c.fault_of_sited.ensures.fault ∙ c.in_default.is) c.in-Err.ensures.err)

pub returns-clause-ok : goal.returns-clause-ok
unfolding sited_line_says
returns-clause-ok c =
    let switches = c.args.switches.now in
    let bytes = c.in_default-read_bytes.ensures.read in
    let fields = c.in-Some.sited.fields in
    let six = first_of _ (sited_fields_of c.in-Some.sited) _
    (bytes_hold_none fields.digits.now _ bytes) c.in-Some.ensures.fields in
    let says = says_whole (sited_form switches) c.args.latest c.args.line.now _ c.trim_line-text.ensures
    (sym c.says_nothing.ensures ∙ c.if-says_nothing.false) cut_sited (sited_is_cut switches _ c.requires.latest)
    (sited_fields_of c.in-Some.sited) six (sym c.fault_of_sited.ensures.fault ∙ c.in_default.is) in
    let made : whole c.seal_of-seal.result c.seal_of-seal.new.frame.items
    ≡ frame_bytes fields.kind c.read_bytes.new.bytes.items =
    c.seal_of-seal.ensures.bytes in
    says ∙ rw (bytes, made) refl
