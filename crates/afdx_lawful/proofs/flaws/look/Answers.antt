use Rattle.std.proofs.Common.{sym, ap, ◌∙◌}
use Rattle.afdx_frame.specs.Parts.{frame_of, number_of_frame, parts_of}
use Rattle.afdx_lawful.proofs.FlawLemmas.{damaged_flaw, no_number, the_number, whole_flaw}
use Rattle.afdx_lawful.proofs.flaws.look.Goals as goal

pub returns-in-Err-clause-flaw : goal.returns-in-Err-clause-flaw
returns-in-Err-clause-flaw c s x rule system side bytes =
    damaged_flaw s x c.in-Err.fault (ap frame_of bytes ∙ c.in-Err.ensures.computed)

pub returns-in-Err-clause-number : goal.returns-in-Err-clause-number
returns-in-Err-clause-number c x bytes =
    no_number x c.in-Err.fault (ap frame_of bytes ∙ c.in-Err.ensures.computed)

pub returns-clause-flaw : goal.returns-clause-flaw
returns-clause-flaw c s x rule system side bytes =
    c.flaw_of_view-flaw.ensures s x rule system side bytes
    ∙ whole_flaw s x (parts_of c.in-Ok.view) (ap frame_of bytes ∙ c.in-Ok.ensures.computed)

pub returns-clause-number : goal.returns-clause-number
returns-clause-number c x bytes =
    the_number x (parts_of c.in-Ok.view) c.sequence-number.result (ap frame_of bytes ∙ c.in-Ok.ensures.computed)
    (c.sequence-number.ensures ∙ c.in-Ok.ensures.at_places.number ∙ ap number_of_frame (sym bytes))
