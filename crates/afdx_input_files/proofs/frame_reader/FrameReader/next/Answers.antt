use Rattle.afdx_input_files.proofs.OpeningLemmas.{Tells-then}
use Rattle.afdx_input_files.proofs.frame_reader.FrameReader.next.Goals as goal

pub returns-in_ok-form-in-None-clause-tells : goal.returns-in_ok-form-in-None-clause-tells
returns-in_ok-form-in-None-clause-tells g c =
    Tells-then c.next_of-in-None.result _ _ _ _ _ _ _ c.in_ok-form-in-None.ensures.opens c.next_of-in-None.ensures.tells
