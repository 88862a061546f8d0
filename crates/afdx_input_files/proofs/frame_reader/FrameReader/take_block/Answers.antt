use Rattle.std.proofs.Common.{rules, ◌≡◌, Err}
use Rattle.afdx_input_files.specs.Recordings.{totals_by}
use Rattle.afdx_input_files.specs.Reading.{state_of}
use Rattle.afdx_input_files.proofs.PcapngLemmas.{SaysEnding-bad_head}
use Rattle.afdx_input_files.proofs.frame_reader.FrameReader.take_block.Goals as goal

pub returns-in_err-head-clause-tells : goal.returns-in_err-head-clause-tells
returns-in_err-head-clause-tells g c =
    let e : c.from_residual.result ≡ Err c.in_err-head.field-0.0 = search rules in
    let told = c.in_err-head.ensures.told in
    rw (e, told.0) (
      totals_by (state_of c.args.self.now),
      SaysEnding-bad_head _ _ c.requires.form c.requires.held told.1,
    )
