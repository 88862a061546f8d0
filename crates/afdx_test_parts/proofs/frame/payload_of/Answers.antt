use Rattle.afdx_frame.specs.Parts.{bytes_of}
use Rattle.afdx_test_parts.proofs.frame.payload_of.Goals as goal

pub returns-in-Err : goal.returns-in-Err
returns-in-Err c = c.in-Err.ensures.read (bytes_of c.args.frame) c.in-Ok.ensures.ok
