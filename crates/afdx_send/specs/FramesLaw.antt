-- What the output port knows of a released message is lawful. A trait takes the proof of its law
-- from specs/.
use Rattle.std.proofs.Common.{arith}
use Rattle.afdx_port.specs.Facts.{AreLawful}
use Rattle.afdx_send.specs.Frames.{Frame, facts}

pub facts-lawful : (f : Frame) → AreLawful (facts f)
facts-lawful f = record { least = omega arith; most = omega arith; wait = tt }
