-- What an output port knows of a frame of 64 bytes that may wait for ever, and that it is lawful: a
-- trait takes the proof of its law from specs/.
use Rattle.std.specs.Prelude.{None}
use Rattle.std.proofs.Common.{arith}
use Rattle.afdx_port.specs.Facts.{Facts, AreLawful}

abbrev pub short_facts : Facts
short_facts = record { bytes = 64; longest_wait = None }

pub short-lawful : AreLawful short_facts
short-lawful = record { least = omega arith; most = omega arith; wait = tt }
