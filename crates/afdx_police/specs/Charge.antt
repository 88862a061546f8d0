-- What a frame is charged by each kind of policing, of its link's greatest wire size and its own.
use Rattle.std.specs.Prelude.{ℕ}
use Rattle.afdx_frame.specs.declared.link.Policing.{Policing}
use Rattle.afdx_frame.specs.declared.link.Policing.TheVariants.{Byte, Frame}

abbrev pub charge_by : Policing → ℕ → ℕ → ℕ
charge_by Byte smax wire = wire
charge_by Frame smax wire = smax
