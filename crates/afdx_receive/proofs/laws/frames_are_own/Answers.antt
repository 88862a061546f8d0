use Rattle.afdx_receive.proofs.ReceptionLemmas.{frames_own, frames_other, frames_damaged}
use Rattle.afdx_receive.proofs.laws.frames_are_own.Goals as goal

pub returns : goal.returns
returns c = record { own = frames_own; other = frames_other; damaged = frames_damaged }
