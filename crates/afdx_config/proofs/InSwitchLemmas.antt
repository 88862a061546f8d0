-- What is read in a switch is what was read.
use Rattle.std.proofs.Common.{◌≡◌, ℕ, Result, Ok, Err, sym, ap}
use Rattle.afdx_config.specs.declared.fault.ConfigFault.{ConfigFault}
use Rattle.afdx_config.specs.Switches.{in_switch}

pub read-in_switch : {X : Type 0} (number : ℕ) (x : X) (r : Result X ConfigFault) → Ok x ≡ in_switch number r
    → r ≡ Ok x
read-in_switch number x (Ok y) e = let same : x ≡ y = cc in ap Ok (sym same)
read-in_switch number x (Err f) e = absurd cc
