-- What a reading answers: a value, or the first fault.
use Rattle.std.specs.Prelude.{◌≡◌, ◌≢◌, Result, Ok, Err}
use Rattle.afdx_config.specs.declared.fault.ConfigFault.{ConfigFault}
use Rattle.afdx_config.specs.declared.fault.ConfigFault.TheVariants.{Memory}
use Rattle.afdx_config.specs.declared.file_fault.FileFault.{FileFault}

-- the fault is what the reading answers, unless memory ran out
abbrev pub Fails : {Y : Type 0} → ConfigFault → Result Y ConfigFault → Type 0
Fails e reading = e ≢ Memory → reading ≡ Err e

-- what a function returned, seen by view, is what the reading answers, unless memory ran out
abbrev pub Gives : {X Y : Type 0} → (X → Y) → Result X ConfigFault → Result Y ConfigFault → Type 0
Gives view (Ok x) reading = reading ≡ Ok (view x)
Gives view (Err e) reading = Fails e reading

-- the same of what may stand in one of several switches
abbrev pub FailsIn : {Y : Type 0} → FileFault → Result Y FileFault → Type 0
FailsIn e reading = e.fault ≢ Memory → reading ≡ Err e

abbrev pub GivesIn : {X Y : Type 0} → (X → Y) → Result X FileFault → Result Y FileFault → Type 0
GivesIn view (Ok x) reading = reading ≡ Ok (view x)
GivesIn view (Err e) reading = FailsIn e reading
