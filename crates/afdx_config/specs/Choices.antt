-- The value of a key that may be solved for. If it is kept it is read as it always is; else it may
-- be absent or any whole number from 0.
use Rattle.std.specs.Prelude.{ℕ, ℤ, pos, negsuc, min, max, Bool, true, false, Option, Some, None, Result, Ok, Err}
use Rattle.toml.specs.Data.{Data, Members, get_member, as_integer}
use Rattle.afdx_config.specs.declared.fault.ConfigFault.{ConfigFault}
use Rattle.afdx_config.specs.declared.fault.ConfigFault.TheVariants.{WrongKind, OutOfRange}
use Rattle.afdx_config.specs.declared.rows.KeptKeys.{KeptKeys}
use Rattle.afdx_frame.specs.Checks.{◌>>=◌, or_else}
use Rattle.afdx_config.specs.Keys.{Spot, whole}

-- a whole number from 0 on, as the nearest in the key's range
abbrev pub from_zero : Spot → ℤ → Result ℕ ConfigFault
from_zero at (pos n) = Ok (min at.greatest (max at.least n))
from_zero at (negsuc n) = Err (OutOfRange at.place)

-- a key that is absent has its least value
abbrev pub whole_from_zero : Spot → Data → Result ℕ ConfigFault
whole_from_zero at value = do
  number ← or_else (as_integer value) (WrongKind at.place)
  from_zero at number

abbrev pub free_value : Spot → Option Data → Result ℕ ConfigFault
free_value at None = Ok at.least
free_value at (Some value) = whole_from_zero at value

unfoldable pub free : Spot → Members → Result ℕ ConfigFault
free at t = free_value at (get_member at.name t)

unfoldable pub choice : Bool → Spot → Members → Result ℕ ConfigFault
choice true at t = whole at t
choice false at t = free at t

-- none is to be solved for
abbrev pub all_kept : KeptKeys
all_kept = record { jitter = true; buffer = true; latency = true; skew = true }
