-- Tables of which some places hold something.
use Rattle.std.specs.Prelude.{Option, Some, None}

-- what stands at a place of a table, if there is such a place
abbrev pub known : {X : Type 0} → Option (Option X) → Option X
known (Some x) = x
known None = None
