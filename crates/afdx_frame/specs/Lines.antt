-- Lines that are asked one after the other, each with the fault that is answered where it is false.
use Rattle.std.specs.Prelude.{ℕ, zero, suc, ◌+◌, Bool, not, List, [], ◌∷◌, ◌++◌, map, filter}
use Rattle.std.specs.Prelude.{Option, Some, None, if◌then◌else◌}

pub record Line (F : Type 0) : Type 0 where
  pub holds : Bool
  pub fault : F

abbrev pub line : {F : Type 0} → Bool → F → Line F
line b f = record { holds = b; fault = f }

-- the fault of the first line that is false
unfoldable pub first_false : {F : Type 0} → List (Line F) → Option F
first_false [] = None
first_false (l ∷ ls) = if l.holds then first_false ls else Some l.fault

-- the faults of all lines that are false
unfoldable pub false_lines : {F : Type 0} → List (Line F) → List F
false_lines ls = map (λ l. l.fault) (filter (λ l. not l.holds) ls)

-- the lines of so many places, from this one on
unfoldable pub each_from : {F : Type 0} → (ℕ → List (Line F)) → ℕ → ℕ → List (Line F)
each_from lines_of from zero = []
each_from lines_of from (suc count) = lines_of from ++ each_from lines_of (from + 1) count
