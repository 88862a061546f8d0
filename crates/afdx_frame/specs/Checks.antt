-- One check after another: the first that is false decides.
use Rattle.std.specs.Prelude.{Bool, Option, Some, None, Result, Ok, Err, if◌then◌else◌}

infixl 10 ◌>>=◌
abbrev pub ◌>>=◌ : {A B E : Type 0} → Result A E → (A → Result B E) → Result B E
(Ok x) >>= f = f x
(Err fault) >>= f = Err fault

infixl 10 ◌>>◌
abbrev pub ◌>>◌ : {A B E : Type 0} → Result A E → Result B E → Result B E
(Ok x) >> next = next
(Err fault) >> next = Err fault

-- where it is false, this is the fault
abbrev pub check : {E : Type 0} → Bool → E → Result (Unit {0}) E
check b fault = if b then Ok tt else Err fault

-- what is there, or this fault
abbrev pub or_else : {A E : Type 0} → Option A → E → Result A E
or_else None fault = Err fault
or_else (Some x) fault = Ok x
