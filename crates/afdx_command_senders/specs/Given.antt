-- What may be asked of a run over what systems sent.
use Rattle.std.specs.Prelude.{ℕ, ◌≤◌, Option}
use Rattle.std.specs.Option.{ForSome}
use Rattle.afdx_lawful.specs.Ranges.{most_apart}

-- by so many ns copies may be sent apart, if that is given: no more than can be
abbrev pub IsApartGiven : Option ℕ → Type 0
IsApartGiven apart = ForSome apart (λ ns. ns ≤ most_apart)
