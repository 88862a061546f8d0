-- What is read of a file that is to be solved: what it describes, of which some keys are kept, and
-- what its links ask for.
use Rattle.std.specs.Prelude.{ℕ, List}
use Rattle.afdx_config.specs.declared.describing.Described.TheVariants as described
use Rattle.afdx_config.specs.declared.reading_to_solve.ToSolve.{ToSolve}
use Rattle.afdx_config.specs.declared.reading_to_solve.ToSolve.TheVariants.{One, Several}
use Rattle.afdx_config.specs.declared.rows.KeptKeys.{KeptKeys}
use Rattle.afdx_config.specs.Asked.{Asks, AskBySwitch, lists}
use Rattle.afdx_config.specs.Files.{DescribesKeeping}
use Rattle.afdx_config.specs.Lawful.{IsLawful}
use Rattle.afdx_config.specs.Reading.{SpellsKeeping}
use Rattle.afdx_config.specs.Switches.{AreSwitches}

-- its rows, for which all rules hold, and what its links ask for: of several switches a list for
-- each
abbrev pub IsToSolve : KeptKeys → List ℕ → ToSolve → Type 0
IsToSolve kept text (One t asked) =
    SpellsKeeping kept text t × IsLawful t × Asks text asked.items
IsToSolve kept text (Several switches asked) =
    DescribesKeeping kept text (described.Several switches)
    × AreSwitches switches
    × AskBySwitch text (lists asked.items)
