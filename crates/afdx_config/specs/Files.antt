-- What a file describes: one switch on a side, or several.
use Rattle.std.specs.Prelude.{◌≡◌, ℕ, List, Bool, not, ◌&&◌, is_some, Some, Result, Ok, Err, IsUtf8}
use Rattle.std.specs.Prelude.{◌⊎◌, if◌then◌else◌}
use Rattle.toml.specs.Data.{Members, get_member}
use Rattle.toml.specs.Parse.{parse_document}
use Rattle.afdx_config.specs.declared.fault.ConfigFault.TheVariants.{NotToml}
use Rattle.afdx_config.specs.declared.file_fault.FileFault.{FileFault}
use Rattle.afdx_config.specs.declared.describing.Described.{Described}
use Rattle.afdx_config.specs.declared.describing.Described.TheVariants.{One, Several}
use Rattle.afdx_config.specs.declared.rows.KeptKeys.{KeptKeys}
use Rattle.afdx_config.specs.Choices.{all_kept}
use Rattle.afdx_config.specs.Keys as keys
use Rattle.afdx_config.specs.Lawful.{IsLawful}
use Rattle.afdx_config.specs.Reading.{tables_at, Spells, HasNoTree}
use Rattle.afdx_config.specs.Switches.{AreSwitches, in_switch, switches_at}

-- it describes several where the key of switches stands at its top and the profile's doesn't
unfoldable pub are_several : Members → Bool
are_several t =
    is_some (get_member keys.switches_at.name t)
    && not (is_some (get_member (keys.top_at 1).name t))

abbrev pub described : {X : Type 0} → (X → Described) → Result X FileFault →
    Result Described FileFault
described f (Ok x) = Ok (f x)
described f (Err e) = Err e

-- what a tree describes, of which these keys are kept
unfoldable pub file_at : KeptKeys → Members → Result Described FileFault
file_at kept t =
    if are_several t
    then described Several (switches_at kept t)
    else described One (in_switch 0 (tables_at kept t))

-- the text, of which these keys are kept, spells a tree that describes this
abbrev pub DescribesKeeping : KeptKeys → List ℕ → Described → Type 0
DescribesKeeping kept text d =
    IsUtf8 text
    × ((tree : Members) × (parse_document text ≡ Some tree) × (file_at kept tree ≡ Ok d))

-- what is wrong with a text: it is no TOML, or its tree has this first fault
abbrev pub IsFileFaultKeeping : KeptKeys → List ℕ → FileFault → Type 0
IsFileFaultKeeping kept text e =
    ((e ≡ record { switch = 0; fault = NotToml }) × HasNoTree text)
    ⊎ (IsUtf8 text
    × ((tree : Members) × (parse_document text ≡ Some tree) × (file_at kept tree ≡ Err e)))

-- the same of a text of which all keys are kept
abbrev pub Describes : List ℕ → Described → Type 0
Describes text d = DescribesKeeping all_kept text d

abbrev pub IsFileFault : List ℕ → FileFault → Type 0
IsFileFault text e = IsFileFaultKeeping all_kept text e

-- where it is one switch, its tables are those that the tree states, or that the text spells; and
-- all rules hold
abbrev pub IsOneStated : KeptKeys → Members → Described → Type 0
IsOneStated kept tree (One t) = tables_at kept tree ≡ Ok t
IsOneStated kept tree (Several switches) = Unit {0}

abbrev pub IsOneSpelled : List ℕ → Described → Type 0
IsOneSpelled text (One t) = Spells text t
IsOneSpelled text (Several switches) = Unit {0}

abbrev pub IsLawfulFile : Described → Type 0
IsLawfulFile (One t) = IsLawful t
IsLawfulFile (Several switches) = AreSwitches switches
