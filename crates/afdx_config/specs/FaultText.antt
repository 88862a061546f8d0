-- How a fault is written.
use Rattle.std.specs.Prelude.{ℕ, List, [], ◌++◌, codes, decimal, map, slice_index_or}
use Rattle.std.specs.Prelude.{Option, Some, None, nat_eq, if◌then◌else◌}
use Rattle.afdx_config.specs.declared.fault.Part.{Part}
use Rattle.afdx_config.specs.declared.fault.Part.TheVariants as part
use Rattle.afdx_config.specs.declared.fault.Place.{Place}
use Rattle.afdx_config.specs.declared.fault.ConfigFault.{ConfigFault}
use Rattle.afdx_config.specs.declared.file_fault.FileFault.{FileFault}
use Rattle.afdx_config.specs.Keys.{place}
use Rattle.afdx_config.specs.declared.fault.TheConstants.{CONFIG_FAULTS}
use Rattle.afdx_config.specs.contracts.fault.ConfigFault.{the_type}
use denote.Enum.Declared.{tag_of}
use Rattle.afdx_config.specs.declared.fault.ConfigFault.TheVariants.{NotToml, BadProfile, Missing}
use Rattle.afdx_config.specs.declared.fault.ConfigFault.TheVariants.{WrongKind, UnknownKey}
use Rattle.afdx_config.specs.declared.fault.ConfigFault.TheVariants.{OutOfRange, Twice}
use Rattle.afdx_config.specs.declared.fault.ConfigFault.TheVariants.{NoSuchSystem, Memory}

abbrev pub part_text : Part → List ℕ
part_text part.Top = codes "top"
part_text part.System = codes "system"
part_text part.Link = codes "link"
part_text part.Port = codes "port"
part_text part.Neighbour = codes "neighbour"

abbrev pub place_text : Place → List ℕ
place_text p = part_text p.part ++ codes " " ++ decimal p.index ++ codes " key " ++ decimal p.key

-- the words of the table, in their order
unfoldable pub fault_words : List (List ℕ)
fault_words = map (λ row. row.0.now) CONFIG_FAULTS

abbrev pub fault_word : ConfigFault → List ℕ
fault_word fault = slice_index_or fault_words (tag_of the_type fault) []

-- the place that a fault speaks of, if it does
abbrev pub place_of : ConfigFault → Option Place
place_of NotToml = None
place_of BadProfile = None
place_of (Missing p) = Some p
place_of (WrongKind p) = Some p
place_of (UnknownKey p) = Some p
place_of (OutOfRange p) = Some p
place_of (Twice p) = Some p
place_of (NoSuchSystem p) = Some p
place_of Memory = None

-- behind a word
abbrev pub behind : Option Place → List ℕ
behind None = []
behind (Some p) = codes " " ++ place_text p

abbrev pub fault_text : ConfigFault → List ℕ
fault_text fault = fault_word fault ++ behind (place_of fault)

-- ---- of a file that may describe several switches

-- the switch that a fault stands in, counted from 1, behind its word; 0 where it stands in none
abbrev pub switch_text : ℕ → List ℕ
switch_text switch = if nat_eq switch 0 then [] else codes " switch " ++ decimal switch

-- in a switch a bad profile has its place, too
abbrev pub place_in : ℕ → ConfigFault → Option Place
place_in switch BadProfile = if nat_eq switch 0 then None else Some (place part.Top 0 1)
place_in switch fault = place_of fault

abbrev pub file_fault_text : FileFault → List ℕ
file_fault_text f =
    fault_word f.fault ++ (switch_text f.switch ++ behind (place_in f.switch f.fault))
