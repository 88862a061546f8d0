-- The rows that a map keeps, each under a key that is part of it.
use Rattle.std.specs.Prelude.{◌≡◌, List, map, String, string_bytes}
use Rattle.std.specs.declared.alloc.Global.{Global}
use Rattle.afdx_frame.specs.declared.link.VlId.{VlId}
use Rattle.afdx_config.specs.declared.rows.System.{System}
use Rattle.afdx_config.specs.declared.rows.Link.{Link}
use Rattle.afdx_config.specs.Rows.{SystemRow, LinkRow, system_row, link_row}

abbrev pub system_rows : List (String Global × System) → List SystemRow
system_rows es = map (λ e. system_row e.1) es

abbrev pub IsUnderItsName : String Global × System → Type 0
IsUnderItsName e = string_bytes e.0 ≡ string_bytes e.1.name

abbrev pub link_rows : List (VlId × Link) → List LinkRow
link_rows es = map (λ e. link_row e.1) es

abbrev pub IsUnderItsIdentifier : VlId × Link → Type 0
IsUnderItsIdentifier e = e.0.0 ≡ e.1.vl.0
