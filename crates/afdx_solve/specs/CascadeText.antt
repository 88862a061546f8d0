-- The text of several switches in the layout of the program: each as one switch is written, below a
-- header of its own, with its name first and its neighbours behind its systems.
use Rattle.std.specs.Prelude.{ℕ, List, [], ◌∷◌, ◌++◌, codes, take, drop}
use Rattle.std.specs.List.{flat_map}
use Rattle.afdx_config.specs.Rows.{SystemRow, Rows}
use Rattle.afdx_config.specs.Switches.{NamedRows}
use Rattle.afdx_solve.specs.ConfigText.{number_line, text_line, header, top_text, system_text}
use Rattle.afdx_solve.specs.ConfigText.{link_text, port_text}

-- what stands before the names of a switch's tables
abbrev pub above : List ℕ
above = codes "switch."

unfoldable pub neighbour_text : SystemRow → List ℕ
neighbour_text e =
    header above (codes "neighbour")
    ++ text_line (codes "name") e.name
    ++ number_line (codes "port") e.port
    ++ number_line (codes "rate") e.rate

-- the tables of a switch: each system, each neighbour, each link and each port entry
unfoldable pub parts_text : Rows → List ℕ
parts_text t =
    flat_map (system_text above) (take t.own t.systems)
    ++ flat_map neighbour_text (drop t.own t.systems)
    ++ flat_map (link_text above t.systems) t.links
    ++ flat_map (port_text above t.systems) t.ports

unfoldable pub switch_text : NamedRows → List ℕ
switch_text s =
    codes "[[switch]]\n" ++ text_line (codes "name") s.name ++ top_text s.rows ++ parts_text s.rows

-- an empty line stands before each switch but the first
unfoldable pub cascade_text : List NamedRows → List ℕ
cascade_text [] = []
cascade_text (s ∷ more) = switch_text s ++ flat_map (λ s. codes "\n" ++ switch_text s) more
