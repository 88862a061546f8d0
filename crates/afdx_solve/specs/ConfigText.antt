-- The text of a configuration in the layout of the program: a line for each key, the keys of each
-- table in the order of their numbers, and an empty line before each table.
use Rattle.std.specs.Prelude.{ℕ, List, [], ◌∷◌, ◌++◌, codes, map, slice_get}
use Rattle.std.specs.Fmt.{decimal}
use Rattle.std.specs.List.{flat_map}
use Rattle.std.specs.Option.{option_map_or}
use Rattle.afdx_frame.specs.declared.link.Priority.{Priority}
use Rattle.afdx_frame.specs.declared.link.Priority.TheVariants.{High, Low}
use Rattle.afdx_frame.specs.declared.link.Policing.{Policing}
use Rattle.afdx_frame.specs.declared.link.Policing.TheVariants.{Byte, Frame}
use Rattle.afdx_config.specs.declared.rows.Kind.{Kind}
use Rattle.afdx_config.specs.declared.rows.Kind.TheVariants.{Sampling, Queuing}
use Rattle.afdx_config.specs.Rows.{SystemRow, LinkRow, PortRow, Rows}

-- ---- lines

abbrev pub in_quotes : List ℕ → List ℕ
in_quotes s = codes "\"" ++ s ++ codes "\""

-- texts in quotes, with commas between them
abbrev pub listed : List (List ℕ) → List ℕ
listed [] = []
listed (s ∷ []) = in_quotes s
listed (s ∷ more) = in_quotes s ++ codes ", " ++ listed more

-- a key with a whole number, with a text, and with an array of texts
unfoldable pub number_line : List ℕ → ℕ → List ℕ
number_line key n = key ++ codes " = " ++ decimal n ++ codes "\n"

unfoldable pub text_line : List ℕ → List ℕ → List ℕ
text_line key s = key ++ codes " = " ++ in_quotes s ++ codes "\n"

unfoldable pub texts_line : List ℕ → List (List ℕ) → List ℕ
texts_line key texts = key ++ codes " = [" ++ listed texts ++ codes "]\n"

-- The empty line before a table, and its header. The key is `above` and its own: nothing stands
-- above it at the top of a file, and `switch.` in a switch of several.
unfoldable pub header : (above key : List ℕ) → List ℕ
header above key = codes "\n[[" ++ above ++ key ++ codes "]]\n"

-- ---- words

abbrev pub class_word : Priority → List ℕ
class_word High = codes "high"
class_word Low = codes "low"

abbrev pub policing_word : Policing → List ℕ
policing_word Byte = codes "byte"
policing_word Frame = codes "frame"

abbrev pub kind_word : Kind → List ℕ
kind_word Sampling = codes "sampling"
kind_word Queuing = codes "queuing"

-- the name of the system at a place
unfoldable pub name_at : List SystemRow → ℕ → List ℕ
name_at systems i = option_map_or (λ s. s.name) (slice_get systems i) []

-- ---- tables

abbrev pub top_text : Rows → List ℕ
top_text t = number_line (codes "profile") t.profile ++ number_line (codes "buffer") t.buffer

unfoldable pub system_text : (above : List ℕ) → SystemRow → List ℕ
system_text above s =
    header above (codes "system")
    ++ text_line (codes "name") s.name
    ++ number_line (codes "port") s.port
    ++ number_line (codes "id") s.id
    ++ number_line (codes "partition") s.partition
    ++ number_line (codes "rate") s.rate

-- who sends a link to whom; how much; and how its frames are treated
abbrev pub way_text : List SystemRow → LinkRow → List ℕ
way_text systems l =
    number_line (codes "vl") l.vl
    ++ text_line (codes "from") (name_at systems l.from)
    ++ texts_line (codes "to") (map (name_at systems) l.to)

abbrev pub traffic_text : LinkRow → List ℕ
traffic_text l =
    number_line (codes "bag_ms") l.bag_ms
    ++ number_line (codes "lmin") l.lmin
    ++ number_line (codes "lmax") l.lmax
    ++ number_line (codes "jitter_us") l.jitter_us

abbrev pub treatment_text : LinkRow → List ℕ
treatment_text l =
    text_line (codes "priority") (class_word l.priority)
    ++ text_line (codes "policing") (policing_word l.policing)
    ++ number_line (codes "latency_us") l.latency_us
    ++ number_line (codes "skew_us") l.skew_us
    ++ number_line (codes "subs") l.subs

unfoldable pub link_text : (above : List ℕ) → List SystemRow → LinkRow → List ℕ
link_text above systems l =
    header above (codes "link") ++ way_text systems l ++ traffic_text l ++ treatment_text l

unfoldable pub port_text : (above : List ℕ) → List SystemRow → PortRow → List ℕ
port_text above systems p =
    header above (codes "port")
    ++ text_line (codes "system") (name_at systems p.system)
    ++ number_line (codes "link") p.link
    ++ number_line (codes "udp") p.udp
    ++ text_line (codes "kind") (kind_word p.kind)
    ++ number_line (codes "depth") p.depth

-- the top, then each system, each link and each port entry
abbrev pub config_text : Rows → List ℕ
config_text t =
    top_text t
    ++ flat_map (system_text []) t.systems
    ++ flat_map (link_text [] t.systems) t.links
    ++ flat_map (port_text [] t.systems) t.ports
