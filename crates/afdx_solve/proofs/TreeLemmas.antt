-- The tree of the text of tables: the lines of each row make a table whose keys ascend.
use Rattle.std.proofs.Common.{◌++◌, ◌≡◌, ℕ, true, false, List, [], ◌∷◌, codes, map, pos, Option, Some, None, option_map}
use Rattle.std.proofs.Common.{option_and_then, refl, ap, ◌∙◌}
use Rattle.afdx_config.specs.Keys.{KeyRow, are_among}
use Rattle.afdx_config.specs.Rows.{SystemRow, LinkRow, PortRow, Rows}
use Rattle.afdx_config.specs.Switches.{NamedRows}
use Rattle.std.specs.List.{list_any}
use Rattle.std.specs.Str.{bytes_eq}
use Rattle.toml.specs.Data.{Data, string, integer, array, Items, no_items, item, get_member, same_key}
use Rattle.toml.specs.Tables.{Document, Expression, Node, Nodes, no_nodes, node, value, close, close_node, get_node, along_dots, at_key}
use Rattle.toml.proofs.ReadLines.{run}
use Rattle.toml.proofs.Fill.{run-append}
use Rattle.afdx_solve.specs.ConfigText.{class_word, policing_word, kind_word, name_at}
use Rattle.afdx_solve.proofs.NodeLemmas.{with_node-other, get_node-with, get_member-close, among-with}
use Rattle.afdx_solve.proofs.RunLemmas.{Fields, field_lines, rows_lines, rows_node, run-fields, rows-run, put_all, with_node}

abbrev pub number : ℕ → Data
number n = integer (pos n)

abbrev pub texts : List (List ℕ) → Items
texts [] = no_items
texts (s ∷ more) = item (string s) (texts more)

-- the members of a row in the order of its lines, and its table
abbrev pub nodes_of : Fields → Nodes
nodes_of [] = no_nodes
nodes_of (f ∷ fs) = node f.0 (value f.1) (nodes_of fs)

unfoldable pub top_fields : Rows → Fields
top_fields t = (codes "profile", number t.profile) ∷ (codes "buffer", number t.buffer) ∷ []

unfoldable pub top_nodes : Rows → Nodes
top_nodes t = nodes_of ((codes "buffer", number t.buffer) ∷ (codes "profile", number t.profile) ∷ [])

-- of a switch, whose name comes first
unfoldable pub switch_fields : NamedRows → Fields
switch_fields s =
    (codes "name", string s.name)
    ∷ (codes "profile", number s.rows.profile)
    ∷ (codes "buffer", number s.rows.buffer) ∷ []

unfoldable pub switch_top : NamedRows → Nodes
switch_top s = nodes_of (
    (codes "buffer", number s.rows.buffer)
    ∷ (codes "name", string s.name)
    ∷ (codes "profile", number s.rows.profile) ∷ [])

unfoldable pub system_fields : SystemRow → Fields
system_fields s =
    (codes "name", string s.name)
    ∷ (codes "port", number s.port)
    ∷ (codes "id", number s.id)
    ∷ (codes "partition", number s.partition)
    ∷ (codes "rate", number s.rate) ∷ []

unfoldable pub system_nodes : SystemRow → Nodes
system_nodes s = nodes_of (
    (codes "id", number s.id)
    ∷ (codes "name", string s.name)
    ∷ (codes "partition", number s.partition)
    ∷ (codes "port", number s.port)
    ∷ (codes "rate", number s.rate) ∷ [])

unfoldable pub neighbour_fields : SystemRow → Fields
neighbour_fields e =
    (codes "name", string e.name) ∷ (codes "port", number e.port) ∷ (codes "rate", number e.rate) ∷ []

unfoldable pub neighbour_nodes : SystemRow → Nodes
neighbour_nodes e = nodes_of (
    (codes "name", string e.name)
    ∷ (codes "port", number e.port)
    ∷ (codes "rate", number e.rate) ∷ [])

abbrev pub way_fields : List SystemRow → LinkRow → Fields
way_fields systems l =
    (codes "vl", number l.vl)
    ∷ (codes "from", string (name_at systems l.from))
    ∷ (codes "to", array (texts (map (name_at systems) l.to))) ∷ []

abbrev pub traffic_fields : LinkRow → Fields
traffic_fields l =
    (codes "bag_ms", number l.bag_ms)
    ∷ (codes "lmin", number l.lmin)
    ∷ (codes "lmax", number l.lmax)
    ∷ (codes "jitter_us", number l.jitter_us) ∷ []

abbrev pub treatment_fields : LinkRow → Fields
treatment_fields l =
    (codes "priority", string (class_word l.priority))
    ∷ (codes "policing", string (policing_word l.policing))
    ∷ (codes "latency_us", number l.latency_us)
    ∷ (codes "skew_us", number l.skew_us)
    ∷ (codes "subs", number l.subs) ∷ []

unfoldable pub link_fields : List SystemRow → LinkRow → Fields
link_fields systems l = way_fields systems l ++ traffic_fields l ++ treatment_fields l

unfoldable pub link_nodes : List SystemRow → LinkRow → Nodes
link_nodes systems l = nodes_of (
    (codes "bag_ms", number l.bag_ms)
    ∷ (codes "from", string (name_at systems l.from))
    ∷ (codes "jitter_us", number l.jitter_us)
    ∷ (codes "latency_us", number l.latency_us)
    ∷ (codes "lmax", number l.lmax)
    ∷ (codes "lmin", number l.lmin)
    ∷ (codes "policing", string (policing_word l.policing))
    ∷ (codes "priority", string (class_word l.priority))
    ∷ (codes "skew_us", number l.skew_us)
    ∷ (codes "subs", number l.subs)
    ∷ (codes "to", array (texts (map (name_at systems) l.to)))
    ∷ (codes "vl", number l.vl) ∷ [])

unfoldable pub port_fields : List SystemRow → PortRow → Fields
port_fields systems p =
    (codes "system", string (name_at systems p.system))
    ∷ (codes "link", number p.link)
    ∷ (codes "udp", number p.udp)
    ∷ (codes "kind", string (kind_word p.kind))
    ∷ (codes "depth", number p.depth) ∷ []

unfoldable pub port_nodes : List SystemRow → PortRow → Nodes
port_nodes systems p = nodes_of (
    (codes "depth", number p.depth)
    ∷ (codes "kind", string (kind_word p.kind))
    ∷ (codes "link", number p.link)
    ∷ (codes "system", string (name_at systems p.system))
    ∷ (codes "udp", number p.udp) ∷ [])

pub top-made : (t : Rows) → put_all (top_fields t) no_nodes ≡ Some (top_nodes t)
unfolding put_all along_dots at_key top_fields top_nodes
top-made t = refl

pub switch-made : (s : NamedRows) → put_all (switch_fields s) no_nodes ≡ Some (switch_top s)
unfolding put_all along_dots at_key switch_fields switch_top
switch-made s = refl

pub neighbour-made : (e : SystemRow) → put_all (neighbour_fields e) no_nodes ≡ Some (neighbour_nodes e)
unfolding put_all along_dots at_key neighbour_fields neighbour_nodes
neighbour-made e = refl

pub system-made : (s : SystemRow) → put_all (system_fields s) no_nodes ≡ Some (system_nodes s)
unfolding put_all along_dots at_key system_fields system_nodes
system-made s = refl

pub link-made : (systems : List SystemRow) (l : LinkRow)
    → put_all (link_fields systems l) no_nodes ≡ Some (link_nodes systems l)
unfolding put_all along_dots at_key link_fields link_nodes
link-made systems l = refl

pub port-made : (systems : List SystemRow) (p : PortRow)
    → put_all (port_fields systems p) no_nodes ≡ Some (port_nodes systems p)
unfolding put_all along_dots at_key port_fields port_nodes
port-made systems p = refl

-- ---- the tables of a switch

-- their lines: the systems, the neighbours, the links and the port entries, whose ends have these
-- names
pub record Parts : Type 0 where
  pub ends : List SystemRow
  pub systems : List SystemRow
  pub neighbours : List SystemRow
  pub links : List LinkRow
  pub ports : List PortRow

abbrev pub parts_lines : (path : List (List ℕ)) → Parts → List Expression
parts_lines path t =
    rows_lines path (codes "system") system_fields t.systems
    ++ (rows_lines path (codes "neighbour") neighbour_fields t.neighbours
    ++ (rows_lines path (codes "link") (link_fields t.ends) t.links
    ++ rows_lines path (codes "port") (port_fields t.ends) t.ports))

abbrev pub systems_node : Parts → Option Node
systems_node t = rows_node system_nodes t.systems

abbrev pub neighbours_node : Parts → Option Node
neighbours_node t = rows_node neighbour_nodes t.neighbours

abbrev pub links_node : Parts → Option Node
links_node t = rows_node (link_nodes t.ends) t.links

abbrev pub ports_node : Parts → Option Node
ports_node t = rows_node (port_nodes t.ends) t.ports

-- a table with the arrays, if there are any
abbrev pub with_systems : Parts → Nodes → Nodes
with_systems t top = with_node (codes "system") (systems_node t) top

abbrev pub with_neighbours : Parts → Nodes → Nodes
with_neighbours t top = with_node (codes "neighbour") (neighbours_node t) (with_systems t top)

abbrev pub with_links : Parts → Nodes → Nodes
with_links t top = with_node (codes "link") (links_node t) (with_neighbours t top)

unfoldable pub with_parts : Parts → Nodes → Nodes
with_parts t top = with_node (codes "port") (ports_node t) (with_links t top)

-- none of them is there before its lines
pub record HasNoParts (top : Nodes) : Type 0 where
  pub system : get_node (codes "system") top ≡ None
  pub neighbour : get_node (codes "neighbour") top ≡ None
  pub link : get_node (codes "link") top ≡ None
  pub port : get_node (codes "port") top ≡ None

pub no-parts-top : (t : Rows) → HasNoParts (top_nodes t)
unfolding top_nodes
no-parts-top t = record { system = refl; neighbour = refl; link = refl; port = refl }

pub no-parts-switch : (s : NamedRows) → HasNoParts (switch_top s)
unfolding switch_top
no-parts-switch s = record { system = refl; neighbour = refl; link = refl; port = refl }

after : (doc next : Document) (es fs : List Expression) → run doc es ≡ Some next → run doc (es ++ fs) ≡ run next fs
after doc next es fs ran = run-append doc es fs ∙ ap (option_and_then (λ d. run d fs)) ran

-- the lines, after those of a top
module _ (t : Parts) (top : Nodes) (none : HasNoParts top) where
  no-neighbour : get_node (codes "neighbour") (with_systems t top) ≡ None
  no-neighbour = with_node-other (codes "neighbour") (codes "system") (systems_node t) top refl ∙ none.neighbour

  no-link : get_node (codes "link") (with_neighbours t top) ≡ None
  no-link =
      with_node-other (codes "link") (codes "neighbour") (neighbours_node t) _ refl
      ∙ with_node-other (codes "link") (codes "system") (systems_node t) top refl ∙ none.link

  no-port : get_node (codes "port") (with_links t top) ≡ None
  no-port =
      with_node-other (codes "port") (codes "link") (links_node t) _ refl
      ∙ with_node-other (codes "port") (codes "neighbour") (neighbours_node t) _ refl
      ∙ with_node-other (codes "port") (codes "system") (systems_node t) top refl ∙ none.port

  pub parts-run : (fs : Fields) → put_all fs no_nodes ≡ Some top
      → (q : List (List ℕ))
      × (run (no_nodes, []) (field_lines fs ++ parts_lines [] t) ≡ Some (with_parts t top, q))
  unfolding with_parts
  parts-run fs made =
      let start = run-fields fs no_nodes ∙ ap (option_map (λ r. (r, []))) made in
      let systems = rows-run (codes "system") system_fields system_nodes system-made t.systems top [] none.system in
      let neighbours = rows-run (codes "neighbour") neighbour_fields neighbour_nodes neighbour-made t.neighbours
      _ systems.0 no-neighbour in
      let links = rows-run (codes "link") (link_fields t.ends) (link_nodes t.ends) (link-made t.ends) t.links
      _ neighbours.0 no-link in
      let ports = rows-run (codes "port") (port_fields t.ends) (port_nodes t.ends) (port-made t.ends) t.ports
      _ links.0 no-port in (
        ports.0,
        after _ _ (field_lines fs) _ start
            ∙ after _ _ (rows_lines [] (codes "system") system_fields t.systems) _ systems.1
            ∙ after _ _ (rows_lines [] (codes "neighbour") neighbour_fields t.neighbours) _ neighbours.1
            ∙ after _ _ (rows_lines [] (codes "link") (link_fields t.ends) t.links) _ links.1
            ∙ ports.1,
      )

  -- what stands at a key that none of them has, and at each of theirs
  pub at-other : (k : List ℕ) → same_key k (codes "system") ≡ false → same_key k (codes "neighbour") ≡ false
      → same_key k (codes "link") ≡ false → same_key k (codes "port") ≡ false
      → get_member k (close (with_parts t top)) ≡ option_map close_node (get_node k top)
  unfolding with_parts
  at-other k system neighbour link port =
      let same : get_node k (with_parts t top) ≡ get_node k top =
      with_node-other k (codes "port") (ports_node t) (with_links t top) port
      ∙ with_node-other k (codes "link") (links_node t) (with_neighbours t top) link
      ∙ with_node-other k (codes "neighbour") (neighbours_node t) (with_systems t top) neighbour
      ∙ with_node-other k (codes "system") (systems_node t) top system in
      get_member-close k (with_parts t top) ∙ ap (option_map close_node) same

  pub at-system : get_member (codes "system") (close (with_parts t top)) ≡ option_map close_node (systems_node t)
  unfolding with_parts
  at-system =
      let k = codes "system" in
      let same : get_node k (with_parts t top) ≡ systems_node t =
      with_node-other k (codes "port") (ports_node t) (with_links t top) refl
      ∙ with_node-other k (codes "link") (links_node t) (with_neighbours t top) refl
      ∙ with_node-other k (codes "neighbour") (neighbours_node t) (with_systems t top) refl
      ∙ get_node-with k (systems_node t) top none.system in
      get_member-close k (with_parts t top) ∙ ap (option_map close_node) same

  pub at-neighbour :
      get_member (codes "neighbour") (close (with_parts t top)) ≡ option_map close_node (neighbours_node t)
  unfolding with_parts
  at-neighbour =
      let k = codes "neighbour" in
      let same : get_node k (with_parts t top) ≡ neighbours_node t =
      with_node-other k (codes "port") (ports_node t) (with_links t top) refl
      ∙ with_node-other k (codes "link") (links_node t) (with_neighbours t top) refl
      ∙ get_node-with k (neighbours_node t) (with_systems t top) no-neighbour in
      get_member-close k (with_parts t top) ∙ ap (option_map close_node) same

  pub at-link : get_member (codes "link") (close (with_parts t top)) ≡ option_map close_node (links_node t)
  unfolding with_parts
  at-link =
      let k = codes "link" in
      let same : get_node k (with_parts t top) ≡ links_node t =
      with_node-other k (codes "port") (ports_node t) (with_links t top) refl
      ∙ get_node-with k (links_node t) (with_neighbours t top) no-link in
      get_member-close k (with_parts t top) ∙ ap (option_map close_node) same

  pub at-port : get_member (codes "port") (close (with_parts t top)) ≡ option_map close_node (ports_node t)
  unfolding with_parts
  at-port =
      let same : get_node (codes "port") (with_parts t top) ≡ ports_node t =
      get_node-with (codes "port") (ports_node t) (with_links t top) no-port in
      get_member-close (codes "port") (with_parts t top) ∙ ap (option_map close_node) same

-- a table with these arrays has no keys but those that are known
abbrev pub IsKnownKey : List KeyRow → List ℕ → Type 0
IsKnownKey known k = list_any (λ key. bytes_eq key.name k) known ≡ true

pub parts-known : (known : List KeyRow) (t : Parts) (top : Nodes)
    → are_among known (close (with_neighbours t top)) ≡ true
    → IsKnownKey known (codes "link") → IsKnownKey known (codes "port")
    → are_among known (close (with_parts t top)) ≡ true
unfolding with_parts
parts-known known t top all link port =
    among-with known (codes "port") (ports_node t) _ port
    (among-with known (codes "link") (links_node t) (with_neighbours t top) link all)
