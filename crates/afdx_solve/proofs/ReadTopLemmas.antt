-- The tree of lawful tables reads as the tables: that of the one switch, and that of a switch among
-- others.
use Rattle.std.proofs.Common.{◌≡◌, ◌≤◌, true, List, [], length, map, take, drop, Ok, refl, sym, ap, ◌∙◌, arith}
use Rattle.std.proofs.Common.{option_map, codes}
use Rattle.std.proofs.lemmas.List.{length-map, length-drop}
use Rattle.std.proofs.Math.Seq.{take-length}
use Rattle.toml.specs.Data.{Members, get_member}
use Rattle.toml.specs.Tables.{Nodes, close, close_node}
use Rattle.afdx_config.specs.Choices.{all_kept}
use Rattle.afdx_config.specs.Keys as keys
use Rattle.afdx_config.specs.Keys.{Spot, top_keys, switch_keys, whole, text, tables, only, only_top_keys, only_switch_keys, are_among}
use Rattle.afdx_config.specs.Lawful.{IsLawful, IsLawfulSwitch}
use Rattle.afdx_config.specs.Reading.{is_name, tables_at}
use Rattle.afdx_config.specs.Rows.{Rows}
use Rattle.afdx_config.specs.Switches.{NamedRows, name_at, switch_at}
use Rattle.afdx_config.proofs.AmongOthersLemmas.{among_others}
use Rattle.afdx_solve.proofs.KeyLemmas.{whole-reads, text-reads, tables-read}
use Rattle.afdx_solve.proofs.NodeLemmas.{among-with}
use Rattle.afdx_solve.proofs.ReadRowLemmas.{system_tree, neighbour_tree, link_tree, port_tree, choice-kept}
use Rattle.afdx_solve.proofs.ReadTablesLemmas.{own_rows, neighbour_rows, own-count, systems-read, neighbours-read, links-read, ports-read}
use Rattle.afdx_solve.proofs.RunLemmas.{rows_node, rows-read}
use Rattle.afdx_solve.proofs.TreeLemmas.{system_nodes, neighbour_nodes, link_nodes, port_nodes, top_nodes, switch_top}
use Rattle.afdx_solve.proofs.TreeLemmas.{Parts, with_parts, HasNoParts, no-parts-top, no-parts-switch}
use Rattle.afdx_solve.proofs.TreeLemmas.{at-other, at-system, at-neighbour, at-link, at-port, parts-known}
use Rattle.afdx_solve.proofs.TreeLemmas.{systems_node, neighbours_node}

-- the array of some rows reads as their tables
rows-tables : {R : Type 0} (nodes : R → Nodes) (at : Spot) (tree : Members) (rows : List R)
    → get_member at.name tree ≡ option_map close_node (rows_node nodes rows) → length rows ≤ at.greatest
    → tables at tree ≡ Ok (map (λ r. close (nodes r)) rows)
rows-tables nodes at tree rows there few =
    tables-read at tree (map (λ r. close (nodes r)) rows)
    (rw there (rows-read nodes at.place rows))
    (rw (length-map rows (λ r. close (nodes r))) few)

-- ---- the one switch

abbrev pub alone : Rows → Parts
alone t = record { ends = t.systems; systems = t.systems; neighbours = []; links = t.links; ports = t.ports }

abbrev pub tables_root : Rows → Nodes
tables_root t = with_parts (alone t) (top_nodes t)

module _ (t : Rows) (lawful : IsLawful t) where
  abbrev tree : Members
  tree = close (tables_root t)

  abbrev no_parts : HasNoParts (top_nodes t)
  no_parts = no-parts-top t

  profile-read : whole (keys.top_at 1) tree ≡ Ok t.profile
  unfolding top_keys top_nodes
  profile-read = whole-reads (keys.top_at 1) tree t.profile
      (at-other (alone t) (top_nodes t) no_parts (keys.top_at 1).name refl refl refl refl) lawful.profile

  buffer-read : whole (keys.top_at 2) tree ≡ Ok t.buffer
  unfolding top_keys top_nodes
  buffer-read = whole-reads (keys.top_at 2) tree t.buffer
      (at-other (alone t) (top_nodes t) no_parts (keys.top_at 2).name refl refl refl refl) lawful.buffer

  system-tables : tables (keys.top_at 3) tree ≡ Ok (map system_tree t.systems)
  unfolding top_keys
  system-tables = rows-tables system_nodes (keys.top_at 3) tree t.systems (at-system (alone t) (top_nodes t) no_parts)
      lawful.systems.count

  link-tables : tables (keys.top_at 4) tree ≡ Ok (map (link_tree t.systems) t.links)
  unfolding top_keys
  link-tables = rows-tables (link_nodes t.systems) (keys.top_at 4) tree t.links
      (at-link (alone t) (top_nodes t) no_parts) lawful.links.count

  port-tables : tables (keys.top_at 5) tree ≡ Ok (map (port_tree t.systems) t.ports)
  unfolding top_keys
  port-tables = rows-tables (port_nodes t.systems) (keys.top_at 5) tree t.ports
      (at-port (alone t) (top_nodes t) no_parts) lawful.ports.count

  top-known : are_among top_keys tree ≡ true
  unfolding top_keys top_nodes are_among
  top-known = parts-known top_keys (alone t) (top_nodes t)
      (among-with top_keys (codes "system") (systems_node (alone t)) (top_nodes t) refl refl) refl refl

  only-top : only_top_keys tree ≡ Ok tt
  unfolding only_top_keys only
  only-top = rw top-known refl

  all-own : take t.own t.systems ≡ t.systems
  all-own = ap (λ n. take n t.systems) lawful.own ∙ take-length t.systems

  pub tree-reads : tables_at all_kept tree ≡ Ok t
  unfolding tables_at
  tree-reads =
      let is = among_others t lawful in
      let systems = rw all-own at (systems-read t is) in
      let ports = rw all-own at (ports-read t is) in
      rw (
        profile-read,
        choice-kept (keys.top_at 2) tree,
        buffer-read,
        system-tables,
        link-tables,
        port-tables,
        only-top,
        systems,
        links-read t is (length t.systems) (sym lawful.own),
        ports,
      ) (ap (λ n. Ok (record t { own = n })) (sym lawful.own))

-- ---- a switch among others

abbrev pub among : Rows → Parts
among t = record {
  ends = t.systems;
  systems = take t.own t.systems;
  neighbours = drop t.own t.systems;
  links = t.links;
  ports = t.ports;
}

abbrev pub switch_nodes : NamedRows → Nodes
switch_nodes s = with_parts (among s.rows) (switch_top s)

module _ (s : NamedRows) (is : is_name s.name ≡ true) (lawful : IsLawfulSwitch s.rows) where
  abbrev of_switch : Members
  of_switch = close (switch_nodes s)

  abbrev no_parts_there : HasNoParts (switch_top s)
  no_parts_there = no-parts-switch s

  switch-profile : whole (keys.switch_at 1) of_switch ≡ Ok s.rows.profile
  unfolding switch_keys switch_top
  switch-profile = whole-reads (keys.switch_at 1) of_switch s.rows.profile
      (at-other (among s.rows) (switch_top s) no_parts_there (keys.switch_at 1).name refl refl refl refl) lawful.profile

  switch-buffer : whole (keys.switch_at 2) of_switch ≡ Ok s.rows.buffer
  unfolding switch_keys switch_top
  switch-buffer = whole-reads (keys.switch_at 2) of_switch s.rows.buffer
      (at-other (among s.rows) (switch_top s) no_parts_there (keys.switch_at 2).name refl refl refl refl) lawful.buffer

  switch-systems : tables (keys.switch_at 3) of_switch ≡ Ok (map system_tree (own_rows s.rows lawful))
  unfolding switch_keys
  switch-systems = rows-tables system_nodes (keys.switch_at 3) of_switch (take s.rows.own s.rows.systems)
      (at-system (among s.rows) (switch_top s) no_parts_there)
      (omega (arith, own-count s.rows lawful, lawful.own, lawful.systems.count))

  switch-links : tables (keys.switch_at 4) of_switch ≡ Ok (map (link_tree s.rows.systems) s.rows.links)
  unfolding switch_keys
  switch-links = rows-tables (link_nodes s.rows.systems) (keys.switch_at 4) of_switch s.rows.links
      (at-link (among s.rows) (switch_top s) no_parts_there) lawful.links.count

  switch-ports : tables (keys.switch_at 5) of_switch ≡ Ok (map (port_tree s.rows.systems) s.rows.ports)
  unfolding switch_keys
  switch-ports = rows-tables (port_nodes s.rows.systems) (keys.switch_at 5) of_switch s.rows.ports
      (at-port (among s.rows) (switch_top s) no_parts_there) lawful.ports.count

  switch-text : text (keys.switch_at 6) of_switch ≡ Ok s.name
  unfolding switch_keys switch_top
  switch-text = text-reads (keys.switch_at 6) of_switch s.name
      (at-other (among s.rows) (switch_top s) no_parts_there (keys.switch_at 6).name refl refl refl refl)

  switch-name : name_at (keys.switch_at 6) of_switch ≡ Ok s.name
  unfolding name_at
  switch-name = rw (switch-text, is)

  switch-neighbours : tables (keys.switch_at 7) of_switch ≡ Ok (map neighbour_tree (neighbour_rows s.rows lawful))
  unfolding switch_keys
  switch-neighbours = rows-tables neighbour_nodes (keys.switch_at 7) of_switch (drop s.rows.own s.rows.systems)
      (at-neighbour (among s.rows) (switch_top s) no_parts_there)
      (omega (arith, length-drop s.rows.own s.rows.systems, lawful.systems.few))

  switch-known : are_among switch_keys of_switch ≡ true
  unfolding switch_keys switch_top are_among
  switch-known = parts-known switch_keys (among s.rows) (switch_top s)
      (among-with switch_keys (codes "neighbour") (neighbours_node (among s.rows)) _ refl
      (among-with switch_keys (codes "system") (systems_node (among s.rows)) (switch_top s) refl refl)) refl refl

  only-switch : only_switch_keys of_switch ≡ Ok tt
  unfolding only_switch_keys only
  only-switch = rw switch-known refl

  pub switch-reads : switch_at all_kept of_switch ≡ Ok s
  unfolding switch_at
  switch-reads =
      rw (
        switch-profile,
        choice-kept (keys.switch_at 2) of_switch,
        switch-buffer,
        switch-systems,
        switch-links,
        switch-ports,
        switch-name,
        switch-neighbours,
        only-switch,
        systems-read s.rows lawful,
        neighbours-read s.rows lawful (length (own_rows s.rows lawful)),
        links-read s.rows lawful (length (own_rows s.rows lawful)) (own-count s.rows lawful),
        ports-read s.rows lawful,
      ) (ap (λ n. Ok (record s { rows = record s.rows { own = n } })) (own-count s.rows lawful))
