-- A file that describes several switches on a side: each by its own table alone, and then what
-- holds over all of them. A switch is named by its place, from 0.
use Rattle.std.specs.Prelude.{◌≡◌, ℕ, ◌+◌, ◌-◌, Bool, true, false, not, ◌&&◌, nat_le, nat_lt, nat_eq, ◌||◌}
use Rattle.std.specs.Prelude.{List, [], ◌∷◌, ◌++◌, length, position, take, slice_get}
use Rattle.std.specs.Prelude.{Option, Some, None, is_some, option_map, option_and_then, Result, Ok}
use Rattle.std.specs.Prelude.{Err, if◌then◌else◌}
use Rattle.std.specs.List.{list_any, AllByRecursion}
use Rattle.std.specs.Option.{option_map_or}
use Rattle.std.specs.Str.{bytes_eq}
use Rattle.toml.specs.Data.{Members}
use Rattle.afdx_frame.specs.Checks.{◌>>=◌, ◌>>◌, check}
use Rattle.afdx_frame.specs.Lines.{Line, line, first_false, each_from}
use Rattle.afdx_config.specs.declared.fault.Part.TheVariants as part
use Rattle.afdx_config.specs.declared.fault.ConfigFault.{ConfigFault}
use Rattle.afdx_config.specs.declared.fault.ConfigFault.TheVariants.{OutOfRange, Twice}
use Rattle.afdx_config.specs.declared.fault.ConfigFault.TheVariants.{NoSuchSystem}
use Rattle.afdx_config.specs.declared.file_fault.FileFault.{FileFault}
use Rattle.afdx_config.specs.declared.switches.FarEnd.{FarEnd}
use Rattle.afdx_config.specs.Rows.{SystemRow, LinkRow, Rows}
use Rattle.afdx_config.specs.declared.rows.KeptKeys.{KeptKeys}
use Rattle.afdx_config.specs.Choices.{choice}
use Rattle.afdx_config.specs.Keys as keys
use Rattle.afdx_config.specs.Keys.{Spot, place, whole, one_of, text, tables}
use Rattle.afdx_config.specs.Keys.{only_cascade_keys, only_switch_keys, only_neighbour_keys}
use Rattle.afdx_config.specs.Lawful.{IsLawfulSwitch, IsWithin}
use Rattle.afdx_config.specs.Reading.{is_name, new_name, rates, system_named, system_at_port}
use Rattle.afdx_config.specs.Reading.{link_of, system_at, link_at, port_at, each, or_bad_profile}

-- a switch by its name, with its tables
pub record NamedRows : Type 0 where
  pub name : List ℕ
  pub rows : Rows

abbrev pub named_rows : List ℕ → Rows → NamedRows
named_rows name rows = record { name = name; rows = rows }

-- ---- look-ups

-- the place of the switch of this name
unfoldable pub switch_named : List NamedRows → List ℕ → Option ℕ
switch_named switches name = position (λ s. bytes_eq name s.name) switches

-- a place among the ends, where a system stands there, or a neighbour
abbrev pub if_system : Rows → ℕ → Option ℕ
if_system t i = if nat_lt i t.own then Some i else None

abbrev pub if_neighbour : Rows → ℕ → Option ℕ
if_neighbour t i = if nat_le t.own i then Some i else None

-- the place of the system of this name, and of the neighbour
unfoldable pub own_named : Rows → List ℕ → Option ℕ
own_named t name = option_and_then (if_system t) (system_named t.systems name)

unfoldable pub neighbour_named : Rows → List ℕ → Option ℕ
neighbour_named t name = option_and_then (if_neighbour t) (system_named t.systems name)

-- one of the switch's systems has this number
unfoldable pub own_has_id : Rows → ℕ → Bool
own_has_id t id = list_any (λ s. nat_eq s.id id) (take t.own t.systems)

-- one of its systems sends this link
unfoldable pub starts : Rows → ℕ → Bool
starts t vl =
    option_map_or (λ l. nat_lt l.from t.own)
    (option_and_then (slice_get t.links) (link_of t.links vl)) false

-- over all switches, the first one with a system of this name, of this number, and with a link
-- that starts there
unfoldable pub home_of : List NamedRows → List ℕ → Option ℕ
home_of switches name = position (λ s. is_some (own_named s.rows name)) switches

unfoldable pub home_of_id : List NamedRows → ℕ → Option ℕ
home_of_id switches id = position (λ s. own_has_id s.rows id) switches

unfoldable pub start_of : List NamedRows → ℕ → Option ℕ
start_of switches vl = position (λ s. starts s.rows vl) switches

-- and with any row of the link
unfoldable pub first_of : List NamedRows → ℕ → Option ℕ
first_of switches vl = position (λ s. is_some (link_of s.rows.links vl)) switches

-- the system of this name: its switch, and its place there
unfoldable pub system_of : List NamedRows → List ℕ → Option (ℕ × ℕ)
system_of switches name =
    option_and_then (λ k. option_map (λ i. (k, i))
    (option_and_then (λ s. own_named s.rows name) (slice_get switches k)))
    (home_of switches name)

-- the row of the neighbour by this name, at a switch
abbrev pub neighbour_row : Rows → List ℕ → Option SystemRow
neighbour_row t name = option_and_then (slice_get t.systems) (neighbour_named t name)

-- what the switch at a place lists of the one that is called `name`
abbrev pub listed_at : List NamedRows → (name : List ℕ) → ℕ → Option SystemRow
listed_at switches name j =
    option_and_then (λ s. neighbour_row s.rows name) (slice_get switches j)

-- the port to which a neighbour's cable leads, at the switch called `name`
abbrev pub end_at : List NamedRows → (name : List ℕ) → SystemRow → Option FarEnd
end_at switches name e =
    option_and_then (λ j.
    option_map (λ back. record { switch = record { 0 = j }; port = back.port })
    (listed_at switches name j)) (switch_named switches e.name)

-- the neighbour at a port of a switch
abbrev pub neighbour_at_port : Rows → ℕ → Option SystemRow
neighbour_at_port t port =
    option_and_then (slice_get t.systems)
    (option_and_then (if_neighbour t) (system_at_port t.systems port))

-- the other end of the cable at a port of the switch at a place
unfoldable pub far_end : List NamedRows → ℕ → ℕ → Option FarEnd
far_end switches k port =
    option_and_then (λ s. option_and_then (end_at switches s.name) (neighbour_at_port s.rows port))
    (slice_get switches k)

-- ---- a switch by its own table

-- a neighbour, whose name and port no end before has; of the ends the first `own` are systems
unfoldable pub neighbour_at : (profile own : ℕ) → List SystemRow → Members →
    Result SystemRow ConfigFault
neighbour_at profile own before t =
    let at : ℕ → Spot = keys.neighbour_at (length before - own + 1) in do
      name ← new_name (at 1) before t
      port ← whole (at 2) t
      check (not (is_some (system_at_port before port))) (Twice (at 2).place)
      rate ← one_of (at 3) (rates profile) t
      only_neighbour_keys (length before - own + 1) t
      Ok (record { name = name; port = port; id = 0; partition = 0; rate = rate })

-- a name of 1 to 16 letters and digits
unfoldable pub name_at : Spot → Members → Result (List ℕ) ConfigFault
name_at at t = do
  name ← text at t
  check (is_name name) (OutOfRange at.place)
  Ok name

-- its top, then each system, each neighbour, each link and each port entry
unfoldable pub switch_at : KeptKeys → Members → Result NamedRows ConfigFault
switch_at kept t = do
  profile ← or_bad_profile (whole (keys.switch_at 1) t)
  buffer ← choice kept.buffer (keys.switch_at 2) t
  systems ← tables (keys.switch_at 3) t
  links ← tables (keys.switch_at 4) t
  ports ← tables (keys.switch_at 5) t
  name ← name_at (keys.switch_at 6) t
  neighbours ← tables (keys.switch_at 7) t
  only_switch_keys t
  systems ← each (system_at profile) [] systems
  ends ← each (neighbour_at profile (length systems)) systems neighbours
  links ← each (link_at kept (length systems) ends) [] links
  ports ← each (port_at systems links) [] ports
  Ok (record {
    name = name;
    rows = record {
      profile = profile;
      buffer = buffer;
      own = length systems;
      systems = ends;
      links = links;
      ports = ports;
    };
  })

-- a fault in the switch of a number, counted from 1; of the file's top it is 0
abbrev pub in_switch : {X : Type 0} → ℕ → Result X ConfigFault → Result X FileFault
in_switch number (Ok x) = Ok x
in_switch number (Err e) = Err (record { switch = number; fault = e })

-- the switches of some tables, each by its own
abbrev pub each_switch : KeptKeys → List NamedRows → List Members →
    Result (List NamedRows) FileFault
each_switch kept before [] = Ok before
each_switch kept before (t ∷ ts) = do
  switch ← in_switch (length before + 1) (switch_at kept t)
  each_switch kept (before ++ switch ∷ []) ts

-- ---- over all switches

abbrev pub over_all_line : Bool → ℕ → ConfigFault → Line FileFault
over_all_line holds k fault = line holds (record { switch = k + 1; fault = fault })

-- it is there, and is this number
abbrev pub is_this : Option ℕ → ℕ → Bool
is_this found k = option_map_or (λ i. nat_eq i k) found false

-- no switch before has its name
unfoldable pub name_lines : List NamedRows → ℕ → List (Line FileFault)
name_lines switches k =
    option_map_or (λ s. over_all_line (is_this (switch_named switches s.name) k) k
    (Twice (place part.Top 0 6)) ∷ []) (slice_get switches k) []

-- a system's name is no switch's, and no system's before; nor is its number
abbrev pub lines_of_system : List NamedRows → (k i : ℕ) → SystemRow → List (Line FileFault)
lines_of_system switches k i s =
    over_all_line
    (not (is_some (switch_named switches s.name)) && is_this (home_of switches s.name) k)
    k (Twice (place part.System (i + 1) 1))
    ∷ over_all_line (is_this (home_of_id switches s.id) k) k (Twice (place part.System (i + 1) 3))
    ∷ []

unfoldable pub system_lines : List NamedRows → (k i : ℕ) → List (Line FileFault)
system_lines switches k i =
    option_map_or (lines_of_system switches k i)
    (option_and_then (λ s. slice_get s.rows.systems i) (slice_get switches k)) []

-- a neighbour's name is another switch's, which lists this one, at the same rate
abbrev pub lines_of_neighbour : List NamedRows → (name : List ℕ) → (k i : ℕ) → SystemRow →
    List (Line FileFault)
lines_of_neighbour switches name k i e =
    let far = switch_named switches e.name in
    let back = option_and_then (listed_at switches name) far in
    over_all_line (is_some far && not (is_this far k)) k (NoSuchSystem (place part.Neighbour i 1))
    ∷ over_all_line (is_some back) k (OutOfRange (place part.Neighbour i 1))
    ∷ over_all_line (option_map_or (λ b. nat_eq b.rate e.rate) back false) k
    (OutOfRange (place part.Neighbour i 3))
    ∷ []

unfoldable pub neighbour_lines : List NamedRows → (k i : ℕ) → List (Line FileFault)
neighbour_lines switches k i =
    option_map_or (λ s. option_map_or
    (lines_of_neighbour switches s.name k (i - s.rows.own + 1))
    (slice_get s.rows.systems i) []) (slice_get switches k) []

-- a link that a system sends here starts at no switch before
abbrev pub lines_of_start : List NamedRows → (own k i : ℕ) → LinkRow → List (Line FileFault)
lines_of_start switches own k i l =
    over_all_line (nat_le own l.from || is_this (start_of switches l.vl) k) k
    (Twice (place part.Link (i + 1) 2)) ∷ []

unfoldable pub start_lines : List NamedRows → (k i : ℕ) → List (Line FileFault)
start_lines switches k i =
    option_map_or (λ s. option_map_or (lines_of_start switches s.rows.own k i)
    (slice_get s.rows.links i) []) (slice_get switches k) []

-- of one switch: of its systems, of its neighbours, of its links
unfoldable pub systems_lines : List NamedRows → ℕ → List (Line FileFault)
systems_lines switches k =
    option_map_or (λ s. each_from (system_lines switches k) 0 s.rows.own) (slice_get switches k) []

unfoldable pub neighbours_lines : List NamedRows → ℕ → List (Line FileFault)
neighbours_lines switches k =
    option_map_or (λ s. each_from (neighbour_lines switches k) s.rows.own
    (length s.rows.systems - s.rows.own)) (slice_get switches k) []

unfoldable pub starts_lines : List NamedRows → ℕ → List (Line FileFault)
starts_lines switches k =
    option_map_or (λ s. each_from (start_lines switches k) 0 (length s.rows.links))
    (slice_get switches k) []

-- the names, then the systems, then the neighbours, then the starts of links, each in file order
unfoldable pub over_all : List NamedRows → List (Line FileFault)
over_all switches =
    each_from (name_lines switches) 0 (length switches)
    ++ (each_from (systems_lines switches) 0 (length switches)
    ++ (each_from (neighbours_lines switches) 0 (length switches)
    ++ each_from (starts_lines switches) 0 (length switches)))

-- ---- the whole

abbrev pub no_fault : {F : Type 0} → Option F → Result (Unit {0}) F
no_fault None = Ok tt
no_fault (Some fault) = Err fault

-- how many switches there may be on a side
abbrev pub most_switches : ℕ
most_switches = 24

-- the tables of the switches: there is one, and at most as many as the key's range says
unfoldable pub switch_tables : Members → Result (List Members) ConfigFault
switch_tables t = do
  switches ← tables keys.switches_at t
  check (nat_le 1 (length switches)) (OutOfRange keys.switches_at.place)
  Ok switches

unfoldable pub switches_at : KeptKeys → Members → Result (List NamedRows) FileFault
switches_at kept t = do
  switches ← in_switch 0 (switch_tables t)
  in_switch 0 (only_cascade_keys t)
  switches ← each_switch kept [] switches
  no_fault (first_false (over_all switches))
  Ok switches

-- what stands in the tables of several switches: each is lawful by itself, and what holds over all
-- of them does
pub record AreSwitches (switches : List NamedRows) : Type 0 where
  pub count : IsWithin 1 most_switches (length switches)
  pub names : AllByRecursion (λ s. is_name s.name ≡ true) switches
  pub each : AllByRecursion (λ s. IsLawfulSwitch s.rows) switches
  pub over : first_false (over_all switches) ≡ None
