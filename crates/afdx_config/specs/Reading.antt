-- The one order of the checks, over the tree that TOML reads: the top, then each system, each link
-- and each port entry in file order. A table is read key by key, in the order of the keys' numbers.
use Rattle.std.specs.Prelude.{◌≡◌, ℕ, ◌+◌, Bool, false, not, ◌&&◌, ◌||◌, ◌==◌, nat_le, nat_eq}
use Rattle.std.specs.Prelude.{nat_lt}
use Rattle.std.specs.Prelude.{List, [], ◌∷◌, ◌++◌, length, codes, position, find, Option, Some}
use Rattle.std.specs.Prelude.{None, is_some, option_map, option_and_then, Result, Ok, Err, IsUtf8}
use Rattle.std.specs.Prelude.{◌⊎◌, if◌then◌else◌}
use Rattle.std.specs.List.{list_any, list_all}
use Rattle.std.specs.Option.{option_map_or}
use Rattle.std.specs.Str.{bytes_eq}
use Rattle.std.specs.Char.{is_ascii_alphanumeric}
use Rattle.afdx_frame.specs.declared.link.Priority.TheVariants.{High, Low}
use Rattle.afdx_frame.specs.declared.link.Policing.TheVariants.{Byte, Frame}
use Rattle.toml.specs.Parse.{parse_document}
use Rattle.toml.specs.Data.{Members}
use Rattle.afdx_frame.specs.Regulation.{gaps}
use Rattle.afdx_frame.specs.Regulation.{jitter_from_system, jitter_from_any}
pub use Rattle.afdx_frame.specs.Regulation.{greatest_delay}
use Rattle.afdx_config.specs.declared.fault.ConfigFault.{ConfigFault}
use Rattle.afdx_config.specs.declared.fault.ConfigFault.TheVariants.{NotToml, BadProfile}
use Rattle.afdx_config.specs.declared.fault.ConfigFault.TheVariants.{OutOfRange, Twice}
use Rattle.afdx_config.specs.declared.fault.ConfigFault.TheVariants.{NoSuchSystem}
use Rattle.afdx_config.specs.declared.rows.KeptKeys.{KeptKeys}
use Rattle.afdx_config.specs.declared.rows.Kind.{Kind}
use Rattle.afdx_config.specs.declared.rows.Kind.TheVariants.{Sampling, Queuing}
use Rattle.afdx_config.specs.declared.read_links.Traffic.{Traffic}
use Rattle.afdx_config.specs.declared.read_links.Treatment.{Treatment}
use Rattle.afdx_config.specs.declared.read_ports.Socket.{Socket}
use Rattle.afdx_config.specs.Rows.{SystemRow, LinkRow, PortRow, Rows, is_to}
use Rattle.afdx_config.specs.Choices.{choice, all_kept}
use Rattle.afdx_frame.specs.Checks.{◌>>=◌, ◌>>◌, check, or_else}
use Rattle.afdx_config.specs.Keys as keys
use Rattle.afdx_config.specs.Keys.{Spot, top_at, at_least, at_most, whole, one_of, text, word}
use Rattle.afdx_config.specs.Keys.{tables, texts}
use Rattle.afdx_config.specs.Keys.{only_system_keys, only_link_keys, only_port_keys, only_top_keys}

-- ---- look-ups among the rows

-- the place of the system of this name, and of the one at this port of the switch
unfoldable pub system_named : List SystemRow → List ℕ → Option ℕ
system_named systems name = position (λ s. bytes_eq name s.name) systems

unfoldable pub system_at_port : List SystemRow → ℕ → Option ℕ
system_at_port systems port = position (λ s. s.port == port) systems

-- the place of the system that hears what leaves this port: a neighbour hears nothing
unfoldable pub listener_at : Rows → ℕ → Option ℕ
listener_at t port = option_and_then (λ i. if nat_lt i t.own then Some i else None)
    (system_at_port t.systems port)

unfoldable pub has_id : List SystemRow → ℕ → Bool
has_id systems id = list_any (λ s. s.id == id) systems

-- the system that a text names
unfoldable pub named : Spot → List SystemRow → Members → Result ℕ ConfigFault
named at systems t = do
  name ← text at t
  or_else (system_named systems name) (NoSuchSystem at.place)

-- what each of a list stands for, where each stands for something
abbrev pub all_of : {X A : Type 0} → (X → Option A) → List X → Option (List A)
all_of f [] = Some []
all_of f (x ∷ xs) = option_and_then (λ a. option_map (λ rest. a ∷ rest) (all_of f xs)) (f x)

-- a place stands twice
abbrev pub has_repeat : List ℕ → Bool
has_repeat [] = false
has_repeat (i ∷ is) = list_any (λ j. nat_eq j i) is || has_repeat is

-- the systems are all different, and none is `from`
unfoldable pub are_apart : ℕ → List ℕ → Bool
are_apart from to = not (list_any (λ j. nat_eq j from) to) && not (has_repeat to)

-- what `to` names: systems, all different, and other than `from`
unfoldable pub destinations : Spot → List SystemRow → ℕ → Members → Result (List ℕ) ConfigFault
destinations at systems from t = do
  names ← texts at t
  to ← or_else (all_of (system_named systems) names) (NoSuchSystem at.place)
  check (are_apart from to) (Twice at.place)
  Ok to

-- ---- the rows, each after those before it

-- 1 to 16 ASCII letters and digits
unfoldable pub is_name : List ℕ → Bool
is_name s = (nat_le 1 (length s) && nat_le (length s) 16) && list_all is_ascii_alphanumeric s

-- a name that no system before has
unfoldable pub new_name : Spot → List SystemRow → Members → Result (List ℕ) ConfigFault
new_name at before t = do
  name ← text at t
  check (is_name name) (OutOfRange at.place)
  check (not (is_some (system_named before name))) (Twice at.place)
  Ok name

-- the rates of a profile's lines, in Mbit/s
abbrev pub rates : ℕ → List ℕ
rates profile = if profile == 2 then 10 ∷ 100 ∷ 1000 ∷ [] else 10 ∷ 100 ∷ []

-- a system, whose name, port and id no system before has
unfoldable pub system_at : ℕ → List SystemRow → Members → Result SystemRow ConfigFault
system_at profile before t =
    let at : ℕ → Spot = keys.system_at (length before + 1) in do
      name ← new_name (at 1) before t
      port ← whole (at 2) t
      check (not (is_some (system_at_port before port))) (Twice (at 2).place)
      id ← whole (at 3) t
      check (not (has_id before id)) (Twice (at 3).place)
      partition ← whole (at 4) t
      rate ← one_of (at 5) (rates profile) t
      only_system_keys (length before + 1) t
      Ok (record { name = name; port = port; id = id; partition = partition; rate = rate })

-- the place of the link of this identifier
unfoldable pub link_of : List LinkRow → ℕ → Option ℕ
link_of links vl = position (λ l. nat_eq vl l.vl) links

-- the greatest jitter of a link, in us, by its BAG in ms: of the ends the first `own` are systems,
-- and what comes from another switch may be later
unfoldable pub greatest_jitter : (own from bag_ms : ℕ) → ℕ
greatest_jitter own from bag_ms =
    if nat_lt from own then jitter_from_system bag_ms else jitter_from_any bag_ms

-- how much a link may send, and how its frames are treated
unfoldable pub traffic_at : KeptKeys → (ℕ → ℕ) → ℕ → Members → Result Traffic ConfigFault
traffic_at kept greatest i t = do
  bag_ms ← one_of (keys.link_at i 4) gaps t
  lmin ← whole (keys.link_at i 5) t
  lmax ← whole (at_least lmin (keys.link_at i 6)) t
  jitter_us ← choice kept.jitter (at_most (greatest bag_ms) (keys.link_at i 7)) t
  Ok (record { bag_ms = bag_ms; lmin = lmin; lmax = lmax; jitter_us = jitter_us })

unfoldable pub treatment_at : KeptKeys → ℕ → Members → Result Treatment ConfigFault
treatment_at kept i t = do
  priority ← word (keys.link_at i 8) ((codes "high", High) ∷ (codes "low", Low) ∷ []) t
  policing ← word (keys.link_at i 9) ((codes "byte", Byte) ∷ (codes "frame", Frame) ∷ []) t
  latency_us ← choice kept.latency (keys.link_at i 10) t
  skew_us ← choice kept.skew (keys.link_at i 11) t
  subs ← whole (keys.link_at i 12) t
  Ok (record {
    priority = priority;
    policing = policing;
    latency_us = latency_us;
    skew_us = skew_us;
    subs = subs;
  })

-- a link, whose identifier no link before has; of the ends the first `own` are systems
unfoldable pub link_at : KeptKeys → ℕ → List SystemRow → List LinkRow → Members →
    Result LinkRow ConfigFault
link_at kept own systems before t =
    let at : ℕ → Spot = keys.link_at (length before + 1) in do
      vl ← whole (at 1) t
      check (not (is_some (link_of before vl))) (Twice (at 1).place)
      from ← named (at 2) systems t
      to ← destinations (at 3) systems from t
      traffic ← traffic_at kept (greatest_jitter own from) (length before + 1) t
      treatment ← treatment_at kept (length before + 1) t
      only_link_keys (length before + 1) t
      Ok (record {
        vl = vl;
        from = from;
        to = to;
        bag_ms = traffic.bag_ms;
        lmin = traffic.lmin;
        lmax = traffic.lmax;
        jitter_us = traffic.jitter_us;
        priority = treatment.priority;
        policing = treatment.policing;
        latency_us = treatment.latency_us;
        skew_us = treatment.skew_us;
        subs = treatment.subs;
      })

-- there is a link of this identifier, and it goes to the system
unfoldable pub goes_to : List LinkRow → ℕ → ℕ → Bool
goes_to links vl system = option_map_or (is_to system) (find (λ l. nat_eq vl l.vl) links) false

-- an entry for this system, link and UDP port
unfoldable pub has_port : List PortRow → ℕ → ℕ → ℕ → Bool
has_port ports system link udp =
    list_any (λ p. (nat_eq p.system system && nat_eq p.link link) && nat_eq p.udp udp) ports

-- how many messages a port of a kind may hold
abbrev pub deepest : Kind → ℕ
deepest Sampling = 1
deepest Queuing = 64

-- what a port entry takes: its link goes to its system, and no entry before takes the same
unfoldable pub socket_at : (ℕ → Spot) → List SystemRow → List LinkRow → List PortRow →
    Members → Result Socket ConfigFault
socket_at at systems links before t = do
  system ← named (at 1) systems t
  link ← whole (at 2) t
  check (goes_to links link system) (OutOfRange (at 2).place)
  udp ← whole (at 3) t
  check (not (has_port before system link udp)) (Twice (at 3).place)
  Ok (record { system = record { 0 = system }; link = record { 0 = link }; udp = udp })

-- a port entry
unfoldable pub port_at : List SystemRow → List LinkRow → List PortRow → Members →
    Result PortRow ConfigFault
port_at systems links before t =
    let at : ℕ → Spot = keys.port_at (length before + 1) in do
      socket ← socket_at at systems links before t
      kind ← word (at 4) ((codes "sampling", Sampling) ∷ (codes "queuing", Queuing) ∷ []) t
      depth ← whole (at_most (deepest kind) (at 5)) t
      only_port_keys (length before + 1) t
      Ok (record {
        system = socket.system.0;
        link = socket.link.0;
        udp = socket.udp;
        kind = kind;
        depth = depth;
      })

-- the rows of some tables, each read after those before it
abbrev pub each : {R : Type 0} → (List R → Members → Result R ConfigFault) → List R →
    List Members → Result (List R) ConfigFault
each row_at before [] = Ok before
each row_at before (t ∷ ts) = do
  row ← row_at before t
  each row_at (before ++ row ∷ []) ts

-- ---- the whole

-- whatever is wrong with the profile, it is a bad one
abbrev pub or_bad_profile : Result ℕ ConfigFault → Result ℕ ConfigFault
or_bad_profile (Ok n) = Ok n
or_bad_profile (Err e) = Err BadProfile

-- how many links, and how many communication ports, there may be; of systems, as many as ports of
-- a switch
abbrev pub most_links : ℕ
most_links = 4096

abbrev pub most_ports : ℕ
most_ports = 4096

-- and how many neighbours: all other switches
abbrev pub most_neighbours : ℕ
most_neighbours = 23

-- the top, whose arrays of tables are counted before any table is read
unfoldable pub tables_at : KeptKeys → Members → Result Rows ConfigFault
tables_at kept t = do
  profile ← or_bad_profile (whole (top_at 1) t)
  buffer ← choice kept.buffer (top_at 2) t
  systems ← tables (top_at 3) t
  links ← tables (top_at 4) t
  ports ← tables (top_at 5) t
  only_top_keys t
  systems ← each (system_at profile) [] systems
  links ← each (link_at kept (length systems) systems) [] links
  ports ← each (port_at systems links) [] ports
  Ok (record {
    profile = profile;
    buffer = buffer;
    own = length systems;
    systems = systems;
    links = links;
    ports = ports;
  })

-- the text is a TOML document, and spells this tree
abbrev pub IsTreeOf : List ℕ → Members → Type 0
IsTreeOf text tree = IsUtf8 text × (parse_document text ≡ Some tree)

-- the text is no TOML document
abbrev pub HasNoTree : List ℕ → Type 0
HasNoTree text = IsUtf8 text → parse_document text ≡ None

-- what is wrong with a text, of which these keys are kept: it is no TOML, or its tree has this
-- first fault
abbrev pub IsFaultKeeping : KeptKeys → List ℕ → ConfigFault → Type 0
IsFaultKeeping kept text e =
    ((e ≡ NotToml) × HasNoTree text)
    ⊎ (IsUtf8 text
    × ((tree : Members) × (parse_document text ≡ Some tree) × (tables_at kept tree ≡ Err e)))

-- the text, of which these keys are kept, spells a tree that states the rows
abbrev pub SpellsKeeping : KeptKeys → List ℕ → Rows → Type 0
SpellsKeeping kept text rows =
    IsUtf8 text
    × ((tree : Members) × (parse_document text ≡ Some tree) × (tables_at kept tree ≡ Ok rows))

-- the same of a text of which all keys are kept
abbrev pub IsFaultOf : List ℕ → ConfigFault → Type 0
IsFaultOf text e = IsFaultKeeping all_kept text e

abbrev pub Spells : List ℕ → Rows → Type 0
Spells text rows = SpellsKeeping all_kept text rows
