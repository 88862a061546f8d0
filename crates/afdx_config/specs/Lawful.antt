-- Every rule of the format, as a fact of the rows. A link's greatest jitter is a number of its own:
-- it depends on who sends the link to this switch, a system or another switch.
use Rattle.std.specs.Prelude.{◌≡◌, ℕ, ◌+◌, ◌<◌, ◌≤◌, true, List, length, nat_eq, slice_get}
use Rattle.std.specs.Prelude.{IsTrue, Some, take, drop}
use Rattle.std.specs.List.{list_any, AllByRecursion}
use Rattle.afdx_frame.specs.Lengths.{least_frame, greatest_frame, greatest_buffer}
use Rattle.afdx_frame.specs.Regulation.{is_bag, greatest_delay}
pub use Rattle.afdx_frame.specs.Regulation.{jitter_from_system, jitter_from_any}
use Rattle.afdx_frame.specs.Ports.{last_port}
use Rattle.afdx_config.specs.Rows.{SystemRow, LinkRow, PortRow, Rows}
use Rattle.afdx_config.specs.Reading.{is_name, are_apart, goes_to, deepest, rates}
use Rattle.afdx_config.specs.Reading.{most_links, most_ports, most_neighbours}

abbrev pub IsWithin : ℕ → ℕ → ℕ → Type 0
IsWithin low high n = (low ≤ n) × (n ≤ high)

abbrev pub IsOneOf : List ℕ → ℕ → Type 0
IsOneOf ns n = list_any (λ m. nat_eq m n) ns ≡ true

-- two rows that agree in this are one row
unfoldable pub AreDistinct : {R A : Type 0} → (R → A) → List R → Type 0
AreDistinct {R} f rows =
    (i j : ℕ) (a b : R) →
    slice_get rows i ≡ Some a →
    slice_get rows j ≡ Some b →
    f a ≡ f b →
    i ≡ j

pub record IsSystem (profile : ℕ) (s : SystemRow) : Type 0 where
  pub name : is_name s.name ≡ true
  pub port : IsWithin 1 last_port s.port
  pub id : IsWithin 0 65535 s.id
  pub partition : IsWithin 0 255 s.partition
  pub rate : IsOneOf (rates profile) s.rate

pub record IsLinkUpTo (greatest_jitter : ℕ → ℕ) (systems : ℕ) (l : LinkRow) : Type 0 where
  pub vl : IsWithin 0 65535 l.vl
  pub from : l.from < systems
  pub to : AllByRecursion (λ i. i < systems) l.to
  pub to_count : IsWithin 1 last_port (length l.to)
  pub apart : are_apart l.from l.to ≡ true
  pub bag_ms : IsTrue (is_bag l.bag_ms)
  pub lmin : IsWithin least_frame greatest_frame l.lmin
  pub lmax : IsWithin l.lmin greatest_frame l.lmax
  pub jitter_us : IsWithin 0 (greatest_jitter l.bag_ms) l.jitter_us
  pub latency_us : IsWithin 1 greatest_delay l.latency_us
  pub skew_us : IsWithin 1 greatest_delay l.skew_us
  pub subs : IsWithin 1 4 l.subs

abbrev pub IsLink : ℕ → LinkRow → Type 0
IsLink = IsLinkUpTo jitter_from_system

-- among so many ends, of which the first `own` are systems: one that a system sends has no greater
-- jitter than with one switch
pub record IsLinkAmong (own ends : ℕ) (l : LinkRow) : Type 0 where
  pub link : IsLinkUpTo jitter_from_any ends l
  pub sent : l.from < own → l.jitter_us ≤ jitter_from_system l.bag_ms

pub record IsPort (systems : ℕ) (links : List LinkRow) (p : PortRow) : Type 0 where
  pub system : p.system < systems
  pub link : goes_to links p.link p.system ≡ true
  pub udp : IsWithin 1 65535 p.udp
  pub depth : IsWithin 1 (deepest p.kind) p.depth

-- what tells a port entry from the others
abbrev pub triple : PortRow → ℕ × ℕ × ℕ
triple p = (p.system, p.link, p.udp)

pub record AreSystems (profile : ℕ) (systems : List SystemRow) : Type 0 where
  pub count : length systems ≤ last_port
  pub each : AllByRecursion (IsSystem profile) systems
  pub names : AreDistinct (λ s. s.name) systems
  pub ports : AreDistinct (λ s. s.port) systems
  pub ids : AreDistinct (λ s. s.id) systems

-- a neighbour has neither number nor partition
abbrev pub HasNoNumber : SystemRow → Type 0
HasNoNumber e = (e.id ≡ 0) × (e.partition ≡ 0)

-- and of ends, of which the first `own` are systems
pub record AreEnds (profile own : ℕ) (ends : List SystemRow) : Type 0 where
  pub count : length ends ≤ last_port
  pub each : AllByRecursion (IsSystem profile) ends
  pub names : AreDistinct (λ s. s.name) ends
  pub ports : AreDistinct (λ s. s.port) ends
  pub ids : AreDistinct (λ s. s.id) (take own ends)
  pub few : length ends ≤ own + most_neighbours
  pub neighbours : AllByRecursion HasNoNumber (drop own ends)

pub record AreLinksUpTo (greatest_jitter : ℕ → ℕ) (systems : ℕ) (links : List LinkRow) :
    Type 0 where
  pub count : length links ≤ most_links
  pub each : AllByRecursion (IsLinkUpTo greatest_jitter systems) links
  pub identifiers : AreDistinct (λ l. l.vl) links

abbrev pub AreLinks : ℕ → List LinkRow → Type 0
AreLinks = AreLinksUpTo jitter_from_system

-- a link that one of the first `own` ends sends has no greater jitter than with one switch
abbrev pub HaveSystemJitter : (own : ℕ) → List LinkRow → Type 0
HaveSystemJitter own links = (i : ℕ) (l : LinkRow) →
    slice_get links i ≡ Some l →
    l.from < own →
    l.jitter_us ≤ jitter_from_system l.bag_ms

pub record ArePorts (systems : ℕ) (links : List LinkRow) (ports : List PortRow) : Type 0 where
  pub count : length ports ≤ most_ports
  pub each : AllByRecursion (IsPort systems links) ports
  pub triples : AreDistinct triple ports

-- each is of one of the first `own` ends
abbrev pub AreOfSystems : (own : ℕ) → List PortRow → Type 0
AreOfSystems own ports = (i : ℕ) (p : PortRow) → slice_get ports i ≡ Some p → p.system < own

-- the tables of the one switch on a side: all that stands at its ports is a system
pub record IsLawful (t : Rows) : Type 0 where
  pub profile : IsWithin 1 2 t.profile
  pub buffer : IsWithin least_frame greatest_buffer t.buffer
  pub own : t.own ≡ length t.systems
  pub systems : AreSystems t.profile t.systems
  pub links : AreLinks (length t.systems) t.links
  pub ports : ArePorts (length t.systems) t.links t.ports

-- The tables of a switch that may have other switches beside it, which send links to it. A link
-- that one of its own systems sends has no greater jitter than with one switch, and only a system
-- has communication ports.
pub record IsLawfulSwitch (t : Rows) : Type 0 where
  pub profile : IsWithin 1 2 t.profile
  pub buffer : IsWithin least_frame greatest_buffer t.buffer
  pub own : t.own ≤ length t.systems
  pub systems : AreEnds t.profile t.own t.systems
  pub links : AreLinksUpTo jitter_from_any (length t.systems) t.links
  pub sent : HaveSystemJitter t.own t.links
  pub ports : ArePorts (length t.systems) t.links t.ports
  pub heard : AreOfSystems t.own t.ports

-- the link comes from a system and goes to this one: neither is a neighbour
pub record IsBetweenSystems (t : Rows) (system : ℕ) (l : LinkRow) : Type 0 where
  pub from : l.from < t.own
  pub to : system < t.own
