-- What the tables of a configuration hold, as plain data.
use Rattle.std.specs.Prelude.{ℕ, ◌<◌, Bool, List, [], ◌∷◌, length, map, string_bytes, nat_eq}
use Rattle.std.specs.List.{list_any, AllByRecursion}
use Rattle.afdx_frame.specs.declared.link.Priority.{Priority}
use Rattle.afdx_frame.specs.declared.link.Priority.TheVariants.{High}
use Rattle.afdx_frame.specs.declared.link.Policing.{Policing}
use Rattle.afdx_frame.specs.declared.link.Policing.TheVariants.{Byte}
use Rattle.afdx_config.specs.declared.rows.Kind.{Kind}
use Rattle.afdx_config.specs.declared.rows.SystemId.{SystemId}
use Rattle.afdx_config.specs.declared.rows.System.{System}
use Rattle.afdx_config.specs.declared.rows.Link.{Link}
use Rattle.afdx_config.specs.declared.rows.ComRow.{ComRow}

-- an end system: its port of the switch, its number in addresses, and the rate of its line in
-- Mbit/s
pub record SystemRow : Type 0 where
  pub name : List ℕ
  pub port : ℕ
  pub id : ℕ
  pub partition : ℕ
  pub rate : ℕ

-- a virtual link. A system is named by its place, from 0. Frame lengths are in bytes, with the
-- check sequence
pub record LinkRow : Type 0 where
  pub vl : ℕ
  pub from : ℕ
  pub to : List ℕ
  pub bag_ms : ℕ
  pub lmin : ℕ
  pub lmax : ℕ
  pub jitter_us : ℕ
  pub priority : Priority
  pub policing : Policing
  pub latency_us : ℕ
  pub skew_us : ℕ
  pub subs : ℕ

-- what examples change: a high link of 64-byte frames, one a millisecond, from the first system to
-- the second
abbrev pub example_link : LinkRow
example_link = record {
  vl = 1;
  from = 0;
  to = 1 ∷ [];
  bag_ms = 1;
  lmin = 64;
  lmax = 64;
  jitter_us = 500;
  priority = High;
  policing = Byte;
  latency_us = 11;
  skew_us = 1000;
  subs = 1;
}

-- a communication port: the system that has it, the link and the UDP port that it listens to
pub record PortRow : Type 0 where
  pub system : ℕ
  pub link : ℕ
  pub udp : ℕ
  pub kind : Kind
  pub depth : ℕ

-- The buffer of each output port is in bytes. The ends are what stands at the ports of the switch:
-- first its own systems, then its neighbours, which are other switches. A neighbour's `id` and
-- `partition` mean nothing.
pub record Rows : Type 0 where
  pub profile : ℕ
  pub buffer : ℕ
  pub own : ℕ
  pub systems : List SystemRow
  pub links : List LinkRow
  pub ports : List PortRow

abbrev pub rows_with : ℕ → ℕ → ℕ → List SystemRow → List LinkRow → List PortRow → Rows
rows_with profile buffer own systems links ports = record {
  profile = profile;
  buffer = buffer;
  own = own;
  systems = systems;
  links = links;
  ports = ports;
}

-- the link goes to this system
abbrev pub is_to : ℕ → LinkRow → Bool
is_to system link = list_any (λ place. nat_eq place system) link.to

-- the rows that the structs of the code stand for
abbrev pub system_row : System → SystemRow
system_row s = record {
  name = string_bytes s.name;
  port = s.port;
  id = s.id;
  partition = s.partition;
  rate = s.rate;
}

abbrev pub system_places : List SystemId → List ℕ
system_places ids = map (λ i. i.0) ids

-- each is the place of one of these systems
abbrev pub AreKnown : {S : Type 0} → List S → List SystemId → Type 0
AreKnown systems ids = AllByRecursion (λ i. i < length systems) (system_places ids)

abbrev pub link_row : Link → LinkRow
link_row l = record {
  vl = l.vl.0;
  from = l.from.0;
  to = system_places l.to.items;
  bag_ms = l.bag_ms;
  lmin = l.lmin;
  lmax = l.lmax;
  jitter_us = l.jitter_us;
  priority = l.priority;
  policing = l.policing;
  latency_us = l.latency_us;
  skew_us = l.skew_us;
  subs = l.subs;
}

abbrev pub port_row : ComRow → PortRow
port_row c =
    record { system = c.system.0; link = c.link.0; udp = c.udp; kind = c.kind; depth = c.depth }

abbrev pub port_rows : List ComRow → List PortRow
port_rows cs = map port_row cs
