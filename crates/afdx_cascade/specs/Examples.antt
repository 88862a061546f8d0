-- An example in which every premise is met: two switches, one virtual link, and a frame that passes
-- both. A system of the first switch sends the link, and one of the second gets it; port 2 of the
-- first is joined to port 1 of the second. The jitter at the first switch is less than at the
-- second by its latency there, of 11 us.
use Rattle.std.specs.Prelude.{◌≡◌, ℕ, true, List, [], ◌∷◌, codes, length}
use Rattle.afdx_frame.specs.declared.link.Side.TheVariants.{A}
use Rattle.afdx_config.specs.Rows.{SystemRow, LinkRow, PortRow, Rows, example_link}
use Rattle.afdx_config.specs.Switches.{NamedRows, named_rows}
use Rattle.afdx_config.specs.declared.rows.Kind.TheVariants.{Sampling}
use Rattle.afdx_switch.specs.Tables.{goes_to}
use Rattle.afdx_law_promises.specs.Examples.{sender, receiver, one}
use Rattle.afdx_cascade.specs.Cables.{Hop, accepted_at, all_turns, brought_by}
use Rattle.afdx_cascade.specs.Ways.{IsWay, IsWhole}

-- another switch, at a port
abbrev pub neighbour : List ℕ → ℕ → SystemRow
neighbour name port =
    record { name = name; port = port; id = 0; partition = 0; rate = 100 }

-- a switch with a system, a neighbour, and a link
abbrev pub switch_with : SystemRow → SystemRow → LinkRow → List PortRow → Rows
switch_with system other link ports = record {
  profile = 2;
  buffer = 126;
  own = 1;
  systems = system ∷ other ∷ [];
  links = link ∷ [];
  ports = ports;
}

-- from the system to the neighbour
abbrev pub link_before : LinkRow
link_before = record example_link { jitter_us = 489 }

abbrev pub tables_before : Rows
tables_before = switch_with sender (neighbour (codes "aft") 2) link_before []

-- from the neighbour to the system, which listens to its UDP port 5
abbrev pub link_after : LinkRow
link_after = record example_link { from = 1; to = 0 ∷ [] }

abbrev pub listening : PortRow
listening = record { system = 0; link = 1; udp = 5; kind = Sampling; depth = 1 }

abbrev pub tables_after : Rows
tables_after = switch_with receiver (neighbour (codes "fwd") 1) link_after (listening ∷ [])

-- as a file describes them
abbrev pub switches : List NamedRows
switches =
    named_rows (codes "fwd") tables_before ∷ named_rows (codes "aft") tables_after ∷ []

-- the first switch, at which one frame arrives
abbrev pub first_switch : Hop
first_switch = record { tables = tables_before; link = link_before; arrivals = one }

-- the second one
abbrev pub second_switch : Hop
second_switch = record {
  tables = tables_after;
  link = link_after;
  arrivals = brought_by A 1 (all_turns first_switch A 2);
}

pub record PremisesAreMet : Type 0 where
  pub way : IsWay A second_switch (first_switch ∷ [])
  pub whole : IsWhole A second_switch (first_switch ∷ []) way
  pub goes : goes_to tables_after link_after 2 ≡ true
  -- so the frame is accepted at both
  pub at_first : accepted_at first_switch A ≡ one
  pub at_second : length (accepted_at second_switch A) ≡ 1
