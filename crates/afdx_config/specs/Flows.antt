-- A link of the tables as one that sends to an output port.
use Rattle.std.specs.Prelude.{◌*◌}
use Rattle.afdx_frame.specs.Regulation.{Regulation, regulation_with}
use Rattle.afdx_frame.specs.Flows.{Flow}
use Rattle.afdx_config.specs.Rows.{LinkRow}

-- how a link is regulated
abbrev pub regulation_of_link : LinkRow → Regulation
regulation_of_link l = regulation_with l.bag_ms l.jitter_us l.lmax

-- with its class, and its latency in ns
abbrev pub flow_of_link : LinkRow → Flow
flow_of_link l = record {
  vl = l.vl;
  link = regulation_of_link l;
  priority = l.priority;
  latency = 1000 * l.latency_us;
}
