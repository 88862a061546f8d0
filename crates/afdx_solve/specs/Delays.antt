-- What is kept of the output ports while latencies are solved for.
use Rattle.std.specs.Prelude.{◌≡◌, ℕ, ◌<◌, List, length, slice_index}
use Rattle.afdx_frame.specs.declared.link.Priority.{Priority}
use Rattle.afdx_frame.specs.declared.link.Priority.TheVariants.{High, Low}
use Rattle.afdx_frame.specs.Ports.{last_port}
use Rattle.afdx_config.specs.Rows.{Rows}
use Rattle.afdx_solve.specs.declared.delays.Delays.{Delays}
use Rattle.afdx_solve.specs.Solved.{delay_to}

-- what links of a class need at the output ports to all systems, by their places
pub record AreDelays (t : Rows) (class : Priority) (delays : List ℕ) : Type 0 where
  pub count : length delays ≡ last_port
  pub each : (place : ℕ) →
      place < length t.systems →
      slice_index delays place ≡ delay_to t class place

abbrev pub of_class : Priority → Delays → List ℕ
of_class High delays = delays.high
of_class Low delays = delays.low
