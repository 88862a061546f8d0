-- The sums that are kept of an output port's links, in units of one byte over `byte_units`. Rates
-- are per nanosecond, so that no sum is multiplied by the time of a byte: with the greatest jitters
-- the products would not fit in 64 bits.
use Rattle.std.specs.Prelude.{◌≡◌, ℕ, ◌+◌, ◌*◌, ◌/◌, ◌≤◌, ◌<◌, max, List, length, slice_index, slice_get}
use Rattle.std.specs.Prelude.{Some, if◌then◌else◌}
use Rattle.afdx_frame.specs.declared.link.Priority.TheVariants.{High, Low}
use Rattle.afdx_frame.specs.Lengths.{greatest_frame}
use Rattle.afdx_frame.specs.Ports.{last_port}
use Rattle.afdx_frame.specs.Regulation.{fill_rate, cap, wire_of, byte_units}
use Rattle.afdx_config.specs.Rows.{SystemRow, LinkRow, Rows}
use Rattle.afdx_config.specs.Lawful.{IsLinkUpTo, jitter_from_any}
use Rattle.afdx_frame.specs.Flows.{Flow, is_class}
use Rattle.afdx_frame.specs.Flows as port
use Rattle.afdx_admit.specs.declared.sums.Sums.{Sums}
use Rattle.afdx_admit.specs.Lines.{LoadedOutput, loaded_output_to}
use Rattle.afdx_admit.specs.Lines.{jitter_at}

-- the line carries a byte in `byte_ns`
pub record IsSums (o : LoadedOutput) (r : Sums) : Type 0 where
  pub some : 1 ≤ o.byte_ns
  pub line : r.line * o.byte_ns ≡ byte_units
  pub burst : r.burst ≡ port.burst o.flows
  pub rate : r.rate * o.byte_ns ≡ port.load o.byte_ns o.flows
  pub high_burst : r.high_burst ≡ port.burst (port.of_class High o.flows)
  pub high_rate : r.high_rate * o.byte_ns ≡ port.load o.byte_ns (port.of_class High o.flows)
  pub longest_low : r.longest_low ≡ port.longest (port.of_class Low o.flows)

-- so many ns are the time of a byte of which `byte_units` is a whole number
pub record IsByteTime (ns : ℕ) : Type 0 where
  pub some : 1 ≤ ns
  pub whole : byte_units / ns * ns ≡ byte_units

-- the sums of the output port to the system at a place
pub record AreSumsTo (t : Rows) (place : ℕ) (r : Sums) : Type 0 where
  pub row : SystemRow
  pub stands : slice_get t.systems place ≡ Some row
  pub sums : IsSums (loaded_output_to t place row) r

-- the most that one link may send at once, and in a nanosecond: frames of the greatest length in
-- the shortest gap, with the greatest jitter
abbrev pub greatest_burst : ℕ
greatest_burst = 20080128000000

abbrev pub greatest_rate : ℕ
greatest_rate = 196864

-- how great the sums of so many links are at most, and that the line carries something
pub record IsSmall (count : ℕ) (r : Sums) : Type 0 where
  pub some : 1 ≤ r.line
  pub line : r.line ≤ byte_units
  pub burst : r.burst ≤ count * greatest_burst
  pub rate : r.rate ≤ count * greatest_rate
  pub high_burst : r.high_burst ≤ r.burst
  pub high_rate : r.high_rate ≤ r.rate
  pub longest_low : r.longest_low ≤ wire_of greatest_frame

-- one flow more
pub record Adds (f : Flow) (old new : Sums) : Type 0 where
  pub line : new.line ≡ old.line
  pub burst : new.burst ≡ old.burst + cap f.link
  pub rate : new.rate ≡ old.rate + fill_rate f.link
  pub high_burst :
      new.high_burst ≡ old.high_burst + (if is_class High f.priority then cap f.link else 0)
  pub high_rate :
      new.high_rate ≡ old.high_rate + (if is_class High f.priority then fill_rate f.link else 0)
  pub longest_low :
      new.longest_low
      ≡ (if is_class Low f.priority then max old.longest_low f.link.smax else old.longest_low)

-- the rules that bound what a link sends
abbrev pub CanSend : LinkRow → Type 0
CanSend l = (systems : ℕ) × IsLinkUpTo jitter_from_any systems l

-- the jitters of all that stands at the ports, in their order
pub record AreJitters (t : Rows) (jitters : List ℕ) : Type 0 where
  pub count : length jitters ≡ last_port
  pub each : (place : ℕ) → place < length t.systems → slice_index jitters place ≡ jitter_at t place
