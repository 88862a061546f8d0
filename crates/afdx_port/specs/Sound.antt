-- What is true of every port, and what a step leaves as it was.
use Rattle.std.specs.Prelude.{◌≡◌, ◌+◌, ◌*◌, ◌<◌, ◌≤◌, length, sum_by}
use Rattle.std.specs.List.{AllByRecursion}
use Rattle.afdx_port.specs.Times.{latest_put, longest_slot}
use Rattle.afdx_frame.specs.Lengths.{least_frame, greatest_buffer}
use Rattle.afdx_frame.specs.Regulation.{slowest_byte}
use Rattle.afdx_frame.specs.declared.link.Priority.{Priority}
use Rattle.afdx_frame.specs.declared.link.Priority.TheVariants.{High, Low}
use Rattle.afdx_port.specs.declared.port_state.PortState.{PortState}
use Rattle.afdx_port.specs.Facts.{Facts}

module _ {X : Type 0} where
  -- all else stays, but for the queue of one class, which keeps its room
  abbrev pub ChangesQueue : Priority → PortState X → PortState X → Type 0
  ChangesQueue High old new =
      (new ≡ record old { high = new.high }) × (new.high.capacity ≡ old.high.capacity)
  ChangesQueue Low old new =
      (new ≡ record old { low = new.low }) × (new.low.capacity ≡ old.low.capacity)

  -- a further frame of the class fits into the memory that was reserved
  abbrev pub HasRoom : Priority → PortState X → Type 0
  HasRoom High p = length p.high.items < p.high.capacity
  HasRoom Low p = length p.low.items < p.low.capacity

  -- what is true of every port, whatever the calls
  pub record IsPortSound (facts : X → Facts) (p : PortState X) : Type 0 where
    pub rate : (1 ≤ p.byte_ns) × (p.byte_ns ≤ slowest_byte)
    pub buffer : p.buffer ≤ greatest_buffer
    pub waiting : p.waiting ≡ sum_by (λ w. (facts w.item).bytes) p.high.items
        + sum_by (λ w. (facts w.item).bytes) p.low.items
    pub within : p.waiting ≤ p.buffer
    pub high_room : p.buffer < least_frame * (p.high.capacity + 1)
    pub low_room : p.buffer < least_frame * (p.low.capacity + 1)
    pub high_times : AllByRecursion (λ w. w.time ≤ latest_put) p.high.items
    pub low_times : AllByRecursion (λ w. w.time ≤ latest_put) p.low.items
    -- a slot takes at most 1,230,400 ns
    pub soon : p.free ≤ p.clock + longest_slot
    pub ends : p.free + (length p.high.items + length p.low.items) * longest_slot ≤ 1100000000000000
