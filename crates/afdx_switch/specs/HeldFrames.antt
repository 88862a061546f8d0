-- What the output ports of a switch hold of a frame.
use Rattle.std.specs.Prelude.{ℕ, max, min, Option, option_map, List, length}
use Rattle.afdx_frame.specs.Lengths.{least_frame, greatest_frame}
use Rattle.afdx_frame.specs.Sealing.{sealed}
use Rattle.afdx_port.specs.Facts.{Facts}
use Rattle.afdx_port.specs.Times.{greatest_wait}
use Rattle.afdx_switch.specs.declared.frame.Stored.{Stored}

-- the caller's tag, how long it may wait for its turn in ns if there is a limit, and all bytes
pub record HeldFrame : Type 0 where
  pub tag : ℕ
  pub longest_wait : Option ℕ
  pub bytes : List ℕ

-- in this order
abbrev pub held_frame : ℕ → Option ℕ → List ℕ → HeldFrame
held_frame tag longest_wait bytes =
    record { tag = tag; longest_wait = longest_wait; bytes = bytes }

-- what is held of a frame's one copy, which has its message alone
abbrev pub stored_frame : Stored → HeldFrame
stored_frame s = held_frame s.tag s.longest_wait (sealed s.message.items)

-- what a port knows of it. A frame that is accepted is neither too short nor too long, and its
-- limit, if there is one, is at most 100 ms
abbrev pub facts : HeldFrame → Facts
facts c = record {
  bytes = max least_frame (min greatest_frame (length c.bytes));
  longest_wait = option_map (λ wait. min greatest_wait wait) c.longest_wait;
}
