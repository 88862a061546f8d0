-- What a port holds, and what comes of it next.
use Rattle.std.specs.Prelude.{◌≡◌, ℕ, ◌+◌, ◌⊎◌, max, nat_lt, if◌then◌else◌, Bool, List, [], ◌∷◌, length, Option, Some, None, IfSome, option_map, slice_get}
use Rattle.afdx_frame.specs.declared.link.Priority.{Priority}
use Rattle.afdx_frame.specs.declared.link.Priority.TheVariants.{High, Low}
use Rattle.afdx_port.specs.declared.left.Left.{Left}
use Rattle.afdx_port.specs.declared.left.Due.{Due}
use Rattle.afdx_port.specs.declared.port_state.Waiting.{Waiting}
use Rattle.afdx_port.specs.declared.port_state.PortState.{PortState}
use Rattle.afdx_port.specs.Facts.{Facts}
use Rattle.afdx_port.specs.Due.{IsAfter}
use Rattle.afdx_port.specs.Schedule.{is_past, lasting}

-- the time of one byte on a line of 1000, 100 or 10 Mbit/s, in ns
abbrev pub IsByteTime : ℕ → Type 0
IsByteTime byte_ns = (byte_ns ≡ 8) ⊎ ((byte_ns ≡ 80) ⊎ (byte_ns ≡ 800))

-- the class that goes next, and its moment, from the moments at which the first frame of each class
-- could go
abbrev pub choice : Option ℕ → Option ℕ → Option (Priority × ℕ)
choice None None = None
choice None (Some low) = Some (Low, low)
choice (Some high) None = Some (High, high)
choice (Some high) (Some low) = if nat_lt low high then Some (Low, low) else Some (High, high)

module _ {X : Type 0} where
  -- when the first frame of a queue could go
  abbrev pub ready : ℕ → List (Waiting X) → Option ℕ
  ready free [] = None
  ready free (w ∷ ws) = Some (max w.time free)

  -- the frames of a class that wait, in order
  abbrev pub queue_of : Priority → PortState X → List (Waiting X)
  queue_of High p = p.high.items
  queue_of Low p = p.low.items

  -- the class that goes next, if a frame waits, and its moment
  abbrev pub choice_of : PortState X → Option (Priority × ℕ)
  choice_of p = choice (ready p.free p.high.items) (ready p.free p.low.items)

  -- at t the frame has waited too long
  abbrev pub is_too_old : (X → Facts) → Waiting X → ℕ → Bool
  is_too_old facts w t = is_past (facts w.item).longest_wait w.time t

  -- the turn of a frame at t
  abbrev pub due_from : (X → Facts) → ℕ → Waiting X → ℕ → Due
  due_from facts byte_ns w t = record {
    time = t + lasting byte_ns (is_too_old facts w t) (facts w.item).bytes;
    too_old = is_too_old facts w t;
  }

  -- the turn of the first frame of the class that goes next
  abbrev pub due_next : (X → Facts) → PortState X → Option (Priority × ℕ) → Option Due
  due_next facts p None = None
  due_next facts p (Some (priority, moment)) =
      option_map (λ w. due_from facts p.byte_ns w moment) (slice_get (queue_of priority p) 0)

  -- the turn that has begun, or else the next one
  abbrev pub due_first : ℕ → Option (Left X) → Option Due → Option Due
  due_first free None next = next
  due_first free (Some left) next = Some (record { time = free; too_old = left.too_old })

  -- the turn that is given next, if no frame is put before
  abbrev pub due_of : (X → Facts) → PortState X → Option Due
  due_of facts p = due_first p.free p.sending (due_next facts p (choice_of p))

  -- where no turn has begun, the frame that goes next is of this class, if one waits
  abbrev pub IsNextClass : Priority → PortState X → Type 0
  IsNextClass class p = (c : Priority) (moment : ℕ) →
      p.sending ≡ None → choice_of p ≡ Some (c, moment) → class ≡ c

  -- no further turn is given by t
  abbrev pub IsQuiet : (X → Facts) → PortState X → ℕ → Type 0
  IsQuiet facts p t = IfSome (due_of facts p) (λ d. IsAfter t d)

  -- the last time used
  abbrev pub last_time : PortState X → ℕ
  last_time p = p.clock

  abbrev pub sending_count : Option (Left X) → ℕ
  sending_count None = 0
  sending_count (Some left) = 1

  -- how many frames the port holds, that of a turn that has begun among them
  abbrev pub frames_held : PortState X → ℕ
  frames_held p = length p.high.items + length p.low.items + sending_count p.sending
