-- What a port, which keeps only the frames that still have a turn to come, has to do with all that
-- was put and taken.
use Rattle.std.specs.Prelude.{◌≡◌, ℕ, ◌+◌, ◌<◌, ◌≤◌, List, [], ◌∷◌, ◌++◌, Option, Some, None, slice_get}
use Rattle.std.specs.List.{AllByRecursion}
use Rattle.afdx_frame.specs.declared.link.Priority.{Priority}
use Rattle.afdx_frame.specs.declared.link.Priority.TheVariants.{High, Low}
use Rattle.afdx_port.specs.declared.left.Left.{Left}
use Rattle.afdx_port.specs.declared.left.Due.{Due}
use Rattle.afdx_port.specs.declared.port_state.Waiting.{Waiting}
use Rattle.afdx_port.specs.declared.port_state.PortState.{PortState}
use Rattle.afdx_port.specs.Facts.{Facts}
use Rattle.afdx_port.specs.Schedule.{Entry, Turn, end_of, IsWithoutTurn, IsNext, AreTurns, bytes_without_turn}
use Rattle.afdx_port.specs.ScheduleOf.{AreInOrder}
use Rattle.afdx_port.specs.Due.{IsBy}

-- the calls of a port so far: its line and its buffer, the frames that were put and not lost,
-- the turns of the frames that were taken, the latest first, and the last time used
pub record PortHistory (X : Type 0) : Type 0 where
  pub byte_ns : ℕ
  pub buffer : ℕ
  pub entries : List (Entry X)
  pub taken : List (Turn X)
  pub time : ℕ

module _ {X : Type 0} where
  -- a new port's
  abbrev pub no_calls : ℕ → ℕ → PortHistory X
  no_calls byte_ns buffer =
      record { byte_ns = byte_ns; buffer = buffer; entries = []; taken = []; time = 0 }

  -- after a call that puts or takes no frame
  abbrev pub at : PortHistory X → ℕ → PortHistory X
  at h t = record h { time = t }

  -- after a put
  abbrev pub with_put : PortHistory X → Entry X → PortHistory X
  with_put h e = record {
    byte_ns = h.byte_ns;
    buffer = h.buffer;
    entries = h.entries ++ e ∷ [];
    taken = h.taken;
    time = e.time;
  }

  -- after a take
  abbrev pub with_take : PortHistory X → Turn X → ℕ → PortHistory X
  with_take h s until = record {
    byte_ns = h.byte_ns;
    buffer = h.buffer;
    entries = h.entries;
    taken = s ∷ h.taken;
    time = until;
  }

  -- the entry of a frame that is put
  abbrev pub entry_of : (X → Facts) → ℕ → Priority → X → Entry X
  entry_of facts time priority x = record {
    time = time;
    priority = priority;
    bytes = (facts x).bytes;
    longest_wait = (facts x).longest_wait;
    item = x;
  }

  -- what a turn hands out
  abbrev pub left_of : Turn X → Left X
  left_of s =
      record { item = s.entry.item; priority = s.entry.priority; end = s.end; too_old = s.too_old }

  abbrev pub due_at : Turn X → Due
  due_at s = record { time = s.end; too_old = s.too_old }

  -- the entry of a frame that waits
  abbrev pub waiting_entry : (X → Facts) → Priority → Waiting X → Entry X
  waiting_entry facts priority w = entry_of facts w.time priority w.item

  -- the first entry of a class without a turn, from a place on
  pub record IsFirst (entries : List (Entry X)) (turns : List (Turn X)) (priority : Priority)
      (from place : ℕ) (e : Entry X) : Type 0 where
    pub from_on : from ≤ place
    pub own : IsWithoutTurn entries turns place e
    pub first : (q : ℕ) (d : Entry X) →
        from ≤ q →
        IsWithoutTurn entries turns q d →
        d.priority ≡ priority →
        place ≤ q

  -- these frames are, in order, the entries of a class without a turn, from a place on
  abbrev pub IsQueue : (X → Facts) → List (Entry X) → List (Turn X) → Priority → ℕ →
      List (Waiting X) → Type 0
  IsQueue facts entries turns priority from [] =
      (q : ℕ) (d : Entry X) → from ≤ q → IsWithoutTurn entries turns q d → d.priority ≡ priority → ⊥
  IsQueue facts entries turns priority from (w ∷ ws) =
      (place : ℕ) × IsFirst entries turns priority from place (waiting_entry facts priority w)
      × IsQueue facts entries turns priority (place + 1) ws

  -- the turns that have begun are those that were taken, and that of the frame that is being sent
  abbrev pub HasBegun : Option (Left X) → List (Turn X) → List (Turn X) → Type 0
  HasBegun None taken begun = begun ≡ taken
  HasBegun (Some left) taken begun = (s : Turn X) × (begun ≡ s ∷ taken) × (left ≡ left_of s)

  -- what the port holds is what these calls leave
  pub record StandsFor (facts : X → Facts) (p : PortState X) (h : PortHistory X) : Type 0 where
    pub byte_ns : p.byte_ns ≡ h.byte_ns
    pub buffer : p.buffer ≡ h.buffer
    pub clock : p.clock ≡ h.time
    pub begun : List (Turn X)
    pub has_begun : HasBegun p.sending h.taken begun
    pub are_turns : AreTurns h.byte_ns h.entries begun
    pub started : AllByRecursion (λ s. s.moment < h.time) begun
    pub free : p.free ≡ end_of begun
    pub high : IsQueue facts h.entries begun High 0 p.high.items
    pub low : IsQueue facts h.entries begun Low 0 p.low.items
    pub waiting : p.waiting ≡ bytes_without_turn begun 0 h.entries
    pub in_order : AreInOrder h.entries
    pub come : (i : ℕ) (e : Entry X) → slice_get h.entries i ≡ Some e → e.time ≤ h.time

  -- the next turn is given by `until`, and its frame is handed out
  pub record Gives (facts : X → Facts) (h : PortHistory X) (until : ℕ) (left : Left X)
      (new : PortState X) : Type 0 where
    pub turn : Turn X
    pub next : IsNext h.byte_ns h.entries h.taken turn
    pub in_time : IsBy until (due_at turn)
    pub is : left ≡ left_of turn
    pub stands : StandsFor facts new (with_take h turn until)
