-- How much may come to a port in any interval of time, and how much work is left there at a moment.
use Rattle.std.specs.Prelude.{ℕ, ◌+◌, ◌*◌, ◌-◌, ◌≤◌, Bool, ◌&&◌, nat_le, if◌then◌else◌, List, []}
use Rattle.std.specs.Prelude.{◌∷◌}
use Rattle.afdx_frame.specs.declared.link.Priority.{Priority}
use Rattle.afdx_frame.specs.declared.link.Priority.TheVariants.{High, Low}
use Rattle.afdx_frame.specs.Regulation.{byte_units, wire_of}
use Rattle.afdx_frame.specs.Flows.{is_class}
use Rattle.afdx_port.specs.Schedule.{Entry, Turn, has_turn, end_of, begun_before}

-- a burst in units of which `byte_units` are a byte, and a rate in such units a nanosecond
pub record Curve : Type 0 where
  pub burst : ℕ
  pub rate : ℕ

module _ {X : Type 0} where
  -- the bytes of an entry on the wire
  abbrev pub wire : Entry X → ℕ
  wire e = wire_of e.bytes

  -- the entry is of this class and comes from `since` to `until`
  abbrev pub comes_between : Priority → ℕ → ℕ → Entry X → Bool
  comes_between class since until e =
      is_class class e.priority && (nat_le since e.time && nat_le e.time until)

  -- its wire bytes, if it is
  abbrev pub wire_in : Priority → ℕ → ℕ → Entry X → ℕ
  wire_in class since until e = if comes_between class since until e then wire e else 0

  -- the wire bytes of the entries of a class that come from `since` to `until`
  abbrev pub wire_between : Priority → ℕ → ℕ → List (Entry X) → ℕ
  wire_between class since until [] = 0
  wire_between class since until (e ∷ es) =
      wire_in class since until e + wire_between class since until es

  -- in no interval does more of the class come than the burst, and the rate for as long as the
  -- interval lasts
  abbrev pub KeepsCurve : Priority → Curve → List (Entry X) → Type 0
  KeepsCurve class curve entries = (since until : ℕ) → since ≤ until →
      byte_units * wire_between class since until entries
      ≤ curve.burst + curve.rate * (until - since)

  -- what the entries weigh that have none of these turns. The first entry stands at this place
  abbrev pub left_over : (Entry X → ℕ) → List (Turn X) → ℕ → List (Entry X) → ℕ
  left_over weight turns place [] = 0
  left_over weight turns place (e ∷ es) =
      (if has_turn turns place then 0 else weight e)
      + left_over weight turns (place + 1) es

  -- what the entries weigh that wait at t
  abbrev pub waiting : (Entry X → ℕ) → List (Entry X) → List (Turn X) → ℕ → ℕ
  waiting weight entries turns t = left_over weight (begun_before t turns) 0 entries

  -- the rest of the slot that has begun before t, in ns
  abbrev pub slot_left : List (Turn X) → ℕ → ℕ
  slot_left turns t = end_of (begun_before t turns) - t

  -- the work left at t, in ns: the frames that wait, and the rest of the slot that has begun
  abbrev pub work_left : ℕ → List (Entry X) → List (Turn X) → ℕ → ℕ
  work_left byte_ns entries turns t = byte_ns * waiting wire entries turns t + slot_left turns t

  -- the work left at t that goes before a high frame: the high frames that wait, and the rest of
  -- the slot that has begun
  abbrev pub high_work_left : ℕ → List (Entry X) → List (Turn X) → ℕ → ℕ
  high_work_left byte_ns entries turns t =
      byte_ns * waiting (wire_in High 0 t) entries turns t + slot_left turns t

  -- the work left at t that goes before a low frame that came at `came`, with those that came with
  -- it
  abbrev pub low_work_left : ℕ → List (Entry X) → List (Turn X) → ℕ → ℕ → ℕ
  low_work_left byte_ns entries turns came t = byte_ns * waiting
      (wire_in Low 0 came) entries turns t + high_work_left byte_ns entries turns t
