-- The schedule of a list of entries, by recursion.
use Rattle.std.specs.Prelude.{ℕ, ◌+◌, ◌*◌, ◌≤◌, ◌≡◌, suc, zero, max, nat_lt, Bool, if◌then◌else◌, List, [], ◌∷◌, length, Option, Some, None, slice_get}
use Rattle.afdx_frame.specs.declared.link.Priority.{Priority}
use Rattle.afdx_frame.specs.declared.link.Priority.TheVariants.{High, Low}
use Rattle.afdx_port.specs.Schedule.{Entry, Turn, has_turn, end_of, is_past, lasting}

abbrev pub class_of : Priority → ℕ
class_of High = 0
class_of Low = 1

module _ {X : Type 0} where
  -- entries are chosen by the moment at which they can have their turn, high ones first
  abbrev pub rank : ℕ → Entry X → ℕ
  rank free e = 2 * max e.time free + class_of e.priority

  -- of two entries in the order of the list, the one that goes first
  abbrev pub first_of : ℕ → ℕ × Entry X → Option (ℕ × Entry X) → Option (ℕ × Entry X)
  first_of free p None = Some p
  first_of free p (Some q) = if nat_lt (rank free q.1) (rank free p.1) then Some q else Some p

  -- of those entries that have none of these turns, the one that goes first, with its place. The
  -- first entry stands at this place
  abbrev pub first_without : ℕ → List (Turn X) → ℕ → List (Entry X) → Option (ℕ × Entry X)
  first_without free turns place [] = None
  first_without free turns place (e ∷ es) =
      if has_turn turns place then first_without free turns (place + 1) es
      else first_of free (place, e) (first_without free turns (place + 1) es)

  -- at t the entry is too old
  abbrev pub is_old_at : ℕ → Entry X → Bool
  is_old_at t e = is_past e.longest_wait e.time t

  -- the turn of an entry at a moment
  abbrev pub turn_at : ℕ → ℕ → Entry X → ℕ → Turn X
  turn_at byte_ns place e t = record {
    place = place;
    entry = e;
    moment = t;
    end = t + lasting byte_ns (is_old_at t e) e.bytes;
    too_old = is_old_at t e;
  }

  abbrev pub with_turn_of : ℕ → List (Turn X) → Option (ℕ × Entry X) → List (Turn X)
  with_turn_of byte_ns turns None = turns
  with_turn_of byte_ns turns (Some (place, e)) =
      turn_at byte_ns place e (max e.time (end_of turns)) ∷ turns

  -- the first n turns
  abbrev pub first_turns : ℕ → List (Entry X) → ℕ → List (Turn X)
  first_turns byte_ns entries zero = []
  first_turns byte_ns entries (suc n) =
      let turns = first_turns byte_ns entries n in
      with_turn_of byte_ns turns (first_without (end_of turns) turns 0 entries)

  abbrev pub schedule_of : ℕ → List (Entry X) → List (Turn X)
  schedule_of byte_ns entries = first_turns byte_ns entries (length entries)

  -- the entries come in the order of the list
  abbrev pub AreInOrder : List (Entry X) → Type 0
  AreInOrder entries = (i j : ℕ) (d e : Entry X) → i ≤ j → slice_get entries i ≡ Some d →
      slice_get entries j ≡ Some e → d.time ≤ e.time
