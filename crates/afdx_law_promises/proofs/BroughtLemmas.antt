-- What the slots of a port bring to its system on one side: the copies of a link's stream.
use Rattle.std.proofs.Common.{◌≡◌, ℕ, suc, ◌+◌, ◌≤◌, true, false, List, [], ◌∷◌, length, map, filter}
use Rattle.std.proofs.Common.{refl, sym, ap, ◌∙◌, subst, arith, inl, inr}
use Rattle.std.specs.Prelude.{Ok, Some, slice_get, ◌⊎◌}
use Rattle.afdx_frame.specs.Parts.{FrameParts, frame_of}
use Rattle.afdx_frame.specs.declared.link.Side.{Side}
use Rattle.afdx_config.specs.LawfulStream.{Sending, copy_on}
use Rattle.afdx_police.specs.Arrival.{Arrival}
use Rattle.afdx_police.proofs.FrameLemmas.{IsFrameOn}
use Rattle.afdx_port.specs.Schedule.{Turn}
use Rattle.afdx_receive.specs.Arrivals.{frames_of}
use Rattle.afdx_receive.specs.Integrity.{Incoming}
use Rattle.afdx_switch.specs.Admitted.{slots}
use Rattle.afdx_switch.specs.HeldFrames.{HeldFrame}
use Rattle.afdx_switch.specs.Laws.{is_of}
use Rattle.afdx_switch.specs.Streams.{AreFirstOf}
use Rattle.afdx_switch.proofs.ListLemmas.{bool_cases}
use Rattle.afdx_law_promises.specs.Receptions.{brought}
use Rattle.afdx_law_promises.proofs.ReceiverLemmas.{own-slot, other-slot}

-- ---- copies

-- a frame is a copy of the sending at a place
pub record IsCopy (latency : ℕ) (stream : List Sending) (place : ℕ) (frame : Incoming) : Type 0 where
  pub sending : Sending
  pub at_place : slice_get stream place ≡ Some sending
  pub bytes : frame.bytes ≡ copy_on frame.side sending
  pub parts : FrameParts
  pub is_frame : frame_of frame.bytes ≡ Ok parts
  pub number : frame.number ≡ parts.number
  pub sent_before : sending.time ≤ frame.time
  pub in_time : frame.time ≤ sending.time + latency

abbrev pub AreCopiesOn : ℕ → List Sending → List Incoming → Type 0
AreCopiesOn latency stream [] = Unit {0}
AreCopiesOn latency stream (frame ∷ before) = IsCopy latency stream (length before) frame
    × AreCopiesOn latency stream before

-- as many copies as arrivals
pub record Copies (latency : ℕ) (stream : List Sending) (count : ℕ) (frames : List Incoming) : Type 0 where
  pub counted : length frames ≡ count
  pub are : AreCopiesOn latency stream frames

-- ---- slots

-- a slot ends with the frame of an arrival, byte for byte, after it came, at most so many ns later
pub record IsLater (latency : ℕ) (x : Arrival) (s : Turn HeldFrame) : Type 0 where
  pub bytes : s.entry.item.bytes ≡ x.bytes
  pub after : x.time ≤ s.end
  pub within : s.end ≤ x.time + latency

abbrev pub AreLater : ℕ → List Arrival → List (Turn HeldFrame) → Type 0
AreLater latency [] [] = Unit {0}
AreLater latency [] (s ∷ ss) = ⊥
AreLater latency (x ∷ xs) [] = ⊥
AreLater latency (x ∷ xs) (s ∷ ss) = IsLater latency x s × AreLater latency xs ss

-- the slots among turns that are of a link
abbrev pub slots_of : ℕ → List (Turn HeldFrame) → List (Turn HeldFrame)
slots_of vl turns = filter (λ s. is_of vl s.entry) (slots turns)

module _ (vl latency : ℕ) (side : Side) (stream : List Sending)
    (frames : (k : ℕ) (y : Sending) → slice_get stream k ≡ Some y → IsFrameOn vl (copy_on side y)) where
  -- slots that are later than a stream's first frames bring copies of these
  pub copies-by-slots : (ss : List (Turn HeldFrame)) (xs : List Arrival) → AreFirstOf side stream xs
      → AreLater latency xs (filter (λ s. is_of vl s.entry) ss)
      → Copies latency stream (length xs) (frames_of vl (map (brought side) ss))
  unfolding frames_of
  copies-by-slots [] [] are later = record { counted = refl; are = tt }
  copies-by-slots [] (x ∷ xs) are later = absurd later
  copies-by-slots (s ∷ ss) xs are later =
      by (bool_cases (is_of vl s.entry)) xs are later (λ ys each rest. copies-by-slots ss ys each rest)
    where
      by : (is_of vl s.entry ≡ true) ⊎ (is_of vl s.entry ≡ false) → (xs : List Arrival)
          → AreFirstOf side stream xs → AreLater latency xs (filter (λ z. is_of vl z.entry) (s ∷ ss))
          → ((ys : List Arrival) → AreFirstOf side stream ys
          → AreLater latency ys (filter (λ z. is_of vl z.entry) ss)
          → Copies latency stream (length ys) (frames_of vl (map (brought side) ss)))
          → Copies latency stream (length xs) (frames_of vl (map (brought side) (s ∷ ss)))
      by (inr other) ys each later rest =
          subst (Copies latency stream (length ys)) (sym (other-slot vl side s ss other))
          (rest ys each (rw other at later))
      by (inl own) [] each later rest = absurd (let none : ⊥ = rw own at later in none)
      by (inl own) (y ∷ ys) each later rest =
          let both : IsLater latency y s × AreLater latency ys (filter (λ z. is_of vl z.entry) ss) = rw own at later in
          let bytes : s.entry.item.bytes ≡ copy_on side each.0.sending = both.0.bytes ∙ each.0.bytes in
          let is : IsFrameOn vl s.entry.item.bytes =
          subst (IsFrameOn vl) (sym bytes) (frames (length ys) each.0.sending each.0.at_place) in
          let so_far = rest ys each.1 both.1 in
          let time = each.0.time in
          subst (Copies latency stream (suc (length ys))) (sym (own-slot vl side s ss is)) (record {
            counted = ap suc so_far.counted;
            are = (
              record {
                sending = each.0.sending;
                at_place = ap (slice_get stream) so_far.counted ∙ each.0.at_place;
                bytes = bytes;
                parts = is.parts;
                is_frame = is.is_frame;
                number = refl;
                sent_before = (let after = both.0.after in omega (arith, time, after));
                in_time = (let within = both.0.within in omega (arith, time, within));
              },
              so_far.are,
            );
          })
