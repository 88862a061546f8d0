-- Laws of what recorded frames become.
use Rattle.std.proofs.Common.{◌≡◌, ◌+◌, ◌-◌, ℕ, List, [], ◌∷◌, ◌++◌, length, take, drop, reverse, refl, ap, sym, ◌∙◌, subst}
use Rattle.std.proofs.Common.{Option, Some, Result, Ok, Err, true, false, not, Bool, inl, inr}
use Rattle.std.specs.Int.{w32, to_le_bytes}
use Rattle.std.proofs.lemmas.List.{take-append-drop}
use Rattle.std.proofs.lemmas.Slice.Eq.{bytes_eq-Decides}
use Rattle.std.proofs.lemmas.Bool.{cases_lt}
use Rattle.afdx_frame.specs.Sealing.{is_sealed, sealed, sequence_of}
use Rattle.afdx_frame.specs.Seals.{whole}
use Rattle.afdx_frame.specs.declared.link.Side.TheVariants.{A, B}
use Rattle.afdx_input_lines.specs.Faults.{fault_of_network}
use Rattle.afdx_input_lines.specs.declared.fault.RunFault.{RunFault}
use Rattle.afdx_input_lines.specs.declared.fault.RunFault.TheVariants as run
use Rattle.afdx_frame.proofs.SealingLemmas.{is_sealed-long, is_sealed-short}
use Rattle.afdx_input_lines.specs.declared.recording_fault.RecordingFault.{RecordingFault}
use Rattle.afdx_input_lines.specs.FrameLines.{frame_bytes}
use Rattle.afdx_input_lines.specs.declared.frame_line.FrameKind.TheVariants.{Good, Bad, Raw}
use Rattle.afdx_input_files.specs.declared.recorded.Recorded.{Recorded}
use Rattle.afdx_input_files.specs.declared.recorded.Recorded.TheVariants as recorded
use Rattle.afdx_input_files.specs.declared.recorded.RecordedFrame.{RecordedFrame}
use Rattle.afdx_input_files.specs.Reading as reading
use Rattle.afdx_input_files.specs.Recordings.{Numbered, Ending, Recording, Totals}
use Rattle.afdx_input_sources.specs.Items.{arrivals}
use Rattle.afdx_input_sources.specs.declared.becoming.FoundFrame.{FoundFrame}
use Rattle.afdx_input_sources.specs.declared.entering.Entrance.{Entrance}
use Rattle.afdx_input_sources.specs.declared.becoming.NoArrival.{NoArrival}
use Rattle.afdx_input_sources.specs.declared.becoming.NoArrival.TheVariants as no
use Rattle.afdx_input_sources.specs.declared.skipped.Skipped.TheVariants as why
use Rattle.afdx_input_lines.specs.declared.recording_fault.RecordingFault.TheVariants as fault
use Rattle.afdx_input_sources.specs.declared.number.Number.{Number}
use Rattle.afdx_input_sources.specs.declared.places.TapPoint.{TapPoint}
use Rattle.afdx_input_sources.specs.Becoming.{Options, becomes, frame_becomes, entrance_of, without_own}
use Rattle.afdx_input_sources.specs.Becoming.{seal_by, check, ends_with_sequence, found_with, is_before}
use Rattle.afdx_input_sources.specs.Becoming.{is_from_start, kind_used, kind_with}
use Rattle.afdx_input_sources.specs.Becoming.{line_time, moment_by, or_else, whole_moment, ◌>>=◌, ◌>>◌}
use Rattle.afdx_input_sources.specs.Places.{is_left_out}
use Rattle.afdx_input_sources.specs.Claims.{Ports, Agree}
use Rattle.afdx_input_sources.specs.Laws.{SequencesAgree, ArrivalsHaveTheirBytes, ArrivalsAreInOrder}
use Rattle.afdx_input_sources.specs.Laws.{ArrivalsAreTakenInOrder, ArrivalsOfBothAreInOrder, AreInOrder}
use Rattle.afdx_input_sources.specs.NumberLines.{Lines, arrivals_listed}
use Rattle.afdx_input_sources.specs.Ordering.{forward, handed_on, in_order, ordered, sequence}
use Rattle.afdx_input_sources.specs.Sequences.{Outcome, Numbers, as_read, read_of_items, number_after, number_by}
use Rattle.afdx_input_sources.specs.Sequences.{and_then, with_number}
use Rattle.afdx_input_sources.specs.Taking.{AreCutOff, AreCutOffAtOne, arrivals_in, both_numbers, fault_of, late_of_one, late_of_both}
use Rattle.afdx_input_sources.specs.Taking.{sequence_of_bytes, taken_of_both, taken_of_bytes, timed_of_both}
use Rattle.afdx_input_sources.proofs.HandingLemmas.{AreOrdered, arrivals-in-order, handed-ordered, ordered-behind}
use Rattle.afdx_input_sources.proofs.HandingLemmas.{forward-fits}
use Rattle.afdx_input_sources.proofs.OrderLemmas.{merged-ordered, lines-ordered}

-- ---- ways to know a port that agree

module _ (options : Options) (p q : Ports) (a : Agree p q) where
  same-entrance : (place : Option TapPoint) (bytes : List ℕ)
      → entrance_of options.network place p bytes ≡ entrance_of options.network place q bytes
  unfolding entrance_of
  same-entrance place bytes = rw (a.claims, a.entries bytes) refl

  same-bind : {X Y : Type 0} (r : Result X NoArrival) (f g : X → Result Y NoArrival) → ((x : X) → f x ≡ g x)
      → (r >>= f) ≡ (r >>= g)
  same-bind (Ok x) f g h = h x
  same-bind (Err why) f g h = refl

  -- what a frame becomes, once it is known where it came in
  abbrev behind : Ports → (n : ℕ) → RecordedFrame → List ℕ → (stamp : ℕ) → Entrance → Result FoundFrame NoArrival
  behind ports n frame bytes stamp entrance =
      moment_by (is_from_start options entrance.role) n stamp (line_time ports entrance.entry
      (ends_with_sequence options.fcs frame.check_sequence) bytes)
      >>= (λ moment. check (not (is_before options.origin moment)) (no.Skipped why.BeforeOrigin)
      >> (or_else (kind_with (ends_with_sequence options.fcs frame.check_sequence) frame.found_wrong bytes)
      (no.Faulted (fault.FcsUnclear n)) >>= (λ kind.
      Ok (found_with options.is_second moment entrance (kind_used kind bytes)))))

  same-behind : (n : ℕ) (frame : RecordedFrame) (bytes : List ℕ) (stamp : ℕ) (entrance : Entrance)
      → behind p n frame bytes stamp entrance ≡ behind q n frame bytes stamp entrance
  same-behind n frame bytes stamp entrance = rw (a.byte_times entrance.entry.switch entrance.entry.port) refl

  same-frame : (n : ℕ) (frame : RecordedFrame) (bytes : List ℕ)
      → frame_becomes options p n frame bytes ≡ frame_becomes options q n frame bytes
  unfolding frame_becomes
  same-frame n frame bytes =
      let place = options.place frame.interface in
      ap (λ (r : Result FoundFrame NoArrival). check (not (is_left_out options.leaves_unsaid place))
      (no.Skipped why.LeftOut) >> r)
      (same-bind (whole_moment options.fcs n frame (length bytes))
      (λ stamp. entrance_of options.network place p bytes >>= behind p n frame bytes stamp)
      (λ stamp. entrance_of options.network place q bytes >>= behind q n frame bytes stamp)
      (λ stamp. ap (λ (r : Result Entrance NoArrival). r >>= behind p n frame bytes stamp) (same-entrance place bytes)
      ∙ same-bind (entrance_of options.network place q bytes) (behind p n frame bytes stamp)
      (behind q n frame bytes stamp) (same-behind n frame bytes stamp)))

  same-number : (n : ℕ) (what : Recorded) (bytes : List ℕ)
      → becomes options p n what bytes ≡ becomes options q n what bytes
  same-number n recorded.NoFrame bytes = refl
  same-number n (recorded.Frame frame) bytes = same-frame n frame bytes

  same-after : (past : Numbers) (item : Numbered)
      → number_after options p past item ≡ number_after options q past item
  unfolding number_after
  same-after past item =
      ap (λ (r : Result FoundFrame NoArrival). number_by r)
      (same-number (length past + 1) item.what item.bytes)

  same-next : (f g : Number → Outcome) (past : Numbers) (totals : Totals) (r : Result Number RecordingFault)
      → ((number : Number) → f number ≡ g number) → and_then f past totals r ≡ and_then g past totals r
  same-next f g past totals (Ok number) h = h number
  same-next f g past totals (Err fault) h = refl

  same-items : (ending : Ending) (totals : Totals) (past : Numbers) (items : List Numbered)
      → read_of_items options p ending totals past items ≡ read_of_items options q ending totals past items
  unfolding read_of_items
  same-items ending totals past [] = refl
  same-items ending totals past (item ∷ items) =
      ap (λ (r : Result Number RecordingFault).
      and_then (λ number. read_of_items options p ending totals (with_number past item.bytes number) items)
      past totals r) (same-after past item)
      ∙ same-next
      (λ number. read_of_items options p ending totals (with_number past item.bytes number) items)
      (λ number. read_of_items options q ending totals (with_number past item.bytes number) items) past totals
      (number_after options q past item)
      (λ number. same-items ending totals (with_number past item.bytes number) items)

pub sequences-agree : SequencesAgree
sequences-agree options p q recording a =
    ap (λ (o : Outcome). ordered options.reorder options.place o)
    (same-items options p q a recording.ending recording.totals [] recording.items)

-- ---- the bytes of an arrival

-- what ends with its check sequence is the rest, sealed
resealed : (bytes : List ℕ) → is_sealed bytes ≡ true → sealed (take (length bytes - 4) bytes) ≡ bytes
resealed bytes e = elim (cases_lt (length bytes) 4) [
  | inl short ↦ absurd (cc (is_sealed-short bytes short, e))
  | inr long ↦
      let last : drop (length bytes - 4) bytes ≡ to_le_bytes w32 (sequence_of (take (length bytes - 4) bytes)) =
      (bytes_eq-Decides (drop (length bytes - 4) bytes)
      (to_le_bytes w32 (sequence_of (take (length bytes - 4) bytes)))).0
      (sym (is_sealed-long bytes long) ∙ e) in
      ap (λ (end : List ℕ). take (length bytes - 4) bytes ++ end) (sym last)
      ∙ take-append-drop (length bytes - 4) bytes
]

recorded-bytes : (bytes : List ℕ) (own : Bool) → is_sealed bytes ≡ own
    → whole (seal_by Raw own) (without_own own bytes) ≡ bytes
unfolding whole
recorded-bytes bytes true e = resealed bytes e
recorded-bytes bytes false e = refl

pub have-their-bytes : ArrivalsHaveTheirBytes
unfolding whole frame_bytes
have-their-bytes Raw bytes = recorded-bytes bytes (is_sealed bytes) refl
have-their-bytes Good bytes = refl
have-their-bytes Bad bytes = refl

-- ---- the order of arrivals, and their times

pub taken-in-order : ArrivalsAreTakenInOrder
taken-in-order options ports recording =
    let read = (as_read options ports recording).numbers in
    arrivals-in-order options.reorder (forward options.reorder read).numbers (forward-fits options.reorder read)

sequence-ordered : (options : Options) (ports : Ports) (recording : Recording)
    → AreOrdered (sequence options ports recording).numbers
sequence-ordered options ports recording =
    let all = forward options.reorder (as_read options ports recording).numbers in
    handed-ordered options.reorder all.numbers (forward-fits options.reorder (as_read options ports recording).numbers)

-- those that are known come first
known-ordered : (options : Options) (ports : Ports) (recording : Recording)
    → AreOrdered (sequence options ports recording).known
known-ordered options ports recording =
    let all = forward options.reorder (as_read options ports recording).numbers in
    ordered-behind (take options.reorder (in_order all.numbers)) (handed_on options.reorder all.numbers)
    (sequence-ordered options ports recording)

pub are-in-order : ArrivalsAreInOrder
are-in-order options ports recording =
    lines-ordered late_of_one options.origin (sequence options ports recording).numbers
    (sequence-ordered options ports recording)

pub bytes-in-order : (options : Options) (ports : Ports) (bytes : List ℕ)
    → AreInOrder (arrivals_in (taken_of_bytes options ports bytes))
bytes-in-order options ports bytes = are-in-order options ports (reading.recorded bytes)

-- and where a read failed
pub cut-one-in-order : (options : Options) (ports : Ports) (bytes : List ℕ) (rest : Option (List ℕ)) (lines : Lines)
    → AreCutOff options ports bytes rest lines → AreInOrder (arrivals (arrivals_listed lines))
cut-one-in-order options ports bytes rest lines h =
    subst (λ (all : Lines). AreInOrder (arrivals (arrivals_listed all))) (sym h.2)
    (lines-ordered late_of_one options.origin (sequence_of_bytes options ports h.0).known
    (known-ordered options ports (reading.recorded h.0)))

-- so it is with those of two, whatever fault stands behind each
module _ (of_a of_b : Options) (ports : Ports) (said : Option ℕ) where
  both-ordered : (a b : Numbers) (fault_a fault_b : Option RunFault) → AreOrdered a → AreOrdered b
      → AreInOrder (arrivals (arrivals_listed (timed_of_both said (record { next = reverse a; fault = fault_a })
      (record { next = reverse b; fault = fault_b })).lines))
  both-ordered a b fault_a fault_b h k =
      lines-ordered late_of_both said (both_numbers (record { next = reverse a; fault = fault_a })
      (record { next = reverse b; fault = fault_b })).items (merged-ordered a b fault_a fault_b h k)

  pub both-in-order : (a b : Recording)
      → AreInOrder (arrivals_in (taken_of_both said (sequence of_a ports a) (sequence of_b ports b)))
  both-in-order a b =
      both-ordered (sequence of_a ports a).numbers (sequence of_b ports b).numbers
      (fault_of (fault_of_network A) (sequence of_a ports a).ending)
      (fault_of (fault_of_network B) (sequence of_b ports b).ending)
      (sequence-ordered of_a ports a) (sequence-ordered of_b ports b)

  -- and where a read of one failed
  pub cut-in-order : (failed_a failed_b : Bool) (bytes_a bytes_b : List ℕ)
      (rest_a rest_b : Option (List ℕ)) (lines : Lines)
      → AreCutOffAtOne said (sequence_of_bytes of_a ports) (sequence_of_bytes of_b ports) failed_a failed_b
      bytes_a bytes_b rest_a rest_b lines → AreInOrder (arrivals (arrivals_listed lines))
  cut-in-order failed_a failed_b bytes_a bytes_b rest_a rest_b lines (inl h) =
      subst (λ (all : Lines). AreInOrder (arrivals (arrivals_listed all))) (sym h.1.2)
      (both-ordered (sequence_of_bytes of_a ports h.1.0).known (sequence_of_bytes of_b ports bytes_b).numbers
      (Some run.Read) (fault_of (fault_of_network B) (sequence_of_bytes of_b ports bytes_b).ending)
      (known-ordered of_a ports (reading.recorded h.1.0)) (sequence-ordered of_b ports (reading.recorded bytes_b)))
  cut-in-order failed_a failed_b bytes_a bytes_b rest_a rest_b lines (inr h) =
      subst (λ (all : Lines). AreInOrder (arrivals (arrivals_listed all))) (sym h.1.2)
      (both-ordered (sequence_of_bytes of_a ports bytes_a).numbers (sequence_of_bytes of_b ports h.1.0).known
      (fault_of (fault_of_network A) (sequence_of_bytes of_a ports bytes_a).ending) (Some run.Read)
      (sequence-ordered of_a ports (reading.recorded bytes_a)) (known-ordered of_b ports (reading.recorded h.1.0)))

pub both-are-in-order : ArrivalsOfBothAreInOrder
both-are-in-order of_a of_b ports a b = both-in-order of_a of_b ports of_a.origin a b
