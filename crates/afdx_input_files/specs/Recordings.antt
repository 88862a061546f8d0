-- What a recording says: its numbers one by one, and how it ends.
use Rattle.std.specs.Prelude.{ℕ, ◌+◌, ◌-◌, ◌^◌, ◌==◌, min, max, List, [], ◌∷◌, length, take, nat_lt, Option, Some, None, if◌then◌else◌}
use Rattle.afdx_input_lines.specs.declared.recording_fault.RecordingFault.{RecordingFault}
use Rattle.afdx_input_lines.specs.declared.recording_fault.RecordingFault.TheVariants.{Damaged, Ended}
pub use Rattle.afdx_input_files.specs.Limits.{most_numbers}
use Rattle.afdx_input_files.specs.declared.recorded.Recorded.{Recorded}
use Rattle.afdx_input_files.specs.declared.interface.Interface.{Interface}
use Rattle.afdx_input_files.specs.declared.form.Form.{Form}
use Rattle.afdx_input_files.specs.declared.form.Form.TheVariants as form
use Rattle.afdx_input_files.specs.declared.known.Known.{Known}
use Rattle.afdx_input_files.specs.declared.order.Order.{Order}
use Rattle.afdx_input_files.specs.declared.order.Order.TheVariants.{LowFirst}

-- what takes a number, and its captured bytes: none where it is no frame
pub record Numbered : Type 0 where
  pub what : Recorded
  pub bytes : List ℕ

-- how a recording ends: well, or with a fault
pub data Ending : Type 0 where
  Over : Ending
  Faulted : RecordingFault → Ending

-- what all blocks come to: frames that the recorder lost, and the most interfaces of a section
pub record Totals : Type 0 where
  pub lost : ℕ
  pub interfaces : ℕ

-- all that a recording says; by its end it comes to this
pub record Recording : Type 0 where
  pub items : List Numbered
  pub ending : Ending
  pub totals : Totals

-- nothing more: it ends so
abbrev pub no_more : Ending → Totals → Recording
no_more ending totals = record { items = []; ending = ending; totals = totals }

-- this item first
abbrev pub in_front : Numbered → Recording → Recording
in_front item recording = record {
  items = item ∷ recording.items;
  ending = recording.ending;
  totals = recording.totals;
}

-- the most bytes that are captured of a frame
abbrev pub longest_capture : ℕ
longest_capture = 262144

-- what is known before a block: the form; the order of bytes and the interfaces of the section; of
-- the sections before, how many frames were lost, and the most interfaces of one; how many numbers
-- and blocks there were
pub record State : Type 0 where
  pub form : Option Form
  pub order : Order
  pub interfaces : List Interface
  pub lost : ℕ
  pub most : ℕ
  pub numbers : ℕ
  pub blocks : ℕ

-- as the program keeps it
abbrev pub state_of_known : Known → State
state_of_known known = record {
  form = known.form;
  order = known.order;
  interfaces = known.interfaces.items;
  lost = known.lost_before;
  most = known.most_before;
  numbers = known.numbers;
  blocks = known.blocks;
}

-- before the first byte
abbrev pub at_start : State
at_start = record {
  form = None;
  order = LowFirst;
  interfaces = [];
  lost = 0;
  most = 0;
  numbers = 0;
  blocks = 0;
}

-- a sum of counts, which stops at the greatest u64
abbrev pub plus_lost : ℕ → ℕ → ℕ
plus_lost a b = min (a + b) (2 ^ 64 - 1)

-- what the recorder lost at these interfaces, and before
abbrev pub lost_at : ℕ → List Interface → ℕ
lost_at before [] = before
lost_at before (first ∷ rest) =
    lost_at (plus_lost (plus_lost before first.interface_lost) first.system_lost) rest

unfoldable pub lost_by : State → ℕ
lost_by state = lost_at state.lost state.interfaces

-- the most interfaces of a section: of this one, or of those before
unfoldable pub most_by : State → ℕ
most_by state = max state.most (length state.interfaces)

-- how many interfaces there are; a pcap has one
abbrev pub interfaces_in : Option Form → ℕ → ℕ
interfaces_in (Some (form.Pcap pcap)) most = 1
interfaces_in _ most = most

abbrev pub totals_by : State → Totals
totals_by state = record {
  lost = lost_by state;
  interfaces = interfaces_in state.form (most_by state);
}

-- one block more, which takes no number, or one
abbrev pub after_block : State → State
after_block state = record state { blocks = state.blocks + 1 }

abbrev pub after_number : State → State
after_number state = record state { numbers = state.numbers + 1; blocks = state.blocks + 1 }

-- what a block means: a fault; or what is known behind it, and what takes a number
pub data Meaning : Type 0 where
  Wrong : RecordingFault → Meaning
  Says : State → Option Numbered → Meaning

-- what stands next: an end, or a block of so many bytes
pub data Step : Type 0 where
  Ends : Ending → Step
  Takes : ℕ → State → Option Numbered → Step

abbrev pub by_meaning : ℕ → Meaning → Step
by_meaning n (Wrong fault) = Ends (Faulted fault)
by_meaning n (Says state item) = Takes n state item

-- the first n bytes say this; with fewer the recording ended behind k numbers
abbrev pub with_first : ℕ → List ℕ → ℕ → (List ℕ → Step) → Step
with_first n bytes k says =
    if nat_lt (length bytes) n then Ends (Faulted (Ended k)) else says (take n bytes)

-- a head of n bytes that so many follow, or that can't be right; then the whole has a meaning
abbrev pub by_length : ℕ → Option ℕ → (List ℕ → Meaning) → ℕ → List ℕ → Step
by_length n None meaning k bytes = Ends (Faulted (Damaged k))
by_length n (Some more) meaning k bytes =
    with_first (n + more) bytes k (λ whole. by_meaning (n + more) (meaning whole))

-- what stands next: nothing, or a head of n bytes which tells how many follow it, and then those
unfoldable pub next_block : (head : ℕ) → (following : List ℕ → Option ℕ) →
    (meaning : List ℕ → Meaning) → (numbers : ℕ) → List ℕ → Step
next_block n following meaning k bytes =
    if length bytes == 0 then Ends Over
    else with_first n bytes k (λ head. by_length n (following head) meaning k bytes)
