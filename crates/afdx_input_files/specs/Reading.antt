-- All that a recording says, from its bytes.
use Rattle.std.specs.Prelude.{ℕ, zero, suc, Bool, true, false, ◌≡◌, ◌+◌, ◌/◌, ◌==◌, ◌||◌, ◌++◌, List, [], length, drop, nat_lt, Option, Some, None, Result, Ok, Err, if◌then◌else◌}
use Rattle.afdx_input_lines.specs.declared.fault.RunFault.{RunFault}
use Rattle.afdx_input_lines.specs.declared.next.Next.{Next}
use Rattle.afdx_input_lines.specs.declared.next.Next.TheVariants as next
use Rattle.afdx_input_lines.specs.declared.next.Progress.{Progress}
use Rattle.afdx_input_lines.specs.declared.next.Progress.TheVariants as progress
use Rattle.afdx_input_lines.specs.declared.fault.RunFault.TheVariants as run
use Rattle.afdx_input_lines.specs.declared.recording_fault.RecordingFault.{RecordingFault}
use Rattle.afdx_input_lines.specs.declared.recording_fault.RecordingFault.TheVariants.{NotRecording, BadVersion, Ended, Packed}
use Rattle.afdx_input_files.specs.declared.order.Order.{Order}
use Rattle.afdx_input_files.specs.declared.order.Order.TheVariants.{LowFirst, HighFirst}
use Rattle.afdx_input_files.specs.declared.form.Form.{Form}
use Rattle.afdx_input_files.specs.declared.form.Form.TheVariants as form
use Rattle.afdx_input_files.specs.declared.form.Magic.{Magic}
use Rattle.afdx_input_files.specs.declared.form.Magic.TheVariants as magic
use Rattle.afdx_input_files.specs.declared.frame_reader.FrameReader.{FrameReader}
use Rattle.afdx_input_files.specs.Orders.{number_in}
use Rattle.afdx_input_files.specs.Holding.{Standing, Gives, GivesSome, lent}
use Rattle.afdx_input_files.specs.Recordings.{State, Step, Meaning, Wrong, Says, Ends, Takes, Ending, Over, Faulted, Recording, Numbered, Totals}
use Rattle.afdx_input_files.specs.Recordings.{no_more, in_front, at_start, totals_by, next_block}
use Rattle.afdx_input_files.specs.Recordings.{state_of_known}
use Rattle.afdx_input_files.specs.Pcapng.{block_head, block_rest, block_meaning}
use Rattle.afdx_input_files.specs.Pcap.{packet_head, pcap_head, captured_by, packet_meaning, pcap_form, is_pcap_version}

-- the first four bytes are those of a packed file: gzip, bzip2, zstd, xz or zip
unfoldable pub is_packed : ℕ → Bool
is_packed number =
    number / 0x10000 == 0x1f8b || number / 0x100 == 0x425a68 || number == 0x28b52ffd
    || number == 0xfd377a58 || number == 0x504b0304

-- what the first four bytes name, the highest first
unfoldable pub magic_of : ℕ → Option Magic
magic_of number =
    if number == 0xa1b2c3d4 then Some (magic.Pcap HighFirst false)
    else if number == 0xd4c3b2a1 then Some (magic.Pcap LowFirst false)
    else if number == 0xa1b23c4d then Some (magic.Pcap HighFirst true)
    else if number == 0x4d3cb2a1 then Some (magic.Pcap LowFirst true)
    else if number == 0x0a0d0d0a then Some magic.Pcapng
    else if is_packed number then Some magic.Packed
    else None

-- how a recording begins: with a fault, or with so many bytes before its first block
pub data Opening : Type 0 where
  Refused : RecordingFault → Opening
  Opens : Form → Order → ℕ → Opening

abbrev pub opening_by : Option Magic → List ℕ → Opening
opening_by None bytes = Refused (NotRecording 0)
opening_by (Some (magic.Pcap order nanoseconds)) bytes =
    if nat_lt (length bytes) pcap_head then Refused (Ended 0)
    else if is_pcap_version order bytes
    then Opens (form.Pcap (pcap_form order nanoseconds bytes)) order pcap_head
    else Refused (BadVersion 0)
-- a pcapng begins with a block
opening_by (Some magic.Pcapng) bytes = Opens form.Pcapng LowFirst 0
opening_by (Some magic.Packed) bytes = Refused Packed

unfoldable pub opening : List ℕ → Opening
opening bytes =
    if nat_lt (length bytes) 4 then Refused (NotRecording 0)
    else opening_by (magic_of (number_in HighFirst 4 bytes)) bytes

-- what stands next, in a recording of this form
abbrev pub step_by : Option Form → State → List ℕ → Step
step_by None state bytes = Ends (Faulted (NotRecording 0))
step_by (Some (form.Pcap pcap)) state bytes =
    next_block packet_head (captured_by state) (packet_meaning pcap state) state.numbers bytes
step_by (Some form.Pcapng) state bytes =
    next_block block_head (block_rest state) (block_meaning state) state.numbers bytes

abbrev pub by_step : (State → List ℕ → Recording) → State → List ℕ → Step → Recording
by_step next state bytes (Ends ending) = no_more ending (totals_by state)
by_step next state bytes (Takes n after None) = next after (drop n bytes)
by_step next state bytes (Takes n after (Some item)) = in_front item (next after (drop n bytes))

-- what at most n blocks say
abbrev pub said_within : ℕ → State → List ℕ → Recording
said_within zero state bytes = no_more Over (totals_by state)
said_within (suc n) state bytes =
    by_step (said_within n) state bytes (step_by state.form state bytes)

-- what all blocks say: no block is without a byte
unfoldable pub blocks_from : State → List ℕ → Recording
blocks_from state bytes = said_within (suc (length bytes)) state bytes

abbrev pub from_opening : Opening → State → List ℕ → Recording
from_opening (Refused fault) state bytes = no_more (Faulted fault) (totals_by state)
from_opening (Opens form order n) state bytes =
    blocks_from (record state { form = Some form; order = order }) (drop n bytes)

abbrev pub recorded_by : Option Form → State → List ℕ → Recording
recorded_by None state bytes = from_opening (opening bytes) state bytes
recorded_by (Some form) state bytes = blocks_from state bytes

-- what the rest of a recording says, by what is known before it
unfoldable pub recorded_from : State → List ℕ → Recording
recorded_from state bytes = recorded_by state.form state bytes

-- what a recording says
abbrev pub recorded : List ℕ → Recording
recorded bytes = recorded_from at_start bytes

-- the state of a reader
abbrev pub state_of : FrameReader → State
state_of reader = state_of_known reader.known

-- what took the last number
abbrev pub latest : FrameReader → Numbered
latest reader = record { what = reader.recorded; bytes = lent reader.held }

-- the ending may be another if more bytes come
abbrev pub is_unfinished : Ending → Bool
is_unfinished Over = true
is_unfinished (Faulted (Ended n)) = true
is_unfinished (Faulted (NotRecording n)) = true
is_unfinished (Faulted _) = false

-- behind the end nothing follows
abbrev pub CanFollow : Standing → List ℕ → Type 0
CanFollow standing more = standing.ended ≡ true → more ≡ []

-- of what was held, what the input gave, and whatever follows, this is said first, and then what is
-- said of what is held now and follows
pub record SaysFirst (old new : Standing) (before after : State) (item : Numbered) : Type 0 where
  pub given : List ℕ
  pub gives : Gives old new given
  pub says : (more : List ℕ) → recorded_from before ((old.held ++ given) ++ more)
      ≡ in_front item (recorded_from after (new.held ++ more))

-- nothing is said that takes a number, but what is held now says the same
pub record SaysSame (old new : Standing) (before after : State) : Type 0 where
  pub given : List ℕ
  pub gives : Gives old new given
  pub says : (more : List ℕ) → recorded_from before ((old.held ++ given) ++ more)
      ≡ recorded_from after (new.held ++ more)

-- nothing more is said, and all ends so, whatever can follow
pub record SaysEnding (old new : Standing) (before : State) (ending : Ending) (totals : Totals)
    : Type 0 where
  pub given : List ℕ
  pub gives : Gives old new given
  pub says : (more : List ℕ) → CanFollow new more
      → recorded_from before ((old.held ++ given) ++ more) ≡ no_more ending totals

-- what was given says nothing yet that takes a number, and no end for sure
pub record SaysNothing (old new : Standing) (before : State) : Type 0 where
  pub given : List ℕ
  pub gives : Gives old new given
  pub ending : Ending
  pub totals : Totals
  pub says : recorded_from before (old.held ++ given) ≡ no_more ending totals
  pub unfinished : is_unfinished ending ≡ true

-- the answer to a call for the next item
abbrev pub Tells : Result Next RunFault → (old new : Standing) → (before after : State)
    → Numbered → Type 0
Tells (Ok next.Given) old new before after item = SaysFirst old new before after item
Tells (Ok next.Ended) old new before after item =
    (new.ended ≡ true) × SaysEnding old new before Over (totals_by after)
Tells (Err (run.Recording fault)) old new before after item =
    (totals : Totals) × SaysEnding old new before (Faulted fault) totals
Tells (Err run.Read) old new before after item = SaysNothing old new before
Tells (Err run.Memory) old new before after item = GivesSome old new
Tells (Err _) old new before after item = ⊥

-- what a block means: it takes a number or none, or it is wrong
abbrev pub Meant : Meaning → Result Progress RunFault → State → Numbered → Type 0
Meant meaning (Ok progress.Given) after item = meaning ≡ Says after (Some item)
Meant meaning (Ok progress.NotYet) after item = meaning ≡ Says after None
Meant meaning (Err (run.Recording fault)) after item = meaning ≡ Wrong fault
Meant meaning (Err run.Memory) after item = Unit {0}
Meant meaning (Err _) after item = ⊥

-- the answer to a call for the next block, which took a number or none
abbrev pub TellsBlock : Result Progress RunFault → (old new : Standing) → (before after : State)
    → Numbered → Type 0
TellsBlock (Ok progress.Given) old new before after item = SaysFirst old new before after item
TellsBlock (Ok progress.NotYet) old new before after item = SaysSame old new before after
TellsBlock (Err fault) old new before after item = Tells (Err fault) old new before after item

-- it counts as a block, and as a number if it took one
abbrev pub CountsBlock : Result Progress RunFault → State → State → Type 0
CountsBlock (Ok progress.Given) before after =
    (after.numbers ≡ before.numbers + 1) × (after.blocks ≡ before.blocks + 1)
CountsBlock (Ok progress.NotYet) before after =
    (after.numbers ≡ before.numbers) × (after.blocks ≡ before.blocks + 1)
CountsBlock (Err fault) before after = after.numbers ≡ before.numbers
