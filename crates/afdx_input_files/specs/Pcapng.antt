-- A pcapng: blocks, each of which tells its type and its length, this at both ends.
use Rattle.std.specs.Prelude.{ℕ, Bool, ◌≡◌, ◌≤◌, ◌+◌, ◌-◌, ◌==◌, ◌&&◌, ◌||◌, List, [], ◌∷◌, ◌++◌, length, take, drop, nat_lt, slice_get, slice_set, Option, Some, None, option_map, Result, Ok, Err, if◌then◌else◌}
use Rattle.afdx_input_lines.specs.declared.fault.RunFault.{RunFault}
use Rattle.afdx_input_lines.specs.declared.fault.RunFault.TheVariants as run
use Rattle.afdx_input_lines.specs.declared.recording_fault.RecordingFault.TheVariants.{Damaged, BadVersion}
use Rattle.afdx_input_files.specs.Limits.{most_interfaces}
use Rattle.afdx_input_files.specs.declared.order.Order.{Order}
use Rattle.afdx_input_files.specs.declared.interface.Interface.{Interface}
use Rattle.afdx_input_files.specs.declared.interface.Losses.{Losses}
use Rattle.afdx_input_files.specs.declared.block.BlockKind.{BlockKind}
use Rattle.afdx_input_files.specs.declared.block.BlockKind.TheVariants as kind
use Rattle.afdx_input_files.specs.declared.block.BlockHead.{BlockHead}
use Rattle.afdx_input_files.specs.declared.block_packet.Placed.{Placed}
use Rattle.afdx_input_files.specs.declared.recorded.Recorded.TheVariants.{NoFrame}
use Rattle.afdx_input_files.specs.Orders.{half_at, word_at}
use Rattle.afdx_input_files.specs.Recordings.{State, Meaning, Wrong, Says, after_block, after_number, lost_by, most_by, most_numbers}
use Rattle.afdx_input_files.specs.Interfaces.{interface_by, losses_by, with_losses}
use Rattle.afdx_input_files.specs.Packets.{numbered, packet_by, simple_by}
use Rattle.afdx_input_files.specs.Blocks.{head_by}

-- the bytes of a block before its body, and those that tell it apart
abbrev pub body_start : ℕ
body_start = 8

abbrev pub block_head : ℕ
block_head = 12

-- what is told or, if it is none, damage
abbrev pub or_damaged : {X : Type 0} → State → Option X → (X → Meaning) → Meaning
or_damaged state None says = Wrong (Damaged state.numbers)
or_damaged state (Some x) says = says x

-- a section: version 1.0 or 1.2; its interfaces are counted anew
abbrev pub is_section_version : Order → List ℕ → Bool
is_section_version order body =
    half_at order 4 body == 1 && (half_at order 6 body == 0 || half_at order 6 body == 2)

abbrev pub after_section : State → Order → State
after_section state order = record state {
  order = order;
  interfaces = [];
  lost = lost_by state;
  most = most_by state;
  blocks = state.blocks + 1;
}

unfoldable pub section_meaning : State → Order → List ℕ → Meaning
section_meaning state order body =
    if is_section_version order body then Says (after_section state order) None
    else Wrong (BadVersion state.numbers)

-- an interface, if there aren't too many
abbrev pub after_interface : State → Interface → State
after_interface state interface = record state {
  interfaces = state.interfaces ++ (interface ∷ []);
  blocks = state.blocks + 1;
}

unfoldable pub interface_meaning : State → Order → List ℕ → Meaning
interface_meaning state order body =
    if nat_lt (length state.interfaces) most_interfaces
    then or_damaged state (interface_by order body)
    (λ (interface : Interface). Says (after_interface state interface) None)
    else Wrong (Damaged state.numbers)

-- statistics of an interface that is described
abbrev pub after_statistics : State → ℕ → Interface → Losses → State
after_statistics state place interface losses = record state {
  interfaces = slice_set state.interfaces place (with_losses interface losses);
  blocks = state.blocks + 1;
}

unfoldable pub statistics_meaning : State → Order → List ℕ → Meaning
statistics_meaning state order body =
    or_damaged state (slice_get state.interfaces (word_at order 0 body)) (λ (interface : Interface).
    or_damaged state (losses_by order body) (λ (losses : Losses).
    Says (after_statistics state (word_at order 0 body) interface losses) None))

-- what takes a number
abbrev pub number_meaning : State → List ℕ → Placed → Meaning
number_meaning state body placed = Says (after_number state) (Some (numbered body placed))

-- a packet of an interface that is described
unfoldable pub packet_meaning_at : State → Order → ℕ → List ℕ → Meaning
packet_meaning_at state order place body =
    or_damaged state (slice_get state.interfaces place) (λ (interface : Interface).
    or_damaged state (packet_by order body place interface) (number_meaning state body))

-- a simple packet, which is of the first interface
unfoldable pub simple_meaning : State → Order → List ℕ → Meaning
simple_meaning state order body =
    or_damaged state (slice_get state.interfaces 0) (λ (interface : Interface).
    or_damaged state (simple_by order body interface) (number_meaning state body))

-- what is no frame has no bytes
abbrev pub no_frame : Placed
no_frame = record { what = NoFrame; start = 0; count = 0 }

-- what a block of a kind means, by its body
abbrev pub kind_meaning : BlockKind → State → Order → List ℕ → Meaning
kind_meaning kind.Section state order body = section_meaning state order body
kind_meaning kind.Interface state order body = interface_meaning state order body
kind_meaning kind.Statistics state order body = statistics_meaning state order body
kind_meaning kind.Packet state order body =
    packet_meaning_at state order (word_at order 0 body) body
kind_meaning kind.OldPacket state order body =
    packet_meaning_at state order (half_at order 0 body) body
kind_meaning kind.SimplePacket state order body = simple_meaning state order body
kind_meaning kind.NoFrame state order body = number_meaning state body no_frame
kind_meaning kind.Other state order body = Says (after_block state) None

-- the bytes that follow the head of a block
abbrev pub behind_head : BlockHead → ℕ
behind_head head = head.size - block_head

unfoldable pub block_rest : State → List ℕ → Option ℕ
block_rest state head =
    if nat_lt state.blocks most_numbers then option_map behind_head (head_by state.order head)
    else None

-- a block without its ends
unfoldable pub body_of : ℕ → List ℕ → List ℕ
body_of size whole = take (size - block_head) (drop body_start whole)

-- it ends with its length, too
abbrev pub whole_meaning : State → List ℕ → BlockHead → Meaning
whole_meaning state whole head =
    if word_at head.order (head.size - 4) whole == head.size
    then kind_meaning head.kind state head.order (body_of head.size whole)
    else Wrong (Damaged state.numbers)

unfoldable pub block_meaning : State → List ℕ → Meaning
block_meaning state whole = or_damaged state (head_by state.order whole) (whole_meaning state whole)

-- a block, or its body, was looked into: it took a number or none, or it is wrong
abbrev pub Means : Meaning → Result (Option Placed) RunFault → State → List ℕ → Type 0
Means meaning (Ok (Some placed)) after body = meaning ≡ Says after (Some (numbered body placed))
Means meaning (Ok None) after body = meaning ≡ Says after None
Means meaning (Err (run.Recording fault)) after body = meaning ≡ Wrong fault
Means meaning (Err run.Memory) after body = Unit {0}
Means meaning (Err _) after body = ⊥

-- it counts as a block, and as a number if it takes one
abbrev pub Counts : Result (Option Placed) RunFault → State → State → Type 0
Counts (Ok (Some placed)) before after =
    (after.numbers ≡ before.numbers + 1) × (after.blocks ≡ before.blocks + 1)
Counts (Ok None) before after =
    (after.numbers ≡ before.numbers) × (after.blocks ≡ before.blocks + 1)
Counts (Err fault) before after = after.numbers ≡ before.numbers

-- the bytes of what takes a number stand in its body
abbrev pub IsPlaced : Result (Option Placed) RunFault → List ℕ → Type 0
IsPlaced (Ok (Some placed)) body = placed.start + placed.count ≤ length body
IsPlaced _ body = Unit {0}
