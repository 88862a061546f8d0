-- Heads of the blocks of a pcapng: type and length, and a section's order of bytes.
use Rattle.std.specs.Prelude.{ℕ, Bool, true, false, ◌==◌, ◌%◌, ◌&&◌, ◌||◌, not, nat_le, List, Option, Some, None, if◌then◌else◌}
use Rattle.afdx_input_files.specs.declared.order.Order.{Order}
use Rattle.afdx_input_files.specs.declared.order.Order.TheVariants.{LowFirst, HighFirst}
use Rattle.afdx_input_files.specs.declared.block.BlockKind.{BlockKind}
use Rattle.afdx_input_files.specs.declared.block.BlockKind.TheVariants as kind
use Rattle.afdx_input_files.specs.declared.block.BlockHead.{BlockHead}
use Rattle.afdx_input_files.specs.Orders.{word_at}

-- the kind of a block of this type; a section's is the same in both orders
unfoldable pub kind_of : ℕ → BlockKind
kind_of number =
    if number == 0x0a0d0d0a then kind.Section
    else if number == 1 then kind.Interface
    else if number == 2 then kind.OldPacket
    else if number == 3 then kind.SimplePacket
    else if number == 5 then kind.Statistics
    else if number == 6 then kind.Packet
    else if number == 9 then kind.NoFrame
    else if number == 0x0bad then kind.NoFrame
    else if number == 0x40000bad then kind.NoFrame
    else kind.Other

-- the least bytes of a block of a kind
abbrev pub least_of : BlockKind → ℕ
least_of kind.Section = 28
least_of kind.Interface = 20
least_of kind.OldPacket = 32
least_of kind.SimplePacket = 16
least_of kind.Statistics = 24
least_of kind.Packet = 32
least_of kind.NoFrame = 12
least_of kind.Other = 12

-- what a block of this kind holds is looked into
abbrev pub is_held : BlockKind → Bool
is_held kind.NoFrame = false
is_held kind.Other = false
is_held _ = true

-- the most bytes of a block that is looked into
abbrev pub longest_block : ℕ
longest_block = 16777216

-- whether a block of this kind may have so many bytes
unfoldable pub is_size : BlockKind → ℕ → Bool
is_size kind size =
    nat_le (least_of kind) size && size % 4 == 0
    && (not (is_held kind) || nat_le size longest_block)

-- the number by which a section tells its order
abbrev pub order_magic : ℕ
order_magic = 0x1a2b3c4d

-- the order of a block's bytes: a section has its own
abbrev pub order_by : BlockKind → Order → List ℕ → Order
order_by kind.Section before head =
    if word_at HighFirst 8 head == order_magic then HighFirst else LowFirst
order_by _ before head = before

abbrev pub is_ordered : BlockKind → Order → List ℕ → Bool
is_ordered kind.Section order head = word_at order 8 head == order_magic
is_ordered _ order head = true

abbrev pub head_of_kind : BlockKind → Order → List ℕ → Option BlockHead
head_of_kind kind order head =
    if is_ordered kind order head && is_size kind (word_at order 4 head)
    then Some (record { kind = kind; order = order; size = word_at order 4 head })
    else None

-- the first 12 bytes of a block, in a section of this order
unfoldable pub head_by : Order → List ℕ → Option BlockHead
head_by before head =
    let kind = kind_of (word_at before 0 head) in
    head_of_kind kind (order_by kind before head) head
