-- Heads of blocks, by the first bytes.
use Rattle.std.proofs.Common.{◌≡◌, ℕ, ◌+◌, ◌<◌, ◌≤◌, List, ◌++◌, length, take, drop}
use Rattle.std.proofs.Common.{refl, ap, ◌∙◌, arith, Some}
use Rattle.afdx_input_files.specs.declared.order.Order.{Order}
use Rattle.afdx_input_files.specs.declared.order.Order.TheVariants.{HighFirst}
use Rattle.afdx_input_files.specs.declared.block.BlockKind.{BlockKind}
use Rattle.afdx_input_files.specs.declared.block.BlockKind.TheVariants as kind
use Rattle.afdx_input_files.specs.declared.block.BlockHead.{BlockHead}
use Rattle.afdx_input_files.specs.Orders.{number_in}
use Rattle.afdx_input_files.specs.Recordings.{State, most_numbers}
use Rattle.afdx_input_files.specs.Blocks.{kind_of, least_of, order_by, is_ordered, head_of_kind, head_by}
use Rattle.afdx_input_files.specs.Pcapng.{block_rest, behind_head}
use Rattle.afdx_input_files.proofs.OrderLemmas.{number_at-append, number_at-take}
use Rattle.afdx_input_files.proofs.BlockLemmas.{less}

-- their first 12 bytes are the same, as far as numbers tell
abbrev AgreeAtHead : List ℕ → List ℕ → Type 0
AgreeAtHead xs ys = (order : Order) (place : ℕ) → place + 4 ≤ 12
    → number_in order 4 (drop place xs) ≡ number_in order 4 (drop place ys)

order_by-same : (k : BlockKind) (before : Order) (xs ys : List ℕ) → AgreeAtHead xs ys
    → order_by k before xs ≡ order_by k before ys
order_by-same kind.Section before xs ys h = rw (h HighFirst 8 (omega arith)) refl
order_by-same kind.Interface before xs ys h = refl
order_by-same kind.OldPacket before xs ys h = refl
order_by-same kind.SimplePacket before xs ys h = refl
order_by-same kind.Statistics before xs ys h = refl
order_by-same kind.Packet before xs ys h = refl
order_by-same kind.NoFrame before xs ys h = refl
order_by-same kind.Other before xs ys h = refl

is_ordered-same : (k : BlockKind) (order : Order) (xs ys : List ℕ) → AgreeAtHead xs ys
    → is_ordered k order xs ≡ is_ordered k order ys
is_ordered-same kind.Section order xs ys h = rw (h order 8 (omega arith)) refl
is_ordered-same kind.Interface order xs ys h = refl
is_ordered-same kind.OldPacket order xs ys h = refl
is_ordered-same kind.SimplePacket order xs ys h = refl
is_ordered-same kind.Statistics order xs ys h = refl
is_ordered-same kind.Packet order xs ys h = refl
is_ordered-same kind.NoFrame order xs ys h = refl
is_ordered-same kind.Other order xs ys h = refl

head_of_kind-same : (k : BlockKind) (order : Order) (xs ys : List ℕ) → AgreeAtHead xs ys
    → head_of_kind k order xs ≡ head_of_kind k order ys
head_of_kind-same k order xs ys h = rw (is_ordered-same k order xs ys h, h order 4 (omega arith)) refl

head_by-same : (before : Order) (xs ys : List ℕ) → AgreeAtHead xs ys → head_by before xs ≡ head_by before ys
unfolding head_by
head_by-same before xs ys h =
    let k = kind_of (number_in before 4 (drop 0 ys)) in
    ap (λ (n : ℕ). head_of_kind (kind_of n) (order_by (kind_of n) before xs) xs) (h before 0 (omega arith))
    ∙ ap (λ (order : Order). head_of_kind k order xs) (order_by-same k before xs ys h)
    ∙ head_of_kind-same k (order_by k before ys) xs ys h

-- whatever follows
pub head_by-append : (before : Order) (xs more : List ℕ) → 12 ≤ length xs
    → head_by before (xs ++ more) ≡ head_by before xs
head_by-append before xs more within = head_by-same before (xs ++ more) xs
    (λ order place h. number_at-append order 4 place xs more (omega (arith, h, within)))

-- of the first bytes alone
pub head_by-take : (before : Order) (n : ℕ) (xs : List ℕ) → 12 ≤ n → n ≤ length xs
    → head_by before (take n xs) ≡ head_by before xs
head_by-take before n xs long within = head_by-same before (take n xs) xs
    (λ order place h. number_at-take order 4 place n xs (omega (arith, h, long)) within)

pub block_rest-take : (state : State) (xs : List ℕ) → 12 ≤ length xs
    → block_rest state (take 12 xs) ≡ block_rest state xs
unfolding block_rest
block_rest-take state xs within = rw (head_by-take state.order 12 xs (omega arith) within) refl

-- the head tells how many bytes follow
pub block_rest-told : (state : State) (xs : List ℕ) (head : BlockHead) → state.blocks < most_numbers
    → head_by state.order xs ≡ Some head → block_rest state xs ≡ Some (behind_head head)
unfolding block_rest
block_rest-told state xs head few told = rw (less state.blocks most_numbers few, told) refl

least_at : (k : BlockKind) → 12 ≤ least_of k
least_at kind.Section = omega arith
least_at kind.Interface = omega arith
least_at kind.OldPacket = omega arith
least_at kind.SimplePacket = omega arith
least_at kind.Statistics = omega arith
least_at kind.Packet = omega arith
least_at kind.NoFrame = omega arith
least_at kind.Other = omega arith

-- a block has its head and its last length
pub least_size : (head : BlockHead) → least_of head.kind ≤ head.size → 12 ≤ head.size
least_size head h = omega (arith, least_at head.kind, h)
