-- What a block means, by its body.
use Rattle.std.proofs.Common.{◌≡◌, ◌≢◌, true, false, eqb, ℕ, ◌+◌, ◌-◌, ◌≤◌, List, [], ◌++◌, length, take, drop}
use Rattle.std.proofs.Common.{refl, ap, sym, ◌∙◌, arith, Some, Err}
use Rattle.std.proofs.lemmas.Bool.{true≢false}
use Rattle.std.proofs.lemmas.Grind.{common_steps}
use Rattle.std.proofs.lemmas.List.{drop-take, take-take, drop-drop}
use Rattle.afdx_input_lines.specs.declared.fault.RunFault.{RunFault}
use Rattle.afdx_input_lines.specs.declared.fault.RunFault.TheVariants as run
use Rattle.afdx_input_lines.specs.declared.recording_fault.RecordingFault.TheVariants.{Damaged}
use Rattle.afdx_input_files.specs.declared.block_packet.Placed.{Placed}
use Rattle.afdx_input_files.specs.declared.block.BlockHead.{BlockHead}
use Rattle.afdx_input_files.specs.declared.block.BlockKind.{BlockKind}
use Rattle.afdx_input_files.specs.declared.block.BlockKind.TheVariants as kind
use Rattle.afdx_input_files.specs.declared.order.Order.{Order}
use Rattle.afdx_input_files.specs.Orders.{number_in}
use Rattle.afdx_input_files.specs.Recordings.{State, Meaning, Wrong, Says, Numbered}
use Rattle.afdx_input_files.specs.Blocks.{head_by, is_held}
use Rattle.afdx_input_files.specs.Pcapng.{body_of, kind_meaning, block_meaning, Means}
use Rattle.afdx_input_files.specs.Packets.{numbered}
use Rattle.afdx_input_files.specs.Reading.{Meant}
use Rattle.afdx_input_files.proofs.OrderLemmas.{number_at-take}
use Rattle.afdx_input_files.proofs.HeadLemmas.{head_by-take}

equal : (n : ℕ) → eqb n n ≡ true
equal n = grind arith

body_in : (size : ℕ) (xs : List ℕ) → 12 ≤ size → size ≤ length xs
    → take (size - 12) (drop 8 (take size xs)) ≡ take (size - 12) (drop 8 xs)
body_in size xs least within =
    let n : 8 + (size - 8) ≡ size = omega (arith, least) in
    ap (λ (k : ℕ). take (size - 12) (drop 8 (take k xs))) (sym n)
    ∙ ap (take (size - 12)) (drop-take 8 (size - 8) xs)
    ∙ take-take (size - 12) (size - 8) (drop 8 xs) (omega arith)

-- it ends with its length
pub block_meaning-whole : (state : State) (xs : List ℕ) (head : BlockHead) → head_by state.order xs ≡ Some head
    → 12 ≤ head.size → head.size ≤ length xs → number_in head.order 4 (drop (head.size - 4) xs) ≡ head.size
    → block_meaning state (take head.size xs)
    ≡ kind_meaning head.kind state head.order (take (head.size - 12) (drop 8 xs))
unfolding block_meaning body_of
block_meaning-whole state xs head told least within last =
    let word : number_in head.order 4 (drop (head.size - 4) (take head.size xs)) ≡ head.size =
    number_at-take head.order 4 (head.size - 4) head.size xs (omega (arith, least)) within ∙ last in
    rw (head_by-take state.order head.size xs least within ∙ told, word, equal head.size)
    (ap (kind_meaning head.kind state head.order) (body_in head.size xs least within))

-- or with another number
pub block_meaning-torn : (state : State) (xs : List ℕ) (head : BlockHead) → head_by state.order xs ≡ Some head
    → 12 ≤ head.size → head.size ≤ length xs → number_in head.order 4 (drop (head.size - 4) xs) ≢ head.size
    → block_meaning state (take head.size xs) ≡ Wrong (Damaged state.numbers)
unfolding block_meaning
block_meaning-torn state xs head told least within last =
    let word : number_in head.order 4 (drop (head.size - 4) (take head.size xs))
    ≡ number_in head.order 4 (drop (head.size - 4) xs) =
    number_at-take head.order 4 (head.size - 4) head.size xs (omega (arith, least)) within in
    let differs : eqb (number_in head.order 4 (drop (head.size - 4) xs)) head.size ≡ false = grind (arith, last) in
    rw (head_by-take state.order head.size xs least within ∙ told, word, differs) refl

-- what is placed in the body stands in the block
pub placed_bytes : (xs : List ℕ) (size start count : ℕ) → 12 ≤ size → size ≤ length xs
    → start + count ≤ length (take (size - 12) (drop 8 xs))
    → take count (drop start (take (size - 12) (drop 8 xs)))
    ≡ take (8 + start + count - (8 + start)) (drop (8 + start) xs)
placed_bytes xs size start count least within fits =
    let few : length (take (size - 12) (drop 8 xs)) ≤ size - 12 = grind (arith, common_steps) in
    let n : start + (size - 12 - start) ≡ size - 12 = omega (arith, few, fits) in
    let m : count ≡ 8 + start + count - (8 + start) = omega arith in
    ap (λ (k : ℕ). take count (drop start (take k (drop 8 xs)))) (sym n)
    ∙ ap (take count) (drop-take start (size - 12 - start) (drop 8 xs))
    ∙ take-take count (size - 12 - start) (drop start (drop 8 xs)) (omega (arith, few, fits))
    ∙ ap (take count) (drop-drop start 8 xs)
    ∙ ap (λ (k : ℕ). take k (drop (8 + start) xs)) m

-- a block that isn't looked into means the same, whatever its body is
pub kind_meaning-skipped : (k : BlockKind) (state : State) (order : Order) (body : List ℕ) → is_held k ≡ false
    → kind_meaning k state order body ≡ kind_meaning k state order []
kind_meaning-skipped kind.NoFrame state order body h = refl
kind_meaning-skipped kind.Other state order body h = refl
kind_meaning-skipped kind.Section state order body h = absurd (true≢false h)
kind_meaning-skipped kind.Interface state order body h = absurd (true≢false h)
kind_meaning-skipped kind.OldPacket state order body h = absurd (true≢false h)
kind_meaning-skipped kind.SimplePacket state order body h = absurd (true≢false h)
kind_meaning-skipped kind.Statistics state order body h = absurd (true≢false h)
kind_meaning-skipped kind.Packet state order body h = absurd (true≢false h)

-- the last bytes behind those that were passed
pub last_behind : (order : Order) (passed xs : List ℕ) (size : ℕ) → length passed + 4 ≡ size
    → number_in order 4 (drop (size - 4) (passed ++ xs)) ≡ number_in order 4 xs
last_behind order passed xs size h =
    let n : size - 4 ≡ length passed = omega (arith, h) in
    let rest : drop (length passed) (passed ++ xs) ≡ xs = grind (arith, common_steps) in
    rw (n, rest) refl

-- the bytes between the ends of a block
pub body_between : (size : ℕ) (xs : List ℕ) → take (size - 4 - 8) (drop 8 xs) ≡ take (size - 12) (drop 8 xs)
body_between size xs = let n : size - 4 - 8 ≡ size - 12 = omega arith in rw n refl

-- what takes a number is placed in the block
pub says_placed : (after : State) (placed : Placed) (body bytes : List ℕ)
    → take placed.count (drop placed.start body) ≡ bytes
    → Says after (Some (numbered body placed)) ≡ Says after (Some (record { what = placed.what; bytes = bytes }))
says_placed after placed body bytes h =
    ap (λ (xs : List ℕ). Says after (Some (record { what = placed.what; bytes = xs }))) h

-- a fault is what its body means
pub Meant-wrong : (meaning whole : Meaning) (fault : RunFault) (after next : State) (body : List ℕ) (item : Numbered)
    → whole ≡ meaning → Means meaning (Err fault) after body → Meant whole (Err fault) next item
Meant-wrong meaning whole (run.Recording f) after next body item h means = h ∙ means
Meant-wrong meaning whole run.Memory after next body item h means = tt
Meant-wrong meaning whole run.Read after next body item h means = absurd means
Meant-wrong meaning whole run.Write after next body item h means = absurd means
Meant-wrong meaning whole (run.BadLine n) after next body item h means = absurd means
Meant-wrong meaning whole (run.BadHex n) after next body item h means = absurd means
Meant-wrong meaning whole (run.TimeBack n) after next body item h means = absurd means
Meant-wrong meaning whole (run.TimeTooLarge n) after next body item h means = absurd means
Meant-wrong meaning whole (run.BadPort n) after next body item h means = absurd means
Meant-wrong meaning whole (run.Of n) after next body item h means = absurd means
Meant-wrong meaning whole (run.LineTooLong n) after next body item h means = absurd means
Meant-wrong meaning whole run.TooManyLines after next body item h means = absurd means

pub nothing_in : (start count : ℕ) → take {A = ℕ} count (drop start []) ≡ []
nothing_in start count = grind (arith, common_steps)

pub reaches : (passed xs : List ℕ) (size : ℕ) → length passed + 4 ≡ size → 4 ≤ length xs → size ≤ length (passed ++ xs)
reaches passed xs size h some =
    let all : length (passed ++ xs) ≡ length passed + length xs = grind (arith, common_steps) in
    omega (arith, h, some, all)
