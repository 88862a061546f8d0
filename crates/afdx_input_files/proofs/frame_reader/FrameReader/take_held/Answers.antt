use Rattle.std.proofs.Common.{arith, ◌≡◌, ◌≤◌, ◌+◌, ◌-◌, ◌∙◌, List, ℕ, length, take, drop, sym, ap}
use Rattle.afdx_input_files.specs.Orders.{number_in}
use Rattle.afdx_input_files.specs.Holding.{unread, lent}
use Rattle.afdx_input_files.specs.Pcapng.{kind_meaning}
use Rattle.afdx_input_files.specs.Reading.{state_of}
use Rattle.afdx_input_files.proofs.HeadLemmas.{least_size}
use Rattle.afdx_input_files.proofs.BodyLemmas.{block_meaning-whole, block_meaning-torn, placed_bytes, Meant-wrong, says_placed, body_between}
use Rattle.afdx_input_files.proofs.frame_reader.FrameReader.take_held.Goals as goal

pub returns-then-word-head-clause-meant : goal.returns-then-word-head-clause-meant
returns-then-word-head-clause-meant c =
    let least = least_size c.args.head c.requires.least in
    let xs = unread c.args.self.now.held in
    let word : c.word.result ≡ number_in c.args.head.order 4 (drop (c.args.head.size - 4) xs) =
    c.word.ensures
    ∙ ap (λ (bytes : List ℕ). number_in c.args.head.order 4 (drop (c.args.head.size - 4) bytes)) c.bytes.ensures in
    rw c.damaged.ensures (block_meaning-torn (state_of c.args.self.now) xs c.args.head c.requires.told least
    c.requires.held (omega (arith, word, c.if-word-head.true)))

pub returns-in-Ok-Some-clause-meant : goal.returns-in-Ok-Some-clause-meant
returns-in-Ok-Some-clause-meant c =
    let least = least_size c.args.head c.requires.least in
    let xs = unread c.args.self.now.held in
    let word : c.word.result ≡ number_in c.args.head.order 4 (drop (c.args.head.size - 4) xs) =
    c.word.ensures
    ∙ ap (λ (bytes : List ℕ). number_in c.args.head.order 4 (drop (c.args.head.size - 4) bytes)) c.bytes.ensures in
    let body_is : take (c.args.head.size - 4 - 8) (drop 8 c.bytes-2.result.now)
    ≡ take (c.args.head.size - 12) (drop 8 xs) =
    ap (λ (bytes : List ℕ). take (c.args.head.size - 4 - 8) (drop 8 bytes)) c.bytes-2.ensures
    ∙ body_between c.args.head.size xs in
    let whole = block_meaning-whole (state_of c.args.self.now) xs c.args.head c.requires.told least c.requires.held
    (sym word ∙ c.if-word-head.false)
    ∙ ap (kind_meaning c.args.head.kind (state_of c.args.self.now) c.args.head.order) (sym body_is) in
    let placed = c.in-Ok-Some.placed in
    let body = take (c.args.head.size - 4 - 8) (drop 8 c.bytes-2.result.now) in
    let means = rw c.in-Ok-Some.field-0-is at c.in-Ok-Some.ensures.means in
    let within : placed.start + placed.count ≤ length body = rw c.in-Ok-Some.field-0-is at
    c.in-Ok-Some.ensures.within in
    let fits : placed.start + placed.count ≤ length (take (c.args.head.size - 12) (drop 8 xs)) = rw body_is at within in
    whole ∙ means ∙ says_placed _ placed body (lent c.pass.new.self)
    (ap (λ (bytes : List ℕ). take placed.count (drop placed.start bytes)) body_is
    ∙ placed_bytes xs c.args.head.size placed.start placed.count least c.requires.held fits
    ∙ sym c.pass.ensures.lent)

pub returns-in-Ok-None-clause-meant : goal.returns-in-Ok-None-clause-meant
returns-in-Ok-None-clause-meant c =
    let least = least_size c.args.head c.requires.least in
    let xs = unread c.args.self.now.held in
    let word : c.word.result ≡ number_in c.args.head.order 4 (drop (c.args.head.size - 4) xs) =
    c.word.ensures
    ∙ ap (λ (bytes : List ℕ). number_in c.args.head.order 4 (drop (c.args.head.size - 4) bytes)) c.bytes.ensures in
    let body_is : take (c.args.head.size - 4 - 8) (drop 8 c.bytes-2.result.now)
    ≡ take (c.args.head.size - 12) (drop 8 xs) =
    ap (λ (bytes : List ℕ). take (c.args.head.size - 4 - 8) (drop 8 bytes)) c.bytes-2.ensures
    ∙ body_between c.args.head.size xs in
    let whole = block_meaning-whole (state_of c.args.self.now) xs c.args.head c.requires.told least c.requires.held
    (sym word ∙ c.if-word-head.false)
    ∙ ap (kind_meaning c.args.head.kind (state_of c.args.self.now) c.args.head.order) (sym body_is) in
    let means = rw c.in-Ok-None.field-0-is at c.in-Ok-None.ensures.means in
    whole ∙ means

pub returns-in-Err-clause-meant : goal.returns-in-Err-clause-meant
returns-in-Err-clause-meant c =
    let least = least_size c.args.head c.requires.least in
    let xs = unread c.args.self.now.held in
    let word : c.word.result ≡ number_in c.args.head.order 4 (drop (c.args.head.size - 4) xs) =
    c.word.ensures
    ∙ ap (λ (bytes : List ℕ). number_in c.args.head.order 4 (drop (c.args.head.size - 4) bytes)) c.bytes.ensures in
    let body_is : take (c.args.head.size - 4 - 8) (drop 8 c.bytes-2.result.now)
    ≡ take (c.args.head.size - 12) (drop 8 xs) =
    ap (λ (bytes : List ℕ). take (c.args.head.size - 4 - 8) (drop 8 bytes)) c.bytes-2.ensures
    ∙ body_between c.args.head.size xs in
    let whole = block_meaning-whole (state_of c.args.self.now) xs c.args.head c.requires.told least c.requires.held
    (sym word ∙ c.if-word-head.false)
    ∙ ap (kind_meaning c.args.head.kind (state_of c.args.self.now) c.args.head.order) (sym body_is) in
    Meant-wrong _ _ c.in-Err.fault _ _ _ _ whole c.in-Err.ensures.means
