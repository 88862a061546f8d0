use Rattle.std.proofs.Common.{arith, ◌≡◌, ◌≤◌, ◌-◌, ◌∙◌, ◌++◌, [], length, take, drop, sym, ap}
use Rattle.afdx_input_files.specs.Orders.{number_in}
use Rattle.afdx_input_files.specs.Holding.{unread, lent}
use Rattle.afdx_input_files.specs.Reading.{state_of}
use Rattle.afdx_input_files.proofs.HeadLemmas.{least_size}
use Rattle.afdx_input_files.proofs.BodyLemmas.{block_meaning-whole, block_meaning-torn, Meant-wrong, says_placed, nothing_in}
use Rattle.afdx_input_files.proofs.BodyLemmas.{last_behind, reaches, kind_meaning-skipped}
use Rattle.afdx_input_files.proofs.frame_reader.FrameReader.take_skipped.Goals as goal

pub returns-then-word-head-clause-meant : goal.returns-then-word-head-clause-meant
returns-then-word-head-clause-meant c = λ passed size told.
    let least = least_size c.args.head c.requires.least in
    let u = unread c.args.self.now.held in
    let xs = passed ++ u in
    let word : c.word.result ≡ number_in c.args.head.order 4 (drop (c.args.head.size - 4) xs) =
    c.word.ensures ∙ ap (number_in c.args.head.order 4) c.bytes.ensures
    ∙ sym (last_behind c.args.head.order passed u c.args.head.size size) in
    let within : c.args.head.size ≤ length xs = reaches passed u c.args.head.size size c.requires.held in
    rw c.damaged.ensures (block_meaning-torn (state_of c.args.self.now) xs c.args.head told least within
    (omega (arith, word, c.if-word-head.true)))

pub returns-in-Ok-Some-clause-meant : goal.returns-in-Ok-Some-clause-meant
returns-in-Ok-Some-clause-meant c = λ passed size told.
    let least = least_size c.args.head c.requires.least in
    let u = unread c.args.self.now.held in
    let xs = passed ++ u in
    let word : c.word.result ≡ number_in c.args.head.order 4 (drop (c.args.head.size - 4) xs) =
    c.word.ensures ∙ ap (number_in c.args.head.order 4) c.bytes.ensures
    ∙ sym (last_behind c.args.head.order passed u c.args.head.size size) in
    let within : c.args.head.size ≤ length xs = reaches passed u c.args.head.size size c.requires.held in
    let whole = block_meaning-whole (state_of c.args.self.now) xs c.args.head told least within
    (sym word ∙ c.if-word-head.false)
    ∙ kind_meaning-skipped c.args.head.kind (state_of c.args.self.now) c.args.head.order
    (take (c.args.head.size - 12) (drop 8 xs)) c.requires.skipped in
    let placed = c.in-Ok-Some.placed in
    let means = rw c.in-Ok-Some.field-0-is at c.in-Ok-Some.ensures.means in
    whole ∙ means ∙ says_placed _ placed [] (lent c.pass.new.self)
    (nothing_in placed.start placed.count ∙ sym c.pass.ensures.lent)

pub returns-in-Ok-None-clause-meant : goal.returns-in-Ok-None-clause-meant
returns-in-Ok-None-clause-meant c = λ passed size told.
    let least = least_size c.args.head c.requires.least in
    let u = unread c.args.self.now.held in
    let xs = passed ++ u in
    let word : c.word.result ≡ number_in c.args.head.order 4 (drop (c.args.head.size - 4) xs) =
    c.word.ensures ∙ ap (number_in c.args.head.order 4) c.bytes.ensures
    ∙ sym (last_behind c.args.head.order passed u c.args.head.size size) in
    let within : c.args.head.size ≤ length xs = reaches passed u c.args.head.size size c.requires.held in
    let whole = block_meaning-whole (state_of c.args.self.now) xs c.args.head told least within
    (sym word ∙ c.if-word-head.false)
    ∙ kind_meaning-skipped c.args.head.kind (state_of c.args.self.now) c.args.head.order
    (take (c.args.head.size - 12) (drop 8 xs)) c.requires.skipped in
    let means = rw c.in-Ok-None.field-0-is at c.in-Ok-None.ensures.means in
    whole ∙ means

pub returns-in-Err-clause-meant : goal.returns-in-Err-clause-meant
returns-in-Err-clause-meant c = λ passed size told.
    let least = least_size c.args.head c.requires.least in
    let u = unread c.args.self.now.held in
    let xs = passed ++ u in
    let word : c.word.result ≡ number_in c.args.head.order 4 (drop (c.args.head.size - 4) xs) =
    c.word.ensures ∙ ap (number_in c.args.head.order 4) c.bytes.ensures
    ∙ sym (last_behind c.args.head.order passed u c.args.head.size size) in
    let within : c.args.head.size ≤ length xs = reaches passed u c.args.head.size size c.requires.held in
    let whole = block_meaning-whole (state_of c.args.self.now) xs c.args.head told least within
    (sym word ∙ c.if-word-head.false)
    ∙ kind_meaning-skipped c.args.head.kind (state_of c.args.self.now) c.args.head.order
    (take (c.args.head.size - 12) (drop 8 xs)) c.requires.skipped in
    Meant-wrong _ _ c.in-Err.fault _ _ _ _ whole c.in-Err.ensures.means
