-- Blocks of a pcapng, by what is held.
use Rattle.std.proofs.Common.{◌≡◌, ℕ, ◌+◌, ◌<◌, ◌≤◌, Bool, true, false, ltb, List, [], ◌++◌, length, take, drop}
use Rattle.std.proofs.Common.{refl, ap, sym, ◌∙◌, arith, Some, None, Ok, Err, Result, OnOk}
use Rattle.std.proofs.Math.Seq.{drop-append-add}
use Rattle.std.proofs.lemmas.List.{append-nil, take-append-le}
use Rattle.std.proofs.lemmas.Grind.{common_steps}
use Rattle.afdx_input_lines.specs.Calls.{is_failed_read}
use Rattle.afdx_input_lines.specs.declared.fault.RunFault.{RunFault}
use Rattle.afdx_input_lines.specs.declared.next.Progress.{Progress}
use Rattle.afdx_input_lines.specs.declared.next.Progress.TheVariants as progress
use Rattle.afdx_input_lines.specs.declared.fault.RunFault.TheVariants as run
use Rattle.afdx_input_lines.specs.declared.recording_fault.RecordingFault.TheVariants.{Damaged, Ended}
use Rattle.afdx_input_files.specs.declared.form.Form.TheVariants as form
use Rattle.afdx_input_files.specs.declared.block.BlockHead.{BlockHead}
use Rattle.afdx_input_files.specs.Holding.{Standing, Gives, Passes}
use Rattle.afdx_input_files.specs.Recordings.{State, Ends, Over, Faulted, Meaning, Numbered, by_meaning, most_numbers, totals_by}
use Rattle.afdx_input_files.specs.Blocks.{head_by}
use Rattle.afdx_input_files.specs.Pcapng.{block_rest, block_meaning, behind_head}
use Rattle.afdx_input_files.specs.Reading.{step_by, SaysEnding, SaysNothing, Meant, TellsBlock}
use Rattle.afdx_input_files.proofs.HeldLemmas.{Gives-nothing, Gives-same}
use Rattle.afdx_input_files.proofs.BlockLemmas.{next_block-whole, next_block-wrong, next_block-short, next_block-cut, next_block-over}
use Rattle.afdx_input_files.proofs.HeadLemmas.{head_by-append, block_rest-take, block_rest-told}
use Rattle.afdx_input_files.proofs.ReadingLemmas.{SaysFirst-block, SaysSame-block, SaysEnding-block, SaysEnding-here, SaysNothing-block}

rest_in_front : (state : State) (xs more : List ℕ) → 12 ≤ length xs
    → block_rest state (take 12 (xs ++ more)) ≡ block_rest state xs
rest_in_front state xs more within = ap (block_rest state) (take-append-le 12 xs more within)
    ∙ block_rest-take state xs within

back : (head : BlockHead) → 12 ≤ head.size → 12 + behind_head head ≡ head.size
back head h = omega (arith, h)

-- the block stands whole
whole : (before : State) (head : BlockHead) (xs more : List ℕ) → before.blocks < most_numbers
    → head_by before.order xs ≡ Some head → 12 ≤ head.size → head.size ≤ length xs
    → step_by (Some form.Pcapng) before (xs ++ more) ≡ by_meaning head.size (block_meaning before (take head.size xs))
whole before head xs more few told least within =
    let size : length (xs ++ more) ≡ length xs + length more = grind (arith, common_steps) in
    let rest = rest_in_front before xs more (omega (arith, least, within)) ∙ block_rest-told before xs head few told in
    next_block-whole 12 (block_rest before) (block_meaning before) before.numbers (xs ++ more) (behind_head head)
    (omega arith) rest (omega (arith, back head least, within, size))
    ∙ ap (λ (n : ℕ). by_meaning n (block_meaning before (take n (xs ++ more)))) (back head least)
    ∙ ap (λ (bytes : List ℕ). by_meaning head.size (block_meaning before bytes))
    (take-append-le head.size xs more within)

-- less than the block is there
cut : (before : State) (head : BlockHead) (xs : List ℕ) → before.blocks < most_numbers
    → head_by before.order xs ≡ Some head → 12 ≤ head.size → 12 ≤ length xs → length xs < head.size
    → step_by (Some form.Pcapng) before xs ≡ Ends (Faulted (Ended before.numbers))
cut before head xs few told least held short =
    next_block-cut 12 (block_rest before) (block_meaning before) before.numbers xs (behind_head head) (omega arith)
    (block_rest-take before xs held ∙ block_rest-told before xs head few told) held
    (omega (arith, back head least, short))

-- what a call read tells of the block which stands first
pub TellsBlock-meant : (result : Result Progress RunFault) (old new : Standing) (before after : State) (item : Numbered)
    (head : BlockHead) (given : List ℕ) → before.form ≡ Some form.Pcapng → after.form ≡ before.form →
    Gives old new given
    → before.blocks < most_numbers → head_by before.order (old.held ++ given) ≡ Some head → 12 ≤ head.size
    → head.size ≤ length (old.held ++ given)
    → OnOk result (new.held ≡ drop head.size (old.held ++ given))
    → Meant (block_meaning before (take head.size (old.held ++ given))) result after item
    → TellsBlock result old new before after item
TellsBlock-meant (Ok progress.Given) old new before after item head given h k gives few told least within rest meant =
    SaysFirst-block old new before after form.Pcapng item head.size given h (k ∙ h) gives
    (λ more. whole before head (old.held ++ given) more few told least within ∙ ap (by_meaning head.size) meant)
    within rest
TellsBlock-meant (Ok progress.NotYet) old new before after item head given h k gives few told least within rest meant =
    SaysSame-block old new before after form.Pcapng head.size given h (k ∙ h) gives
    (λ more. whole before head (old.held ++ given) more few told least within ∙ ap (by_meaning head.size) meant)
    within rest
TellsBlock-meant (Err (run.Recording f)) old new before after item head given h k gives few told
    least within rest meant = (
      totals_by before,
      SaysEnding-block old new before form.Pcapng (Faulted f) given h gives
          (λ more _. whole before head (old.held ++ given) more few told least within
          ∙ ap (by_meaning head.size) meant),
    )
TellsBlock-meant (Err run.Memory) old new before after item head given h k gives few told least within rest meant =
    (given, gives)
TellsBlock-meant (Err run.Read) old new before after item head given h k gives few told least within rest meant =
    absurd meant
TellsBlock-meant (Err run.Write) old new before after item head given h k gives few told least within rest meant =
    absurd meant
TellsBlock-meant (Err (run.BadLine n)) old new before after item head given h k gives few told least within rest meant =
    absurd meant
TellsBlock-meant (Err (run.BadHex n)) old new before after item head given h k gives few told least within rest meant =
    absurd meant
TellsBlock-meant (Err (run.TimeBack n)) old new before after item head given h k gives few told
    least within rest meant =
    absurd meant
TellsBlock-meant (Err (run.TimeTooLarge n)) old new before after item head given h k gives few told
    least within rest meant =
    absurd meant
TellsBlock-meant (Err (run.BadPort n)) old new before after item head given h k gives few told least within rest meant =
    absurd meant
TellsBlock-meant (Err (run.Of n)) old new before after item head given h k gives few told
    least within rest meant =
    absurd meant
TellsBlock-meant (Err (run.LineTooLong n)) old new before after item head given h k gives few told
    least within rest meant =
    absurd meant
TellsBlock-meant (Err run.TooManyLines) old new before after item head given h k gives few told
    least within rest meant =
    absurd meant

-- the head stays the same when more is given
pub told_later : (before : State) (head : BlockHead) (xs given : List ℕ) → 12 ≤ length xs
    → head_by before.order xs ≡ Some head → head_by before.order (xs ++ given) ≡ Some head
told_later before head xs given held told = head_by-append before.order xs given held ∙ told

both : (xs ys : List ℕ) → length (xs ++ ys) ≡ length xs + length ys
both xs ys = grind (arith, common_steps)

pub told_in_all : (old new : Standing) (before : State) (head : BlockHead) → Passes old new [] → 12 ≤ length old.held
    → head_by before.order old.held ≡ Some head → head_by before.order new.held ≡ Some head
told_in_all old new before head passes held told =
    ap (head_by before.order) (sym passes.parts) ∙ told_later before head old.held passes.given held told

-- the block was held whole
pub TellsBlock-held : (result : Result Progress RunFault) (old mid new : Standing) (before after : State)
    (item : Numbered)
    (head : BlockHead) → before.form ≡ Some form.Pcapng → after.form ≡ before.form → Passes old mid []
    → before.blocks < most_numbers → head_by before.order mid.held ≡ Some head → 12 ≤ head.size
    → head.size ≤ length mid.held → new.left ≡ mid.left → new.over ≡ mid.over → new.calls ≡ mid.calls
    → OnOk result (new.held ≡ drop head.size mid.held)
    → Meant (block_meaning before (take head.size mid.held)) result after item
    → TellsBlock result old new before after item
TellsBlock-held result old mid new before after item head h k passes few told least within left over calls rest meant =
    let all : old.held ++ passes.given ≡ mid.held = passes.parts in
    TellsBlock-meant result old new before after item head passes.given h k
    (Gives-same old mid new passes.given passes.gives left over calls) few (rw all told) least (rw all within)
    (rw all rest) (rw all meant)

behind_passed : (passed rest : List ℕ) (n : ℕ) → length passed + 4 ≡ n → drop n (passed ++ rest) ≡ drop 4 rest
behind_passed passed rest n h = rw (← h) (drop-append-add passed rest 4)

-- it was passed but for its last bytes
pub TellsBlock-skipped : (result : Result Progress RunFault) (old mid new : Standing)
    (before after : State) (item : Numbered)
    (head : BlockHead) (passed : List ℕ) → before.form ≡ Some form.Pcapng → after.form ≡ before.form
    → Passes old mid passed → before.blocks < most_numbers → 12 ≤ length old.held
    → head_by before.order old.held ≡ Some head → 12 ≤ head.size → length passed + 4 ≡ head.size
    → 4 ≤ length mid.held → new.left ≡ mid.left → new.over ≡ mid.over → new.calls ≡ mid.calls
    → OnOk result (new.held ≡ drop 4 mid.held)
    → Meant (block_meaning before (take head.size (passed ++ mid.held))) result after item
    → TellsBlock result old new before after item
TellsBlock-skipped result old mid new before after item head passed h k passes few held told least size within left over
    calls rest meant =
    let all : old.held ++ passes.given ≡ passed ++ mid.held = passes.parts in
    let long : head.size ≤ length (passed ++ mid.held) = omega (arith, both passed mid.held, size, within) in
    TellsBlock-meant result old new before after item head passes.given h k
    (Gives-same old mid new passes.given passes.gives left over calls) few
    (told_later before head old.held passes.given held told) least (rw all long)
    (rw (all, behind_passed passed mid.held head.size size) rest) (rw all meant)

pub told_behind : (old new : Standing) (before : State) (head : BlockHead) (passed : List ℕ) → Passes old new passed
    → 12 ≤ length old.held → head_by before.order old.held ≡ Some head
    → head_by before.order (passed ++ new.held) ≡ Some head
told_behind old new before head passed passes held told =
    ap (head_by before.order) (sym passes.parts) ∙ told_later before head old.held passes.given held told

-- the input ended within the block
pub SaysEnding-within : (old new : Standing) (before : State) (head : BlockHead) (passed : List ℕ)
    → before.form ≡ Some form.Pcapng → (passes : Passes old new passed) → new.ended ≡ true
    → before.blocks < most_numbers → 12 ≤ length old.held → head_by before.order old.held ≡ Some head
    → 12 ≤ head.size → length passed + length new.held < head.size
    → SaysEnding old new before (Faulted (Ended before.numbers)) (totals_by before)
SaysEnding-within old new before head passed h passes ended few held told least short =
    let all : old.held ++ passes.given ≡ passed ++ new.held = passes.parts in
    let size : length (old.held ++ passes.given) ≡ length passed + length new.held =
    ap (λ (bytes : List ℕ). length bytes) all ∙ both passed new.held in
    let long : 12 ≤ length (old.held ++ passes.given) =
    let parts = both old.held passes.given in omega (arith, parts, held) in
    SaysEnding-block old new before form.Pcapng (Faulted (Ended before.numbers)) passes.given h passes.gives
    (λ more follows. rw (follows ended, append-nil (old.held ++ passes.given))
    (cut before head (old.held ++ passes.given) few (told_later before head old.held passes.given held told) least long
    (omega (arith, size, short))))

-- it failed there
pub SaysNothing-within : (old new : Standing) (before : State) (head : BlockHead) (passed : List ℕ)
    → before.form ≡ Some form.Pcapng → (passes : Passes old new passed)
    → before.blocks < most_numbers → 12 ≤ length old.held → head_by before.order old.held ≡ Some head
    → 12 ≤ head.size → length passed + length new.held < head.size → SaysNothing old new before
SaysNothing-within old new before head passed h passes few held told least short =
    let all : old.held ++ passes.given ≡ passed ++ new.held = passes.parts in
    let size : length (old.held ++ passes.given) ≡ length passed + length new.held =
    ap (λ (bytes : List ℕ). length bytes) all ∙ both passed new.held in
    let long : 12 ≤ length (old.held ++ passes.given) =
    let parts = both old.held passes.given in omega (arith, parts, held) in
    SaysNothing-block old new before form.Pcapng (Faulted (Ended before.numbers)) passes.given h passes.gives
    (cut before head (old.held ++ passes.given) few (told_later before head old.held passes.given held told) least long
    (omega (arith, size, short))) refl

-- the head can't be right
pub SaysEnding-bad_head : (old : Standing) (before : State) → before.form ≡ Some form.Pcapng → 12 ≤ length old.held
    → block_rest before old.held ≡ None
    → SaysEnding old old before (Faulted (Damaged before.numbers)) (totals_by before)
SaysEnding-bad_head old before h held told =
    SaysEnding-block old old before form.Pcapng (Faulted (Damaged before.numbers)) [] h (Gives-nothing old)
    (λ more _.
    let size : length (old.held ++ more) ≡ length old.held + length more = both old.held more in
    rw (append-nil old.held)
    (next_block-wrong 12 (block_rest before) (block_meaning before) before.numbers (old.held ++ more) (omega arith)
    (rest_in_front before old.held more held ∙ told) (omega (arith, size, held))))

-- less than a head is held
short_head : (before : State) (xs : List ℕ) → 0 < length xs → length xs < 12
    → step_by (Some form.Pcapng) before xs ≡ Ends (Faulted (Ended before.numbers))
short_head before xs some few = next_block-short 12 (block_rest before)
    (block_meaning before) before.numbers xs some few

-- nothing is held
over : (before : State) (xs : List ℕ) → length xs ≡ 0 → step_by (Some form.Pcapng) before xs ≡ Ends Over
over before xs none = next_block-over 12 (block_rest before) (block_meaning before) before.numbers xs none

pub SaysEnding-blocks : (old new : Standing) (before : State) → before.form ≡ Some form.Pcapng → Passes old new []
    → new.ended ≡ true → length new.held ≡ 0 → SaysEnding old new before Over (totals_by before)
SaysEnding-blocks old new before h passes ended none =
    SaysEnding-here old new before form.Pcapng Over h passes ended (over before new.held none)

pub SaysEnding-head : (old new : Standing) (before : State) → before.form ≡ Some form.Pcapng → Passes old new []
    → new.ended ≡ true → 0 < length new.held → length new.held < 12
    → SaysEnding old new before (Faulted (Ended before.numbers)) (totals_by before)
SaysEnding-head old new before h passes ended some few =
    SaysEnding-here old new before form.Pcapng (Faulted (Ended before.numbers)) h passes ended
    (short_head before new.held some few)

pub SaysNothing-head : (old new : Standing) (before : State) → before.form ≡ Some form.Pcapng → Passes old new []
    → length new.held < 12 → SaysNothing old new before
SaysNothing-head old new before h passes few = by (ltb 0 (length new.held)) refl
  where
    all : old.held ++ passes.given ≡ new.held
    all = passes.parts

    by : (b : Bool) → ltb 0 (length new.held) ≡ b → SaysNothing old new before
    by true e = SaysNothing-block old new before form.Pcapng (Faulted (Ended before.numbers)) passes.given h
        passes.gives (rw all (short_head before new.held (grind (arith, e)) few)) refl
    by false e = SaysNothing-block old new before form.Pcapng Over passes.given h
        passes.gives (rw all (over before new.held (grind (arith, e)))) refl

-- what is held doesn't fail to be read
pub Meant-not_read : (meaning : Meaning) (result : Result Progress RunFault) (after : State) (item : Numbered)
    → Meant meaning result after item → is_failed_read result ≡ false
Meant-not_read meaning (Ok progress.Given) after item meant = refl
Meant-not_read meaning (Ok progress.NotYet) after item meant = refl
Meant-not_read meaning (Err (run.Recording f)) after item meant = refl
Meant-not_read meaning (Err run.Memory) after item meant = refl
Meant-not_read meaning (Err run.Read) after item meant = absurd meant
Meant-not_read meaning (Err run.Write) after item meant = refl
Meant-not_read meaning (Err (run.BadLine n)) after item meant = refl
Meant-not_read meaning (Err (run.BadHex n)) after item meant = refl
Meant-not_read meaning (Err (run.TimeBack n)) after item meant = refl
Meant-not_read meaning (Err (run.TimeTooLarge n)) after item meant = refl
Meant-not_read meaning (Err (run.BadPort n)) after item meant = refl
Meant-not_read meaning (Err (run.Of n)) after item meant = refl
Meant-not_read meaning (Err (run.LineTooLong n)) after item meant = refl
Meant-not_read meaning (Err run.TooManyLines) after item meant = refl
