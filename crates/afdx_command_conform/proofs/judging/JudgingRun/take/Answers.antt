use Rattle.std.proofs.Common.{arith, false, sym, true, ◌∙◌}
use Rattle.afdx_command_conform.proofs.ToldLemmas.{missed-in, missed-next, missed-out, on-ok}
use Rattle.std.proofs.Common.{◌≡◌, ◌<◌, ◌≤◌, ◌∷◌, ℕ, List, length, refl, ap, subst}
use Rattle.std.specs.Prelude.{OnOk}
use Rattle.afdx_config.specs.Rows.{Rows}
use Rattle.afdx_conform.specs.LimitRanges.{most_bytes}
use Rattle.afdx_input_runs.specs.Joining.{Frame}
use Rattle.afdx_input_lines.specs.declared.role.Role.TheVariants.{Came, Left}
use Rattle.afdx_police.specs.Arrival.{arrival_with}
use Rattle.afdx_command_conform.specs.Choices.{Choices, counts, is_in_time, is_passed}
use Rattle.afdx_command_conform.specs.Frames.{frame_with}
use Rattle.afdx_command_conform.specs.Standing.{StreamsStand, seen_by}
use Rattle.afdx_command_conform.proofs.FullLemmas.{behind-later, does-count, out-of-choice, out-of-time, next-on, running-then, stand-skipped, stands-next, too-long}
use Rattle.afdx_command_conform.specs.Told.{choices_in}
use Rattle.afdx_input_sources.specs.Engine.{item_of}
use Rattle.afdx_frame.specs.Layout.{link_named_by}
use Rattle.afdx_frame.specs.Parts.{bytes_of}
use Rattle.afdx_input_runs.specs.Joining.{frame_of}
use Rattle.afdx_command_conform.proofs.judging.JudgingRun.take.Goals as goal

pub returns-then-not-is_in_time-clause-counted : goal.returns-then-not-is_in_time-clause-counted
returns-then-not-is_in_time-clause-counted c = λ frames before.
    let t = c.args.self.now.streams.tables.now in
    let k = choices_in c.args.self.now in
    let x = frame_of (item_of c.args.n c.args.seen.now c.args.message.now) in
    missed-next t k x frames c.args.self.now.left_out c.args.self.now.left_out false
    (missed-out t k x (sym (c.is_in_time.ensures
    (seen_by c.args.self.now.streams) c.args.message.now c.args.n) ∙ c.if-not-is_in_time.true)) before
    (let b = before in omega (arith, b))

pub returns-then-is_passed-clause-counted : goal.returns-then-is_passed-clause-counted
returns-then-is_passed-clause-counted c = λ frames before.
    let t = c.args.self.now.streams.tables.now in
    let k = choices_in c.args.self.now in
    let x = frame_of (item_of c.args.n c.args.seen.now c.args.message.now) in
    missed-next t k x frames c.args.self.now.left_out c.saturating_add-self.result true
    (missed-in t k x true (sym (c.is_in_time.ensures
    (seen_by c.args.self.now.streams) c.args.message.now c.args.n) ∙ c.if-not-is_in_time.false)
    (sym (c.is_passed.ensures x refl refl refl c.frame-frame.ensures (c.in_ok-vl.ensures
    ∙ ap link_named_by c.frame-frame.ensures)
    (c.place_named-named.ensures.place x.arrival.bytes (c.in_ok-vl.ensures
    ∙ ap link_named_by c.frame-frame.ensures))) ∙ c.if-is_passed.true)) before
    c.saturating_add-self.ensures

pub returns-in-Came-clause-counted : goal.returns-in-Came-clause-counted
returns-in-Came-clause-counted c = λ frames before.
    let t = c.args.self.now.streams.tables.now in
    let k = choices_in c.args.self.now in
    let x = frame_of (item_of c.args.n c.args.seen.now c.args.message.now) in
    on-ok c.came.result _
    (missed-next t k x frames c.args.self.now.left_out c.args.self.now.left_out false
    (missed-in t k x false (sym (c.is_in_time.ensures
    (seen_by c.args.self.now.streams) c.args.message.now c.args.n) ∙ c.if-not-is_in_time.false)
    (sym (c.is_passed.ensures x refl refl refl c.frame-frame.ensures (c.in_ok-vl.ensures
    ∙ ap link_named_by c.frame-frame.ensures)
    (c.place_named-named.ensures.place x.arrival.bytes (c.in_ok-vl.ensures
    ∙ ap link_named_by c.frame-frame.ensures))) ∙ c.if-is_passed.false)) before
    (let b = before in omega (arith, b)))

pub returns-in-Left-clause-counted : goal.returns-in-Left-clause-counted
returns-in-Left-clause-counted c = λ frames before.
    let t = c.args.self.now.streams.tables.now in
    let k = choices_in c.args.self.now in
    let x = frame_of (item_of c.args.n c.args.seen.now c.args.message.now) in
    on-ok c.left.result _
    (missed-next t k x frames c.args.self.now.left_out c.args.self.now.left_out false
    (missed-in t k x false (sym (c.is_in_time.ensures
    (seen_by c.args.self.now.streams) c.args.message.now c.args.n) ∙ c.if-not-is_in_time.false)
    (sym (c.is_passed.ensures x refl refl refl c.frame-frame.ensures (c.in_ok-vl.ensures
    ∙ ap link_named_by c.frame-frame.ensures)
    (c.place_named-named.ensures.place x.arrival.bytes (c.in_ok-vl.ensures
    ∙ ap link_named_by c.frame-frame.ensures))) ∙ c.if-is_passed.false)) before
    (let b = before in omega (arith, b)))

pub returns-then-length-gt-MOST_BYTES-clause-counted : goal.returns-then-length-gt-MOST_BYTES-clause-counted
returns-then-length-gt-MOST_BYTES-clause-counted c = λ frames before.
    let t = c.args.self.now.streams.tables.now in
    let k = choices_in c.args.self.now in
    let x = frame_of (item_of c.args.n c.args.seen.now c.args.message.now) in
    missed-next t k x frames c.args.self.now.left_out c.args.self.now.left_out false
    (missed-in t k x false (sym (c.is_in_time.ensures
    (seen_by c.args.self.now.streams) c.args.message.now c.args.n) ∙ c.if-not-is_in_time.false)
    (sym (c.is_passed.ensures x refl refl refl c.frame-frame.ensures (c.in_ok-vl.ensures
    ∙ ap link_named_by c.frame-frame.ensures)
    (c.place_named-named.ensures.place x.arrival.bytes (c.in_ok-vl.ensures
    ∙ ap link_named_by c.frame-frame.ensures))) ∙ c.if-is_passed.false)) before
    (let b = before in omega (arith, b))

pub returns-then-not-is_in_time-clause-stands : goal.returns-then-not-is_in_time-clause-stands
returns-then-not-is_in_time-clause-stands c k frames dues same-tables chosen latest few stands =
    let x : Frame = frame_of (item_of c.args.n c.args.seen.now c.args.message.now) in
    stands-next k frames x c.args.self.now c.args.self.now dues latest
    (λ until s. stand-skipped k.0 k.1 until x.arrival.time x frames dues c.args.self.now.streams
    (out-of-time k.0 k.1 x (subst (λ o. is_in_time o x ≡ false) chosen (sym
    (c.is_in_time.ensures (seen_by c.args.self.now.streams) c.args.message.now c.args.n)
    ∙ c.if-not-is_in_time.true))) s) refl stands

pub returns-then-is_passed-clause-stands : goal.returns-then-is_passed-clause-stands
returns-then-is_passed-clause-stands c k frames dues same-tables chosen latest few stands =
    let x : Frame = frame_of (item_of c.args.n c.args.seen.now c.args.message.now) in
    stands-next k frames x c.args.self.now _ dues latest
    (λ until s. stand-skipped k.0 k.1 until x.arrival.time x frames dues c.args.self.now.streams
    (out-of-choice k.0 k.1 x (subst (λ o. is_passed k.0 o x ≡ true) chosen
    (subst (λ t. is_passed t (choices_in c.args.self.now) x
    ≡ true) same-tables
    (sym (c.is_passed.ensures x refl refl refl c.frame-frame.ensures (c.in_ok-vl.ensures
    ∙ ap link_named_by c.frame-frame.ensures)
    (c.place_named-named.ensures.place x.arrival.bytes (c.in_ok-vl.ensures
    ∙ ap link_named_by c.frame-frame.ensures))) ∙ c.if-is_passed.true)))) s) refl stands

pub returns-then-length-gt-MOST_BYTES-clause-stands : goal.returns-then-length-gt-MOST_BYTES-clause-stands
returns-then-length-gt-MOST_BYTES-clause-stands c k frames dues same-tables chosen latest few stands =
    let x : Frame = frame_of (item_of c.args.n c.args.seen.now c.args.message.now) in
    stands-next k frames x c.args.self.now c.args.self.now dues latest
    (λ until s. stand-skipped k.0 k.1 until x.arrival.time x frames dues c.args.self.now.streams
    (too-long k.0 k.1 x
    (subst (λ (b : List ℕ). most_bytes < length b) c.frame-frame.ensures
    (let l = c.length.ensures in let test = c.if-length-gt-MOST_BYTES.true in omega (arith, l, test)))) s) refl
    stands

pub returns-in-Came-clause-stands : goal.returns-in-Came-clause-stands
returns-in-Came-clause-stands c k frames dues same-tables chosen latest few stands =
    let h = c.args.seen.now.heading in
    let x : Frame = frame_of (item_of c.args.n c.args.seen.now c.args.message.now) in
    let in-time : is_in_time k.1 x ≡ true = subst (λ (o : Choices). is_in_time o x ≡ true) chosen
    (sym (c.is_in_time.ensures (seen_by c.args.self.now.streams) c.args.message.now c.args.n)
    ∙ c.if-not-is_in_time.false) in
    let out : is_passed k.0 k.1 x ≡ false = subst (λ (o : Choices). is_passed k.0 o x ≡ false) chosen
    (subst (λ (t : Rows). is_passed t (choices_in c.args.self.now) x ≡ false) same-tables
    (sym (c.is_passed.ensures x refl refl refl c.frame-frame.ensures (c.in_ok-vl.ensures
    ∙ ap link_named_by c.frame-frame.ensures)
    (c.place_named-named.ensures.place x.arrival.bytes (c.in_ok-vl.ensures
    ∙ ap link_named_by c.frame-frame.ensures))) ∙ c.if-is_passed.false)) in
    let none = running-then k frames x c.args.self.now dues in-time stands in
    let bytes : List ℕ = bytes_of c.frame-frame.result in
    let same : frame_with Came (arrival_with c.args.n h.time h.side h.port bytes) ≡ x =
    ap (λ r. frame_with r (arrival_with c.args.n h.time h.side h.port bytes)) (sym c.in-Came.is)
    ∙ ap (λ b. frame_with c.args.seen.now.role (arrival_with c.args.n h.time h.side h.port b))
    c.frame-frame.ensures in
    let count = does-count k.0 k.1 x in-time out (subst (λ (b : List ℕ). length b ≤ most_bytes) c.frame-frame.ensures
    (let l = c.length.ensures in let test = c.if-length-gt-MOST_BYTES.false in omega (arith, l, test))) in
    next-on c.came.result k frames x c.args.self.now _ dues latest
    (λ until s. subst (λ f. OnOk c.came.result (StreamsStand k.0 k.1 until (f ∷ frames) dues h.time
    c.came.new.self)) same
    (c.came.ensures.stands k.0 k.1 until h.time frames dues
    (c.place_named-named.ensures.place bytes (c.in_ok-vl.ensures))
    (ap (λ f. counts k.0 k.1 f) same ∙ count) (omega arith)
    (behind-later frames h.time latest stands.by_time) few none s)) c.came.ensures.ended stands

pub returns-in-Left-clause-stands : goal.returns-in-Left-clause-stands
returns-in-Left-clause-stands c k frames dues same-tables chosen latest few stands =
    let h = c.args.seen.now.heading in
    let x : Frame = frame_of (item_of c.args.n c.args.seen.now c.args.message.now) in
    let in-time : is_in_time k.1 x ≡ true = subst (λ (o : Choices). is_in_time o x ≡ true) chosen
    (sym (c.is_in_time.ensures (seen_by c.args.self.now.streams) c.args.message.now c.args.n)
    ∙ c.if-not-is_in_time.false) in
    let out : is_passed k.0 k.1 x ≡ false = subst (λ (o : Choices). is_passed k.0 o x ≡ false) chosen
    (subst (λ (t : Rows). is_passed t (choices_in c.args.self.now) x ≡ false) same-tables
    (sym (c.is_passed.ensures x refl refl refl c.frame-frame.ensures (c.in_ok-vl.ensures
    ∙ ap link_named_by c.frame-frame.ensures)
    (c.place_named-named.ensures.place x.arrival.bytes (c.in_ok-vl.ensures
    ∙ ap link_named_by c.frame-frame.ensures))) ∙ c.if-is_passed.false)) in
    let none = running-then k frames x c.args.self.now dues in-time stands in
    let bytes : List ℕ = bytes_of c.frame-frame.result in
    let same : frame_with Left (arrival_with c.args.n h.time h.side h.port bytes) ≡ x =
    ap (λ r. frame_with r (arrival_with c.args.n h.time h.side h.port bytes)) (sym c.in-Left.is)
    ∙ ap (λ b. frame_with c.args.seen.now.role (arrival_with c.args.n h.time h.side h.port b)) c.frame-frame.ensures in
    let count = does-count k.0 k.1 x in-time out (subst (λ (b : List ℕ). length b ≤ most_bytes) c.frame-frame.ensures
    (let l = c.length.ensures in let test = c.if-length-gt-MOST_BYTES.false in omega (arith, l, test))) in
    next-on c.left.result k frames x c.args.self.now _ dues latest
    (λ until s. subst (λ f. OnOk c.left.result (StreamsStand k.0 k.1 until (f ∷ frames) dues h.time
    c.left.new.self)) same
    (c.left.ensures.stands k.0 k.1 until h.time frames dues
    (c.place_named-named.ensures.place bytes c.in_ok-vl.ensures)
    (ap (λ f. counts k.0 k.1 f) same ∙ count) (omega arith)
    (behind-later frames h.time latest stands.by_time) few none s)) c.left.ensures.ended stands
