-- Frames of a pcap, by what is held.
use Rattle.std.proofs.Common.{◌≡◌, ℕ, ◌+◌, ◌<◌, ◌≤◌, Bool, true, false, ltb, List, [], ◌++◌, length, take, drop}
use Rattle.std.proofs.Common.{refl, ap, sym, ◌∙◌, arith, Some, None}
use Rattle.std.proofs.lemmas.List.{take-append-le, drop-take}
use Rattle.std.proofs.lemmas.Grind.{common_steps}
use Rattle.afdx_input_lines.specs.declared.recording_fault.RecordingFault.TheVariants.{Damaged, Ended}
use Rattle.afdx_input_files.specs.declared.form.PcapForm.{PcapForm}
use Rattle.afdx_input_files.specs.declared.form.Form.TheVariants as form
use Rattle.afdx_input_files.specs.declared.order.Order.{Order}
use Rattle.afdx_input_files.specs.declared.recorded.Recorded.{Recorded}
use Rattle.afdx_input_files.specs.declared.recorded.Recorded.TheVariants.{Frame}
use Rattle.afdx_input_files.specs.Holding.{Standing, Passes}
use Rattle.afdx_input_files.specs.Recordings.{State, Ends, Takes, Over, Faulted, Numbered, by_meaning}
use Rattle.afdx_input_files.specs.Recordings.{totals_by, after_number}
use Rattle.afdx_input_files.specs.Pcap.{captured_by, packet_meaning, pcap_frame}
use Rattle.afdx_input_files.specs.Reading.{step_by, SaysFirst, SaysEnding, SaysNothing}
use Rattle.afdx_input_files.proofs.OrderLemmas.{number_at-append, number_at-take}
use Rattle.afdx_input_files.proofs.HeldLemmas.{Gives-same}
use Rattle.afdx_input_files.proofs.BlockLemmas.{next_block-whole, next_block-wrong, next_block-short, next_block-cut, next_block-over}
use Rattle.afdx_input_files.proofs.ReadingLemmas.{SaysFirst-block, SaysEnding-block, SaysEnding-here, SaysNothing-block}

captured_by-take : (state : State) (xs : List ℕ) → 16 ≤ length xs
    → captured_by state (take 16 xs) ≡ captured_by state xs
unfolding captured_by
captured_by-take state xs within = rw (number_at-take state.order 4 8 16 xs (omega arith) within) refl

pcap_frame-take : (pcap : PcapForm) (order : Order) (m : ℕ) (xs : List ℕ) → 16 ≤ m → m ≤ length xs
    → pcap_frame pcap order (take m xs) ≡ pcap_frame pcap order xs
unfolding pcap_frame
pcap_frame-take pcap order m xs h within = rw (
  number_at-take order 4 0 m xs (omega arith) within,
  number_at-take order 4 4 m xs (omega arith) within,
  number_at-take order 4 12 m xs (omega arith) within,
) refl

-- the header tells the same, whatever follows
captured_by-front : (state : State) (xs more : List ℕ) → 16 ≤ length xs
    → captured_by state (take 16 (xs ++ more)) ≡ captured_by state xs
captured_by-front state xs more within = ap (captured_by state) (take-append-le 16 xs more within)
    ∙ captured_by-take state xs within

-- the frame stands whole
packet_stands : (before : State) (pcap : PcapForm) (n : ℕ) (xs more : List ℕ)
    → captured_by before xs ≡ Some n → 16 + n ≤ length xs
    → step_by (Some (form.Pcap pcap)) before (xs ++ more) ≡ Takes (16 + n) (after_number before) (Some (record {
      what = Frame (pcap_frame pcap before.order xs);
      bytes = take n (drop 16 xs);
    }))
unfolding packet_meaning
packet_stands before pcap n xs more told within =
    let size : length (xs ++ more) ≡ length xs + length more = grind (arith, common_steps) in
    next_block-whole 16 (captured_by before) (packet_meaning pcap before) before.numbers (xs ++ more) n
    (omega arith) (captured_by-front before xs more (omega arith) ∙ told) (omega (arith, size))
    ∙ ap (λ (bytes : List ℕ). by_meaning (16 + n) (packet_meaning pcap before bytes))
    (take-append-le (16 + n) xs more within)
    ∙ rw (pcap_frame-take pcap before.order (16 + n) xs (omega arith) within, drop-take 16 n xs) refl

pub SaysFirst-packet : (old mid new : Standing) (before after : State) (pcap : PcapForm) (n : ℕ) (item : Numbered)
    → before.form ≡ Some (form.Pcap pcap) → after ≡ after_number before → Passes old mid []
    → captured_by before mid.held ≡ Some n → 16 + n ≤ length mid.held
    → new.held ≡ drop (16 + n) mid.held → new.left ≡ mid.left → new.over ≡ mid.over → new.calls ≡ mid.calls
    → item ≡ record { what = Frame (pcap_frame pcap before.order mid.held); bytes = take n (drop 16 mid.held) }
    → SaysFirst old new before after item
SaysFirst-packet old mid new before after pcap n item h e passes told within rest left over calls is =
    let all : old.held ++ passes.given ≡ mid.held = passes.parts in
    SaysFirst-block old new before after (form.Pcap pcap) item (16 + n) passes.given h (rw e h)
    (Gives-same old mid new passes.given passes.gives left over calls)
    (λ more. rw (all, e, is) (packet_stands before pcap n mid.held more told within))
    (rw all within) (rw all rest)

-- a frame that can't be right
pub SaysEnding-wrong : (old new : Standing) (before : State) (pcap : PcapForm)
    → before.form ≡ Some (form.Pcap pcap) → Passes old new [] → captured_by before new.held ≡ None
    → 16 ≤ length new.held → SaysEnding old new before (Faulted (Damaged before.numbers)) (totals_by before)
SaysEnding-wrong old new before pcap h passes told within =
    let all : old.held ++ passes.given ≡ new.held = passes.parts in
    SaysEnding-block old new before (form.Pcap pcap) (Faulted (Damaged before.numbers)) passes.given h passes.gives
    (λ more _.
    let size : length (new.held ++ more) ≡ length new.held + length more = grind (arith, common_steps) in
    rw all (next_block-wrong 16 (captured_by before) (packet_meaning pcap before) before.numbers (new.held ++ more)
    (omega arith) (captured_by-front before new.held more within ∙ told) (omega (arith, size))))

-- less than a header is held
short : (before : State) (pcap : PcapForm) (xs : List ℕ) → 0 < length xs → length xs < 16
    → step_by (Some (form.Pcap pcap)) before xs ≡ Ends (Faulted (Ended before.numbers))
short before pcap xs some few =
    next_block-short 16 (captured_by before) (packet_meaning pcap before) before.numbers xs some few

-- less than the frame is held
cut : (before : State) (pcap : PcapForm) (n : ℕ) (xs : List ℕ) → captured_by before xs ≡ Some n
    → 16 ≤ length xs → length xs < 16 + n
    → step_by (Some (form.Pcap pcap)) before xs ≡ Ends (Faulted (Ended before.numbers))
cut before pcap n xs told within few =
    next_block-cut 16 (captured_by before) (packet_meaning pcap before) before.numbers xs n (omega arith)
    (captured_by-take before xs within ∙ told) within few

pub SaysEnding-short : (old new : Standing) (before : State) (pcap : PcapForm)
    → before.form ≡ Some (form.Pcap pcap) → Passes old new [] → new.ended ≡ true
    → 0 < length new.held → length new.held < 16
    → SaysEnding old new before (Faulted (Ended before.numbers)) (totals_by before)
SaysEnding-short old new before pcap h passes ended some few =
    SaysEnding-here old new before (form.Pcap pcap) (Faulted (Ended before.numbers)) h passes ended
    (short before pcap new.held some few)

pub SaysEnding-over : (old new : Standing) (before : State) (pcap : PcapForm)
    → before.form ≡ Some (form.Pcap pcap) → Passes old new [] → new.ended ≡ true
    → length new.held ≡ 0 → SaysEnding old new before Over (totals_by before)
SaysEnding-over old new before pcap h passes ended none =
    SaysEnding-here old new before (form.Pcap pcap) Over h passes ended
    (next_block-over 16 (captured_by before) (packet_meaning pcap before) before.numbers new.held none)

pub SaysEnding-cut : (old new : Standing) (before : State) (pcap : PcapForm) (n : ℕ)
    → before.form ≡ Some (form.Pcap pcap) → Passes old new [] → new.ended ≡ true
    → captured_by before new.held ≡ Some n → 16 ≤ length new.held → length new.held < 16 + n
    → SaysEnding old new before (Faulted (Ended before.numbers)) (totals_by before)
SaysEnding-cut old new before pcap n h passes ended told within few =
    SaysEnding-here old new before (form.Pcap pcap) (Faulted (Ended before.numbers)) h passes ended
    (cut before pcap n new.held told within few)

-- the input failed there
pub SaysNothing-short : (old new : Standing) (before : State) (pcap : PcapForm)
    → before.form ≡ Some (form.Pcap pcap) → Passes old new [] → length new.held < 16
    → SaysNothing old new before
SaysNothing-short old new before pcap h passes few = by (ltb 0 (length new.held)) refl
  where
    all : old.held ++ passes.given ≡ new.held
    all = passes.parts

    by : (b : Bool) → ltb 0 (length new.held) ≡ b → SaysNothing old new before
    by true e = SaysNothing-block old new before (form.Pcap pcap) (Faulted (Ended before.numbers)) passes.given h
        passes.gives (rw all (short before pcap new.held (grind (arith, e)) few)) refl
    by false e = SaysNothing-block old new before (form.Pcap pcap) Over passes.given h
        passes.gives (rw all (next_block-over 16 (captured_by before) (packet_meaning pcap before) before.numbers
        new.held (grind (arith, e)))) refl

pub SaysNothing-cut : (old new : Standing) (before : State) (pcap : PcapForm) (n : ℕ)
    → before.form ≡ Some (form.Pcap pcap) → Passes old new [] → captured_by before new.held ≡ Some n
    → 16 ≤ length new.held → length new.held < 16 + n → SaysNothing old new before
SaysNothing-cut old new before pcap n h passes told within few =
    let all : old.held ++ passes.given ≡ new.held = passes.parts in
    SaysNothing-block old new before (form.Pcap pcap) (Faulted (Ended before.numbers)) passes.given h
    passes.gives (rw all (cut before pcap n new.held told within few)) refl

captured_by-append : (state : State) (xs ys : List ℕ) → 16 ≤ length xs
    → captured_by state (xs ++ ys) ≡ captured_by state xs
unfolding captured_by
captured_by-append state xs ys within = rw (number_at-append state.order 4 8 xs ys (omega arith)) refl

-- it tells the same when more is held
pub captured_by-later : (state : State) (old new : Standing) → Passes old new [] → 16 ≤ length old.held
    → (16 ≤ length new.held) × (captured_by state new.held ≡ captured_by state old.held)
captured_by-later state old new passes within =
    let all : old.held ++ passes.given ≡ new.held = passes.parts in
    let size : length (old.held ++ passes.given) ≡ length old.held + length passes.given = grind
    (arith, common_steps) in (
      rw (← all) (omega (arith, size)),
      ap (captured_by state) (sym all) ∙ captured_by-append state old.held passes.given within,
    )

pub numbered : (item : Numbered) (what : Recorded) (bytes : List ℕ) → item.what ≡ what → item.bytes ≡ bytes
    → item ≡ record { what = what; bytes = bytes }
numbered item what bytes h k = rw (← h, ← k) refl
