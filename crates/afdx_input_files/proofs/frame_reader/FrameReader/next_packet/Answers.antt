use Rattle.std.proofs.Common.{rules, arith, ◌≡◌, ◌+◌, ◌-◌, [], ℕ, Err, take, drop}
use Rattle.std.proofs.Common.{refl, ap, ◌∙◌}
use Rattle.afdx_input_files.specs.Holding.{unread, standing}
use Rattle.afdx_input_files.specs.declared.recorded.Recorded.TheVariants.{Frame}
use Rattle.afdx_input_files.specs.Pcap.{pcap_frame}
use Rattle.afdx_input_files.specs.Recordings.{totals_by}
use Rattle.afdx_input_files.specs.Reading.{state_of}
use Rattle.afdx_input_files.proofs.HeldLemmas.{Passes-then, Passes-gives}
use Rattle.afdx_input_files.proofs.PacketLemmas.{SaysFirst-packet, SaysEnding-wrong, SaysEnding-short, SaysEnding-over, SaysEnding-cut}
use Rattle.afdx_input_files.proofs.PacketLemmas.{SaysNothing-short, SaysNothing-cut, captured_by-later, numbered}
use Rattle.afdx_input_files.proofs.ReadingLemmas.{Tells-of_reading, Tells-end}
use Rattle.afdx_input_files.proofs.frame_reader.FrameReader.next_packet.Goals as goal

pub returns-in_err-fill-clause-tells : goal.returns-in_err-fill-clause-tells
returns-in_err-fill-clause-tells g c =
    let e : c.from_residual.result ≡ Err c.in_err-fill.field-0.0 = search rules in
    rw e (Tells-of_reading c.in_err-fill.field-0.0 _ _ _ _ _ c.in_err-fill.ensures.fault
    (Passes-gives _ _ _ c.fill.ensures.passes)
    (λ is. SaysNothing-short _ _ _ c.args.form c.requires.form c.fill.ensures.passes (c.in_err-fill.ensures.few is)))

pub returns-in-Ended-clause-tells : goal.returns-in-Ended-clause-tells
returns-in-Ended-clause-tells g c =
    let last = c.fill.ensures.last (search rules) in
    Tells-end c.end.result _ _ _ _ _ last.0 c.end.ensures.over c.end.ensures.ended
    (λ none. SaysEnding-over _ _ _ c.args.form c.requires.form c.fill.ensures.passes last.0 none)
    (λ some. SaysEnding-short _ _ _ c.args.form c.requires.form c.fill.ensures.passes last.0 some last.1)

pub returns-in_err-length-clause-tells : goal.returns-in_err-length-clause-tells
returns-in_err-length-clause-tells g c =
    let e : c.from_residual-in_err-length.result ≡ Err c.in_err-length.field-0.0 = search rules in
    let told = c.in_err-length.ensures.told in
    rw (e, told.0) (
      totals_by (state_of c.args.self.now),
      SaysEnding-wrong _ _ _ c.args.form c.requires.form c.fill.ensures.passes told.1
          (c.fill.ensures.enough (search rules)),
    )

pub returns-in_err-fill-2-clause-tells : goal.returns-in_err-fill-2-clause-tells
returns-in_err-fill-2-clause-tells g c =
    let e : c.from_residual-in_err-fill-2.result ≡ Err c.in_err-fill-2.field-0.0 = search rules in
    let within = c.fill.ensures.enough (search rules) in
    let later = captured_by-later (state_of c.args.self.now) _ _ c.fill-2.ensures.passes within in
    rw e (Tells-of_reading c.in_err-fill-2.field-0.0 _ _ _ _ _ c.in_err-fill-2.ensures.fault
    (Passes-gives _ _ _ (Passes-then _ _ _ [] [] c.fill.ensures.passes c.fill-2.ensures.passes))
    (λ is. SaysNothing-cut _ _ _ c.args.form c.in_ok-length.field-0 c.requires.form
    (Passes-then _ _ _ [] [] c.fill.ensures.passes c.fill-2.ensures.passes)
    (later.1 ∙ c.in_ok-length.ensures.told) later.0 (c.in_err-fill-2.ensures.few is)))

pub returns-in-Ended-2-clause-tells : goal.returns-in-Ended-2-clause-tells
returns-in-Ended-2-clause-tells g c =
    let within = c.fill.ensures.enough (search rules) in
    let last = c.fill-2.ensures.last (search rules) in
    let later = captured_by-later (state_of c.args.self.now) _ _ c.fill-2.ensures.passes within in
    rw c.ended.ensures (
      totals_by (state_of c.args.self.now),
      SaysEnding-cut _ _ _ c.args.form c.in_ok-length.field-0 c.requires.form
          (Passes-then _ _ _ [] [] c.fill.ensures.passes c.fill-2.ensures.passes) last.0
          (later.1 ∙ c.in_ok-length.ensures.told) later.0 last.1,
    )

pub returns-clause-tells : goal.returns-clause-tells
returns-clause-tells g c =
    let back : 16 + c.in_ok-length.field-0 - 16 ≡ c.in_ok-length.field-0 = omega arith in
    let within = c.fill.ensures.enough (search rules) in
    let later = captured_by-later (state_of c.args.self.now) _ _ c.fill-2.ensures.passes within in
    let held : unread c.pass.new.self ≡ drop (16 + c.in_ok-length.field-0) (unread c.fill-2.new.self) =
    c.pass.ensures.unread in
    SaysFirst-packet _ (standing g.R.Read.remaining c.fill-2.new.self c.fill-2.new.input) _ _ _ c.args.form
    c.in_ok-length.field-0 _ c.requires.form c.count_number.ensures
    (Passes-then _ _ _ [] [] c.fill.ensures.passes c.fill-2.ensures.passes)
    (later.1 ∙ c.in_ok-length.ensures.told) (c.fill-2.ensures.enough (search rules))
    held refl refl refl
    (numbered _ _ _ (ap Frame (c.frame_of-frame.ensures
    ∙ ap (pcap_frame c.args.form c.args.self.now.known.order) c.bytes.ensures))
    (c.pass.ensures.lent
    ∙ ap (λ (n : ℕ). take n (drop 16 (unread c.fill-2.new.self))) back))
