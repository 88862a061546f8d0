use Rattle.std.proofs.Common.{rules, ◌≡◌, ◌∙◌, sym, ap, Err, None, Some, refl}
use Rattle.std.proofs.lemmas.Result.{IfOk-weaker, IfErr-weaker}
use Rattle.afdx_input_files.specs.declared.form.Magic.TheVariants as magic
use Rattle.afdx_input_files.specs.declared.order.Order.TheVariants.{HighFirst}
use Rattle.afdx_input_files.specs.Orders.{number_in}
use Rattle.afdx_input_files.specs.Holding.{unread}
use Rattle.afdx_input_files.specs.Recordings.{totals_by}
use Rattle.afdx_input_files.specs.Reading.{state_of, magic_of}
use Rattle.afdx_input_files.proofs.HeldLemmas.{Passes-gives}
use Rattle.afdx_input_files.proofs.OpeningLemmas.{SaysNothing-too_short, SaysEnding-too_short, SaysEnding-unknown, SaysEnding-packed}
use Rattle.afdx_input_files.proofs.OpeningLemmas.{SaysSame-blocks, SaysSame-held, SaysSame-then, Tells-then}
use Rattle.afdx_input_files.proofs.ReadingLemmas.{Tells-of_reading}
use Rattle.afdx_input_files.proofs.frame_reader.FrameReader.open.Goals as goal

pub returns-in_err-fill-clause-tells : goal.returns-in_err-fill-clause-tells
returns-in_err-fill-clause-tells g c =
    let e : c.from_residual.result ≡ Err c.in_err-fill.field-0.0 = search rules in
    rw e (Tells-of_reading c.in_err-fill.field-0.0 _ _ _ _ _ c.in_err-fill.ensures.fault
    (Passes-gives _ _ _ c.fill.ensures.passes)
    (λ is. SaysNothing-too_short _ _ _ c.requires.form c.fill.ensures.passes (c.in_err-fill.ensures.few is)))

pub returns-in-Ended-clause-tells : goal.returns-in-Ended-clause-tells
returns-in-Ended-clause-tells g c =
    let last = c.fill.ensures.last (search rules) in (
      totals_by (state_of c.args.self.now),
      SaysEnding-too_short _ _ _ c.requires.form c.fill.ensures.passes last.0 last.1,
    )

pub returns-in-Some-Pcap-clause-opens : goal.returns-in-Some-Pcap-clause-opens
returns-in-Some-Pcap-clause-opens g c = IfOk-weaker c.open_pcap.result _ _
    (λ _ h. SaysSame-then _ _ _ _ _ _ (SaysSame-held _ _ _ c.fill.ensures.passes) h) c.open_pcap.ensures.opens

pub returns-in-Some-Pcap-clause-tells : goal.returns-in-Some-Pcap-clause-tells
returns-in-Some-Pcap-clause-tells g c = IfErr-weaker c.open_pcap.result _ _
    (λ fault h. Tells-then (Err fault) _ _ _ _ _ _ _ (SaysSame-held _ _ _ c.fill.ensures.passes) h)
    c.open_pcap.ensures.tells

pub returns-in-None-clause-tells : goal.returns-in-None-clause-tells
returns-in-None-clause-tells g c =
    let unknown : magic_of (number_in HighFirst 4 (unread c.fill.new.self)) ≡ None =
    ap magic_of (sym (c.word-number.ensures ∙ ap (number_in HighFirst 4) c.bytes.ensures)) ∙ sym c.in-None.ensures in (
      totals_by (state_of c.args.self.now),
      SaysEnding-unknown _ _ _ c.requires.form c.fill.ensures.passes (c.fill.ensures.enough (search rules)) unknown,
    )

pub returns-in-Some-Packed-clause-tells : goal.returns-in-Some-Packed-clause-tells
returns-in-Some-Packed-clause-tells g c =
    let known : magic_of (number_in HighFirst 4 (unread c.fill.new.self)) ≡ Some magic.Packed =
    ap magic_of (sym (c.word-number.ensures ∙ ap (number_in HighFirst 4) c.bytes.ensures))
    ∙ sym c.in-Some-Packed.ensures
    ∙ ap Some c.in-Some-Packed.field-0-is in (
      totals_by (state_of c.args.self.now),
      SaysEnding-packed _ _ _ c.requires.form c.fill.ensures.passes (c.fill.ensures.enough (search rules)) known,
    )

pub returns-in-Some-Pcapng-clause-opens : goal.returns-in-Some-Pcapng-clause-opens
returns-in-Some-Pcapng-clause-opens g c =
    let known : magic_of (number_in HighFirst 4 (unread c.fill.new.self)) ≡ Some magic.Pcapng =
    ap magic_of (sym (c.word-number.ensures ∙ ap (number_in HighFirst 4) c.bytes.ensures))
    ∙ sym c.in-Some-Pcapng.ensures
    ∙ ap Some c.in-Some-Pcapng.field-0-is in
    SaysSame-blocks _ _ _ _ c.requires.form c.fill.ensures.passes (c.fill.ensures.enough (search rules)) known refl
