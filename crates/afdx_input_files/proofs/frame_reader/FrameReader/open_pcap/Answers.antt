use Rattle.std.proofs.Common.{rules, ◌≡◌, ◌∙◌, sym, ap, Err, true, false, refl}
use Rattle.afdx_input_files.specs.Holding.{unread, standing}
use Rattle.afdx_input_files.specs.Recordings.{totals_by}
use Rattle.afdx_input_files.specs.Pcap.{pcap_form, is_pcap_version}
use Rattle.afdx_input_files.specs.Reading.{state_of}
use Rattle.afdx_input_files.proofs.HeldLemmas.{Passes-gives}
use Rattle.afdx_input_files.proofs.OpeningLemmas.{magic_of-later, SaysNothing-header, SaysEnding-header, SaysEnding-version}
use Rattle.afdx_input_files.proofs.OpeningLemmas.{SaysSame-opened}
use Rattle.afdx_input_files.proofs.ReadingLemmas.{Tells-of_reading}
use Rattle.afdx_input_files.proofs.frame_reader.FrameReader.open_pcap.Goals as goal

pub returns-in_err-fill-clause-tells : goal.returns-in_err-fill-clause-tells
returns-in_err-fill-clause-tells g c =
    let e : c.from_residual.result ≡ Err c.in_err-fill.field-0.0 = search rules in
    let later = magic_of-later _ _ c.fill.ensures.passes c.requires.held in
    rw e (Tells-of_reading c.in_err-fill.field-0.0 _ _ _ _ _ c.in_err-fill.ensures.fault
    (Passes-gives _ _ _ c.fill.ensures.passes)
    (λ is. SaysNothing-header _ _ _ c.args.order c.args.nanoseconds c.requires.form c.fill.ensures.passes later.0
    (later.1 ∙ c.requires.magic) (c.in_err-fill.ensures.few is)))

pub returns-in-Ended-clause-tells : goal.returns-in-Ended-clause-tells
returns-in-Ended-clause-tells g c =
    let last = c.fill.ensures.last (search rules) in
    let later = magic_of-later _ _ c.fill.ensures.passes c.requires.held in (
      totals_by (state_of c.args.self.now),
      SaysEnding-header _ _ _ c.args.order c.args.nanoseconds c.requires.form c.fill.ensures.passes last.0 later.0
          (later.1 ∙ c.requires.magic) last.1,
    )

pub returns-then-not-is_known_version-clause-tells :
    goal.returns-then-not-is_known_version-clause-tells
returns-then-not-is_known_version-clause-tells g c =
    let later = magic_of-later _ _ c.fill.ensures.passes c.requires.held in
    let other : is_pcap_version c.args.order (unread c.fill.new.self) ≡ false =
    ap (is_pcap_version c.args.order) (sym c.bytes.ensures) ∙ sym c.is_known_version.ensures ∙ search rules in (
      totals_by (state_of c.args.self.now),
      SaysEnding-version _ _ _ c.args.order c.args.nanoseconds c.requires.form c.fill.ensures.passes
          (c.fill.ensures.enough (search rules)) (later.1 ∙ c.requires.magic) other,
    )

pub returns-clause-opens : goal.returns-clause-opens
returns-clause-opens g c =
    let later = magic_of-later _ _ c.fill.ensures.passes c.requires.held in
    let same : is_pcap_version c.args.order (unread c.fill.new.self) ≡ true =
    ap (is_pcap_version c.args.order) (sym c.bytes.ensures) ∙ sym c.is_known_version.ensures ∙ search rules in
    let form_is : c.form_of-pcap.result ≡ pcap_form c.args.order c.args.nanoseconds (unread c.fill.new.self) =
    c.form_of-pcap.ensures ∙ ap (pcap_form c.args.order c.args.nanoseconds) c.bytes-2.ensures in
    SaysSame-opened _ (standing g.R.Read.remaining c.fill.new.self c.fill.new.input) _ _ _ c.args.order
    c.args.nanoseconds c.requires.form c.fill.ensures.passes (c.fill.ensures.enough (search rules))
    (later.1 ∙ c.requires.magic) same (rw form_is refl) c.pass.ensures.unread refl refl refl
