use Rattle.std.proofs.Common.{rules, arith, ◌≡◌, [], Err, refl}
use Rattle.afdx_input_files.specs.Holding.{standing}
use Rattle.afdx_input_files.specs.Recordings.{totals_by}
use Rattle.afdx_input_files.specs.Reading.{state_of}
use Rattle.afdx_input_files.proofs.HeldLemmas.{Passes-gives}
use Rattle.afdx_input_files.proofs.HeadLemmas.{least_size}
use Rattle.afdx_input_files.proofs.PcapngLemmas.{SaysNothing-within, SaysEnding-within, TellsBlock-held, told_in_all}
use Rattle.afdx_input_files.proofs.ReadingLemmas.{Tells-of_reading}
use Rattle.afdx_input_files.proofs.frame_reader.FrameReader.hold_block.Goals as goal

pub returns-in_err-fill-clause-tells : goal.returns-in_err-fill-clause-tells
returns-in_err-fill-clause-tells g c =
    let e : c.from_residual.result ≡ Err c.in_err-fill.field-0.0 = search rules in
    rw e (Tells-of_reading c.in_err-fill.field-0.0 _ _ _ _ _ c.in_err-fill.ensures.fault
    (Passes-gives _ _ _ c.fill.ensures.passes)
    (λ is. SaysNothing-within _ _ _ c.args.head [] c.requires.form c.fill.ensures.passes c.requires.few c.requires.held
    c.requires.told (least_size c.args.head c.requires.least)
    (let short = c.in_err-fill.ensures.few is in omega (arith, short))))

pub returns-in-Ended-clause-tells : goal.returns-in-Ended-clause-tells
returns-in-Ended-clause-tells g c =
    let last = c.fill.ensures.last (search rules) in
    rw c.ended.ensures (
      totals_by (state_of c.args.self.now),
      SaysEnding-within _ _ _ c.args.head [] c.requires.form c.fill.ensures.passes last.0 c.requires.few
          c.requires.held c.requires.told (least_size c.args.head c.requires.least) (omega (arith, last.1)),
    )

pub take_held-requires-clause-told : goal.take_held-requires-clause-told
take_held-requires-clause-told g c =
    told_in_all _ _ (state_of c.args.self.now) c.args.head c.fill.ensures.passes c.requires.held c.requires.told

pub returns-clause-tells : goal.returns-clause-tells
returns-clause-tells g c =
    TellsBlock-held c.take_held.result _ (standing g.R.Read.remaining c.fill.new.self
    c.fill.new.input) _ _ _ _ c.args.head
    c.requires.form c.take_held.ensures.form c.fill.ensures.passes c.requires.few
    (told_in_all _ _ (state_of c.args.self.now) c.args.head c.fill.ensures.passes c.requires.held c.requires.told)
    (least_size c.args.head c.requires.least) (c.fill.ensures.enough (search rules)) refl refl refl
    c.take_held.ensures.rest c.take_held.ensures.meant
