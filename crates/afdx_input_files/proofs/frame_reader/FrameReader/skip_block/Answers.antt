use Rattle.std.proofs.Common.{rules, arith, ◌≡◌, ◌+◌, ◌∙◌, Err, length, sym, ap, refl, false}
use Rattle.afdx_input_lines.specs.Calls.{is_read}
use Rattle.afdx_input_lines.specs.Watching.{has_failed}
use Rattle.afdx_input_lines.specs.declared.fault.RunFault.TheVariants as run
use Rattle.afdx_input_files.specs.Holding.{standing}
use Rattle.afdx_input_files.specs.Recordings.{totals_by}
use Rattle.afdx_input_files.specs.Reading.{state_of}
use Rattle.afdx_input_files.proofs.HeldLemmas.{Passes-gives, Passes-more}
use Rattle.afdx_input_files.proofs.HeadLemmas.{least_size}
use Rattle.afdx_input_files.proofs.PcapngLemmas.{SaysNothing-within, SaysEnding-within, TellsBlock-skipped, told_behind, Meant-not_read}
use Rattle.afdx_input_files.proofs.ReadingLemmas.{Tells-of_reading}
use Rattle.afdx_input_files.proofs.frame_reader.FrameReader.skip_block.Goals as goal

pub returns-in_err-skip-clause-tells : goal.returns-in_err-skip-clause-tells
returns-in_err-skip-clause-tells g c =
    let e : c.from_residual.result ≡ Err c.in_err-skip.field-0.0 = search rules in
    let is : c.in_err-skip.field-0.0 ≡ run.Read = c.in_err-skip.ensures.fault in
    let few = c.in_err-skip.ensures.few (ap is_read is) in
    let least = least_size c.args.head c.requires.least in
    rw (e, is) (SaysNothing-within _ _ _ c.args.head few.0 c.requires.form few.1 c.requires.few c.requires.held
    c.requires.told least (omega (arith, few.2, least)))

pub returns-in-Ended-clause-tells : goal.returns-in-Ended-clause-tells
returns-in-Ended-clause-tells g c =
    let last = c.skip.ensures.last (search rules) in
    let least = least_size c.args.head c.requires.least in
    rw c.ended.ensures (
      totals_by (state_of c.args.self.now),
      SaysEnding-within _ _ _ c.args.head last.1 c.requires.form last.2 last.0 c.requires.few
          c.requires.held c.requires.told least (omega (arith, last.3, least)),
    )

pub returns-in_err-fill-clause-tells : goal.returns-in_err-fill-clause-tells
returns-in_err-fill-clause-tells g c =
    let e : c.from_residual-in_err-fill.result ≡ Err c.in_err-fill.field-0.0 = search rules in
    let least = least_size c.args.head c.requires.least in
    let all = c.skip.ensures.all (search rules) in
    let passes = Passes-more _ _ _ all.0 all.1 c.fill.ensures.passes in
    rw e (Tells-of_reading c.in_err-fill.field-0.0 _ _ _ _ _ c.in_err-fill.ensures.fault
    (Passes-gives _ _ _ passes)
    (λ is. SaysNothing-within _ _ _ c.args.head all.0 c.requires.form passes c.requires.few c.requires.held
    c.requires.told least (let short = c.in_err-fill.ensures.few is in omega (arith, all.2, short, least))))

pub returns-in-Ended-2-clause-tells : goal.returns-in-Ended-2-clause-tells
returns-in-Ended-2-clause-tells g c =
    let last = c.fill.ensures.last (search rules) in
    let least = least_size c.args.head c.requires.least in
    let all = c.skip.ensures.all (search rules) in
    let passes = Passes-more _ _ _ all.0 all.1 c.fill.ensures.passes in
    rw c.ended-in-Ended-2.ensures (
      totals_by (state_of c.args.self.now),
      SaysEnding-within _ _ _ c.args.head all.0 c.requires.form passes last.0 c.requires.few
          c.requires.held c.requires.told least (omega (arith, all.2, last.1, least)),
    )

pub returns-clause-tells : goal.returns-clause-tells
returns-clause-tells g c =
    let least = least_size c.args.head c.requires.least in
    let all = c.skip.ensures.all (search rules) in
    let passes = Passes-more _ _ (standing g.R.Read.remaining c.fill.new.self c.fill.new.input) all.0 all.1
    c.fill.ensures.passes in
    let size : length all.0 + 4 ≡ c.args.head.size = omega (arith, all.2, least) in
    TellsBlock-skipped c.take_skipped.result _ (standing g.R.Read.remaining c.fill.new.self c.fill.new.input) _ _ _ _
    c.args.head all.0 c.requires.form c.take_skipped.ensures.form passes c.requires.few c.requires.held c.requires.told
    least size (c.fill.ensures.enough (search rules)) refl refl refl c.take_skipped.ensures.rest
    (c.take_skipped.ensures.meant all.0 size
    (told_behind _ _ (state_of c.args.self.now) c.args.head all.0 passes c.requires.held c.requires.told))

pub returns-clause-failed : goal.returns-clause-failed
returns-clause-failed g c =
    let least = least_size c.args.head c.requires.least in
    let all = c.skip.ensures.all (search rules) in
    let passes = Passes-more _ _ (standing g.R.Read.remaining c.fill.new.self c.fill.new.input) all.0 all.1
    c.fill.ensures.passes in
    let size : length all.0 + 4 ≡ c.args.head.size = omega (arith, all.2, least) in
    let sound : has_failed c.fill.new.input ≡ false = search rules in
    sound ∙ sym (Meant-not_read _ c.take_skipped.result _ _ (c.take_skipped.ensures.meant all.0 size
    (told_behind _ _ (state_of c.args.self.now) c.args.head all.0 passes c.requires.held c.requires.told)))
