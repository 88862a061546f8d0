use Rattle.std.proofs.Common.{rules, ◌≡◌, Err, sym, ◌∙◌}
use Rattle.afdx_input_lines.specs.Calls.{is_read}
use Rattle.afdx_input_runs.proofs.OverLemmas.{over-err, err-answers, ok-answers}
use Rattle.afdx_input_sources.proofs.ListRunLemmas.{not_read}
use Rattle.afdx_input_runs.proofs.over.run_over.Goals as goal

pub returns-in_err-drive-clause-read : goal.returns-in_err-drive-clause-read
returns-in_err-drive-clause-read g c =
    let told = c.requires.told in
    let start = c.args.input.now in
    let input = c.drive.new.input in
    let source = c.drive.new.source in
    let fault = c.in_err-drive.field-0.0 in
    let reads = c.reads.ensures in
    let e : c.from_residual.result ≡ Err fault = search rules in
    rw e (over-err _ _ (g.S.Source.Stopped start source input) (λ past. Unit {0}) _ _
    (g.I.Input.failed input ≡ is_read fault) fault
    (λ past k. reads.stopped start input source past fault k)
    (λ is past k. reads.gave start input source past k ∙ sym (not_read fault is))
    (λ is past k. (reads.ended start input source past k).0 ∙ sym (not_read fault is))
    (c.in_err-drive.ensures.answer told.0 told.1 told.2))

pub returns-in_err-drive-clause-calls : goal.returns-in_err-drive-clause-calls
returns-in_err-drive-clause-calls g c =
    let told = c.requires.told in
    let start = c.args.input.now in
    let input = c.drive.new.input in
    let source = c.drive.new.source in
    let fault = c.in_err-drive.field-0.0 in
    let reads = c.reads.ensures in
    over-err _ _ (g.S.Source.Stopped start source input) (λ past. Unit {0}) _ _
    (g.I.Input.asked start input) fault
    (λ past k. reads.stopped_asked start input source past fault k)
    (λ is past k. reads.gave_asked start input source past k)
    (λ is past k. reads.ended_asked start input source past k)
    (c.in_err-drive.ensures.answer told.0 told.1 told.2)

pub returns-in_err-drive-clause-answer : goal.returns-in_err-drive-clause-answer
returns-in_err-drive-clause-answer g c law first can =
    let start = c.args.input.now in
    let input = c.drive.new.input in
    let source = c.drive.new.source in
    let fault = c.in_err-drive.field-0.0 in
    let e : c.from_residual.result ≡ Err fault = search rules in
    rw e (err-answers _ _ (g.S.Source.Stopped start source input) _ _ _
    g.H.OfLines.items_of (g.S.Reads.known start) g.S.Reads.whole (λ w bytes. g.S.Reads.AreCut w bytes input)
    g.S.Reads.IsSet (g.S.Reads.way c.args.source.now) (g.S.Reads.way source)
    (c.stays.ensures source c.args.source.now c.in_err-drive.ensures.settings) c.requires.set
    (g.S.Reads.counted source) (λ bytes e set. c.takes.ensures start input source bytes e set)
    c.peels.ensures fault (c.in_err-drive.ensures.answer law first can))

pub tally-requires : goal.tally-requires
tally-requires g c =
    let h = c.in_ok-drive.ensures.answer c.requires.told.0 c.requires.told.1
    c.requires.told.2 in
    (c.reads.ensures.ended c.args.input.now c.drive.new.input c.drive.new.source h.0 h.1).2

pub returns-clause-ended : goal.returns-clause-ended
returns-clause-ended g c =
    let h = c.in_ok-drive.ensures.answer c.requires.told.0 c.requires.told.1
    c.requires.told.2 in
    (c.reads.ensures.ended c.args.input.now c.drive.new.input c.drive.new.source h.0 h.1).1

pub returns-clause-read : goal.returns-clause-read
returns-clause-read g c =
    let h = c.in_ok-drive.ensures.answer c.requires.told.0 c.requires.told.1
    c.requires.told.2 in
    (c.reads.ensures.ended c.args.input.now c.drive.new.input c.drive.new.source h.0 h.1).0

pub returns-clause-calls : goal.returns-clause-calls
returns-clause-calls g c =
    let h = c.in_ok-drive.ensures.answer c.requires.told.0 c.requires.told.1
    c.requires.told.2 in
    c.reads.ensures.ended_asked c.args.input.now c.drive.new.input c.drive.new.source h.0 h.1

pub returns-clause-answer : goal.returns-clause-answer
returns-clause-answer g c law first can =
    let start = c.args.input.now in
    let input = c.drive.new.input in
    let source = c.drive.new.source in
    ok-answers _ _ (g.S.Source.Stopped start source input) _ _ _
    g.H.OfLines.items_of (g.S.Reads.known start) g.S.Reads.whole (λ w bytes. g.S.Reads.AreCut w bytes input)
    g.S.Reads.IsSet (g.S.Reads.way c.args.source.now) (g.S.Reads.way source)
    (c.stays.ensures source c.args.source.now c.in_ok-drive.ensures.settings) c.requires.set
    (g.S.Reads.counted source) (λ bytes e set. c.takes.ensures start input source bytes e set)
    c.tally.result c.tally.ensures (c.in_ok-drive.ensures.answer law first can)

pub returns-clause-whole : goal.returns-clause-whole
returns-clause-whole g c =
    let h = c.in_ok-drive.ensures.answer c.requires.told.0 c.requires.told.1
    c.requires.told.2 in
    (h.0, h.1)
