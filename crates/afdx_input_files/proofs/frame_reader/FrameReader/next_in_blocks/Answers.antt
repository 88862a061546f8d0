use Rattle.std.proofs.Common.{rules, ◌≡◌, Err, Ok, true, false, ◌∙◌}
use Rattle.afdx_input_files.specs.Reading.{state_of}
use Rattle.afdx_input_files.proofs.HeldLemmas.{Passes-gives}
use Rattle.afdx_input_files.proofs.OpeningLemmas.{SaysSame-held, SaysSame-then, Tells-then}
use Rattle.afdx_input_files.proofs.PcapngLemmas.{SaysEnding-blocks, SaysEnding-head, SaysNothing-head}
use Rattle.afdx_input_files.proofs.ReadingLemmas.{Tells-of_reading, Tells-end}
use Rattle.afdx_input_lines.specs.declared.next.Progress.TheVariants as progress
use Rattle.afdx_input_lines.specs.declared.next.Next.TheVariants as next
use Rattle.afdx_input_files.proofs.frame_reader.FrameReader.next_in_blocks.Goals as goal

pub returns-in_err-fill-clause-tells : goal.returns-in_err-fill-clause-tells
returns-in_err-fill-clause-tells g c =
    let e : c.from_residual.result ≡ Err c.in_err-fill.field-0.0 = search rules in
    rw e (Tells-then (Err c.in_err-fill.field-0.0) _ _ _ _ _ _ _ c.reads.invariant.same
    (Tells-of_reading c.in_err-fill.field-0.0 _ _ (state_of c.reads.self) (state_of c.reads.self) _
    c.in_err-fill.ensures.fault (Passes-gives _ _ _ c.fill.ensures.passes)
    (λ is. SaysNothing-head _ _ (state_of c.reads.self) c.reads.invariant.form c.fill.ensures.passes
    (c.in_err-fill.ensures.few is))))

pub returns-in_err-take_block-clause-tells : goal.returns-in_err-take_block-clause-tells
returns-in_err-take_block-clause-tells g c =
    let e : c.from_residual-in_err-take_block.result ≡ Err c.in_err-take_block.field-0.0 = search rules in
    let same = SaysSame-then _ _ _ _ _ _ c.reads.invariant.same
    (SaysSame-held _ _ (state_of c.reads.self) c.fill.ensures.passes) in
    rw e (Tells-then (Err c.in_err-take_block.field-0.0) _ _ _ _ _ _ _ same c.in_err-take_block.ensures.tells)

pub returns-in-Given-2-clause-tells : goal.returns-in-Given-2-clause-tells
returns-in-Given-2-clause-tells g c =
    let is : c.take_block.result ≡ Ok progress.Given = search rules in
    let same = SaysSame-then _ _ _ _ _ _ c.reads.invariant.same
    (SaysSame-held _ _ (state_of c.reads.self) c.fill.ensures.passes) in
    Tells-then (Ok next.Given) _ _ _ _ _ _ _ same (rw is at c.take_block.ensures.tells)

pub reads-preserved : goal.reads-preserved
reads-preserved g c =
    let is : c.take_block.result ≡ Ok progress.NotYet = search rules in
    let same = SaysSame-then _ _ _ _ _ _ c.reads.invariant.same
    (SaysSame-held _ _ (state_of c.reads.self) c.fill.ensures.passes) in
    let counts = rw is at c.take_block.ensures.counts in
    record {
      sound = rw is at c.take_block.ensures.failed;
      honest = c.take_block.ensures.honest;
      form = c.take_block.ensures.form ∙ c.reads.invariant.form;
      numbers = counts.0 ∙ c.reads.invariant.numbers;
      same = SaysSame-then _ _ _ _ _ _ same (rw is at c.take_block.ensures.tells);
    }

pub returns-clause-tells : goal.returns-clause-tells
returns-clause-tells g c =
    let last = c.fill.ensures.last (search rules) in
    Tells-then c.end.result _ _ _ _ _ _ _ c.reads.invariant.same
    (Tells-end c.end.result _ _ (state_of c.reads.self) (state_of c.reads.self) _ last.0 c.end.ensures.over
    c.end.ensures.ended
    (λ none. SaysEnding-blocks _ _ (state_of c.reads.self) c.reads.invariant.form c.fill.ensures.passes last.0 none)
    (λ some. SaysEnding-head _ _ (state_of c.reads.self) c.reads.invariant.form
    c.fill.ensures.passes last.0 some last.1))
