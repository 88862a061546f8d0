use Rattle.std.proofs.Common.{refl, ◌∙◌}
use Rattle.std.proofs.KnownBytes.{Appends-nil}
use Rattle.afdx_text.proofs.OutputLemmas.{on-err}
use Rattle.afdx_command_conform.proofs.TellingLemmas.{begun-next, no-text, told-next}
use Rattle.afdx_command_conform.proofs.telling.put_lines.Goals as goal

pub loop-line-init : goal.loop-line-init
loop-line-init g c = record {
  sound = c.requires.sound;
  settings = refl;
  told = rw no-text (Appends-nil (g.O.Sink.written c.args.output.now));
}

pub loop-line-preserved : goal.loop-line-preserved
loop-line-preserved g c = record {
  sound = c.in_ok-put.ensures.sink.failed;
  settings = c.put.ensures.sink.settings ∙ c.loop-line.invariant.settings;
  told = told-next _ _ _ c.args.lines.now c.loop-line.line-index _ c.loop-line-test.true
      c.loop-line.invariant.told c.in_ok-put.ensures.whole;
}

pub returns-in_err-put-clause-begun : goal.returns-in_err-put-clause-begun
returns-in_err-put-clause-begun g c =
    on-err c.from_residual.result _
    (begun-next _ _ _ c.args.lines.now c.loop-line.line-index _ c.loop-line-test.true
    c.loop-line.invariant.told c.in_err-put.ensures.front)
