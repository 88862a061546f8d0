use Rattle.std.proofs.Common.{refl, ◌∙◌}
use Rattle.std.proofs.KnownBytes.{Appends-nil}
use Rattle.afdx_text.proofs.OutputLemmas.{on-err}
use Rattle.afdx_command_conform.proofs.TellingLemmas.{begun-due, no-text, told-due}
use Rattle.afdx_command_conform.proofs.due.put_due.Goals as goal

pub loop-next-init : goal.loop-next-init
loop-next-init g c = record {
  sound = c.requires.sound;
  settings = refl;
  told = rw no-text (Appends-nil (g.O.Sink.written c.args.output.now));
}

pub loop-next-preserved : goal.loop-next-preserved
loop-next-preserved g c = record {
  sound = c.in_ok-put.ensures.sink.failed;
  settings = c.put.ensures.sink.settings ∙ c.loop-next.invariant.settings;
  told = told-due _ _ _ c.args.due.now c.loop-next.next-index _ c.loop-next-test.true
      c.loop-next.invariant.told c.in_ok-put.ensures.whole;
}

pub returns-in_err-put-clause-begun : goal.returns-in_err-put-clause-begun
returns-in_err-put-clause-begun g c =
    on-err c.from_residual.result _
    (begun-due _ _ _ c.args.due.now c.loop-next.next-index _ c.loop-next-test.true
    c.loop-next.invariant.told c.in_err-put.ensures.front)
