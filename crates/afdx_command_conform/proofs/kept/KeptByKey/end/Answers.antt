use Rattle.std.proofs.Common.{arith}
use Rattle.afdx_command_conform.specs.Keys.{key_place}
use Rattle.afdx_command_conform.proofs.AddedLemmas.{stands-within}
use Rattle.afdx_command_conform.proofs.StepLemmas.{kept-ended}
use Rattle.afdx_command_conform.proofs.kept.KeptByKey.end.Goals as goal

pub returns : goal.returns
returns c t c' time given lines lawful le early kept =
    kept-ended t c' c.args.until lawful time given lines c.args.self.now c.loop-place.self le early kept
    (λ k known. let within = stands-within t c' c.args.until _ time given lines c.args.self.now k lawful known kept in
    let past = c.loop-place-test.false in
    let len = c.len-place-end.ensures in
    c.loop-place.invariant.ends (key_place k) (omega (arith, within, past, len)))
    c.loop-place.invariant.agenda c.loop-place.invariant.count
