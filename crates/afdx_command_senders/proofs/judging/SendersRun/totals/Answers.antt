use Rattle.std.proofs.Common.{◌<◌, None, arith, length}
use Rattle.std.specs.Prelude.{◌^◌}
use Rattle.afdx_command_senders.specs.Asked.{came_in}
use Rattle.afdx_command_senders.specs.SenderLines.{sent_of, whole_setup}
use Rattle.afdx_command_senders.proofs.ConcludedLemmas.{came-few, totals-same}
use Rattle.afdx_command_senders.proofs.judging.SendersRun.totals.Goals as goal

pub returns : goal.returns
returns c = λ k frames told works have.
    let z = whole_setup k frames in
    let xs = came_in k.1 frames in
    let few : length xs < 2 ^ 64 = let n = came-few k.1 frames in let m = works.few in omega (arith, n, m) in
    let s = sent_of k frames in
    totals-same c.counts-counts.result.sent c.counts-counts.result.cut c.alone-alone.result s.sent s.cut s.alone
    (c.counts-counts.ensures.sent z xs told have few) (c.counts-counts.ensures.cut z xs told have few)
    (c.alone-alone.ensures z None xs told have)
