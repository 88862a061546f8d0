use Rattle.std.proofs.Common.{arith}
use Rattle.afdx_frame.proofs.SealingLemmas.{is_sealed-decides, sealed-is}
use Rattle.afdx_frame.proofs.SealsLemmas.{AreBytes-sealed, length-sealed, no_link}
use Rattle.afdx_frame.specs.Sealing.{sealed}
use Rattle.afdx_frame.proofs.mac.MacView.of_message.Goals as goal

pub returns-in-None-clause-err : goal.returns-in-None-clause-err
returns-in-None-clause-err c =
    let message = c.args.message.now in (
      omega (arith, length-sealed message, c.requires.shortest),
      omega (arith, length-sealed message, c.requires.longest),
      (is_sealed-decides (sealed message)
          (AreBytes-sealed message (λ i. omega (arith, c.type_inv.message i)))).0 (sealed-is message),
      no_link message (omega (arith, c.requires.shortest)) c.in-None.ensures.none,
    )
