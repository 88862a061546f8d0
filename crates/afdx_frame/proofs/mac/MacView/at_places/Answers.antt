use Rattle.std.proofs.Common.{refl, arith}
use Rattle.afdx_frame.proofs.SealsLemmas.{is_sealed_frame}
use Rattle.afdx_frame.proofs.mac.MacView.at_places.Goals as goal

pub returns : goal.returns
returns c =
    is_sealed_frame c.args.message.now c.args.vl.0 c.from_be_bytes.result _ _
    (λ i. omega (arith, c.type_inv.message i)) (omega (arith, c.requires.shortest))
    (omega (arith, c.requires.longest)) c.requires.named (omega arith) c.from_be_bytes.ensures refl refl
