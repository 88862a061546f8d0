use Rattle.afdx_frame.specs.declared.link.Side.TheVariants.{A, B}
use Rattle.afdx_network.proofs.StandsLemmas.{stands-new}
use Rattle.afdx_network.proofs.network.Network.new.Goals as goal

pub returns-clause-stands : goal.returns-clause-stands
returns-clause-stands c =
    stands-new c.args.tables.now _ c.in_ok-a.ensures.lawful (c.in_ok-a.ensures.stands A)
    (c.in_ok-b.ensures.stands B)
