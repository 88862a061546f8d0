use Rattle.afdx_receive.proofs.TableLemmas.{received}
use Rattle.afdx_receive.proofs.laws.links_are_received.Goals as goal

pub returns : goal.returns
returns c tables system place link lawful here goes =
    received system tables.links place link lawful.links.identifiers here goes
