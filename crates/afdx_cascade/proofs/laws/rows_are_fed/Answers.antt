use Rattle.afdx_cascade.proofs.laws.rows_are_fed.Goals as goal
use Rattle.afdx_cascade.proofs.FedLemmas.{each-fed, rows-one, way-takes}

pub returns : goal.returns
returns c = record { fed = each-fed; one = rows-one; latency = way-takes }
