use Rattle.afdx_receive.proofs.ApartLemmas.{apart_delivered_once, sides_delivered_once}
use Rattle.afdx_receive.proofs.laws.copies_apart_are_delivered_once.Goals as goal

pub returns : goal.returns
returns c = record { all = apart_delivered_once; sides = sides_delivered_once }
