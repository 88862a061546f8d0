use Rattle.afdx_cascade.proofs.WayHopLemmas.{cascade-admitted, rows-ways}
use Rattle.afdx_cascade.proofs.WholeLemmas.{rows-whole}
use Rattle.afdx_cascade.proofs.laws.rows_are_ways.Goals as goal

pub returns : goal.returns
returns c = record { cascade = cascade-admitted; so_far = rows-ways; whole = rows-whole }
