use Rattle.afdx_conform.proofs.FindingLemmas.{found_where, found_explained}
use Rattle.afdx_conform.proofs.laws.found_where_none_is_left.Goals as goal

pub returns-clause-states : goal.returns-clause-states
returns-clause-states c = found_where

pub returns-clause-explained : goal.returns-clause-explained
returns-clause-explained c = found_explained
