use Rattle.afdx_replay.proofs.OneSwitchLemmas.{one-switch, lists-at-switches}
use Rattle.afdx_replay.proofs.laws.a_cascade_of_one_is_its_switch.Goals as goal

pub returns-clause-one : goal.returns-clause-one
returns-clause-one c = one-switch

pub returns-clause-lists : goal.returns-clause-lists
returns-clause-lists c = lists-at-switches
