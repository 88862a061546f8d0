use Rattle.afdx_command_senders.proofs.LeftHeardLemmas.{left_heard}
use Rattle.afdx_command_senders.proofs.TogetherLemmas.{both_show_once, two_runs_show_once}
use Rattle.afdx_command_senders.proofs.laws.both_show_once.Goals as goal

pub returns : goal.returns
returns c = record { once = both_show_once; two_runs = two_runs_show_once; heard = left_heard }
