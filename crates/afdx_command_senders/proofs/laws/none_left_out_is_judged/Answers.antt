use Rattle.afdx_command_senders.proofs.AllCountedLemmas.{none_out_judged, none_out_sent}
use Rattle.afdx_command_senders.proofs.laws.none_left_out_is_judged.Goals as goal

pub returns : goal.returns
returns c = record { switch = none_out_judged; senders = none_out_sent }
