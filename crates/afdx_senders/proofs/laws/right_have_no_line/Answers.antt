use Rattle.afdx_senders.proofs.RightExampleLemmas.{right_met}
use Rattle.afdx_senders.proofs.RightSenderLemmas.{right_no_line, right_sent, right_tell_nothing}
use Rattle.afdx_senders.proofs.laws.right_have_no_line.Goals as goal

pub returns : goal.returns
returns c =
    record { none = right_no_line; told = right_tell_nothing; sent = right_sent; met = right_met }
