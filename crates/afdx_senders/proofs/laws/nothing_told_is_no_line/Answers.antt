use Rattle.afdx_senders.proofs.ShortLemmas.{each_found, longer_passed, nothing_told}
use Rattle.afdx_senders.proofs.laws.nothing_told_is_no_line.Goals as goal

pub returns : goal.returns
returns c = record { each = each_found; none = nothing_told; shorter = longer_passed }
