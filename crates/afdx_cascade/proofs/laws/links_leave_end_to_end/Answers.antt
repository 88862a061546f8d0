use Rattle.afdx_cascade.proofs.EndToEndLemmas.{each-way, first-links-leave, links-leave, no-others}
use Rattle.afdx_cascade.proofs.laws.links_leave_end_to_end.Goals as goal

pub returns : goal.returns
returns c =
    record { ways = each-way; all = links-leave; so_far = first-links-leave; others = no-others }
