use Rattle.afdx_senders.proofs.OrderLemmas.{held_pushed}
use Rattle.afdx_senders.proofs.found_lines.FoundLines.push.Goals as goal

pub invariant_of-self-2 : goal.invariant_of-self-2
invariant_of-self-2 c = (
  c.in_ok-push.ensures.heap_order c.self.invariant.0,
  held_pushed c.args.line c.self.inside.heap.data.items c.push.new.self.data.items c.are_in_type.ensures
      c.self.invariant.1 c.in_ok-push.ensures.permutation,
)
