use Rattle.afdx_comport.proofs.PlaceLemmas.{both_stay}
use Rattle.afdx_comport.proofs.com_ports.ComPorts.take_queued.Goals as goal

pub invariant_of-self : goal.invariant_of-self
invariant_of-self c =
    both_stay c.self.inside.places c.self.inside.ports.items c.args.port c.index_mut.result.now
    c.take.new.self (rw (← c.self.view_is) at c.requires) c.index_mut.ensures.value c.self.invariant
