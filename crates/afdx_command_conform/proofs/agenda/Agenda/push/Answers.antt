use Rattle.afdx_command_conform.specs.Awaited.{awaited}
use Rattle.afdx_command_conform.proofs.AgendaLemmas.{keys-push}
use Rattle.afdx_command_conform.proofs.agenda.Agenda.push.Goals as goal

pub invariant_of-self-2 : goal.invariant_of-self-2
invariant_of-self-2 c =
    let x = awaited c.args.moment c.args.key in (
      c.in_ok-push.ensures.heap_order c.self.invariant.0,
      keys-push x c.self.inside.heap.data.items c.push.new.self.data.items c.are_small.ensures c.self.invariant.1
          c.in_ok-push.ensures.permutation,
    )
