use Rattle.afdx_senders.proofs.AwaitedLemmas.{awaits_pushed}
use Rattle.afdx_senders.proofs.agenda.SourceAgenda.put_due.Goals as goal

pub returns : goal.returns
returns c =
    rw (← c.self.view_is) (awaits_pushed c.args.place c.in-Some.moment c.args.before c.args.after
    c.self.inside.heap.data.items c.push.new.self.data.items c.in-Some.is c.in_ok-push.ensures.permutation)
