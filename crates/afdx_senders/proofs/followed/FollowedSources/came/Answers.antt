use Rattle.std.proofs.Common.{◌<◌, Some, length, arith, sym, subst}
use Rattle.afdx_senders.specs.Followed.{StandsAt}
use Rattle.afdx_senders.proofs.FollowedLemmas.{on_err, read_there, same_there}
use Rattle.afdx_senders.proofs.followed.FollowedSources.came.Goals as goal

pub returns-clause-refused : goal.returns-clause-refused
returns-clause-refused c at f is are =
    let xs = c.args.self.now.slots.items in
    let within : c.args.place < length xs =
    (let past = c.if-place-len.false in let len = c.len.ensures in omega (arith, past, len)) in
    on_err (λ stands. same_there at xs c.args.place c.came_to.new.slot are within
    (subst (λ o. StandsAt o c.came_to.new.slot) (sym is) stands)) c.came_to.result
    (c.came_to.ensures.refused f
    (read_there at xs c.args.place c.index_mut.result.now (Some f) are within c.index_mut.ensures.value is))
