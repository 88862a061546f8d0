use Rattle.std.proofs.Common.{◌≡◌, set, sym, ap, subst}
use Rattle.afdx_command_conform.specs.Keeping.{slot_at}
use Rattle.afdx_command_conform.specs.Lines.{of_key}
use Rattle.afdx_command_conform.specs.Slots.{IsNewlyDue, IsStrange, StrangersStand, waiting_due}
use Rattle.afdx_conform.specs.Growing.{IsSameOrLater}
use Rattle.afdx_command_conform.specs.Waiting.{slot_due}
use Rattle.afdx_command_conform.specs.declared.kept.KeptByKey.{KeptByKey}
use Rattle.afdx_command_conform.proofs.AddedLemmas.{kept-strange, on-ok, read-there, stands-within}
use Rattle.afdx_command_conform.proofs.kept.KeptByKey.add_stranger.Goals as goal

pub returns : goal.returns
returns c t c' until time given lines lawful none known le falling some kept =
    let key = c.args.key in
    let old : KeptByKey = c.args.self.now in
    let within = stands-within t c' until _ time given lines old key lawful known kept in
    let there : c.index_mut.result.now ≡ slot_at old.slots.items key = read-there old.slots.items key
    c.place-place.result
    c.index_mut.result.now c.place-place.ensures within c.index_mut.ensures.value in
    let some' : IsStrange c.index_mut.result.now = subst IsStrange (sym there) some in
    on-ok (λ awaits. kept-strange t c' until lawful time given lines old _ key c.add_stranger.new.at c.in_ok-due.due
    c.args.stranger.time (waiting_due key c.args.stranger) none known kept
    (λ s. c.in_ok-due.ensures.stands key (given key).strange (of_key key lines) some'
    (subst (λ x. StrangersStand key (given key).strange (of_key key lines) x) (sym there) s))
    (subst (λ d. IsNewlyDue d c.in_ok-due.due (slot_due c.add_stranger.new.at)) (ap slot_due there)
    (c.in_ok-due.ensures.due some'))
    (subst (λ d. IsSameOrLater d c.args.stranger.time (slot_due c.add_stranger.new.at)) (ap slot_due there)
    (c.in_ok-due.ensures.later some'))
    le awaits (ap (λ n. set old.slots.items n c.add_stranger.new.at) c.place-place.ensures) falling)
    c.await_due.result c.await_due.ensures
