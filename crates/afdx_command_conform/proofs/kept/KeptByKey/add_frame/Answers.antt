use Rattle.std.proofs.Common.{◌≡◌, set, sym, ap, subst}
use Rattle.afdx_conform.specs.Limits.{gone_of}
use Rattle.afdx_command_conform.specs.Frames.{terms_at}
use Rattle.afdx_command_conform.specs.Keeping.{slot_at}
use Rattle.afdx_command_conform.specs.Lines.{of_key}
use Rattle.afdx_command_conform.specs.Slots.{IsNewlyDue, IsStream, StreamStands}
use Rattle.afdx_conform.specs.Growing.{IsSameOrLater}
use Rattle.afdx_command_conform.specs.Waiting.{slot_due}
use Rattle.afdx_command_conform.specs.declared.kept.KeptByKey.{KeptByKey}
use Rattle.afdx_command_conform.proofs.AddedLemmas.{kept-left, on-ok, read-there, stands-within}
use Rattle.afdx_command_conform.proofs.KeyLemmas.{known-stream}
use Rattle.afdx_command_conform.proofs.kept.KeptByKey.add_frame.Goals as goal

pub returns : goal.returns
returns c t c' until time given lines l lawful is may some kept =
    let key = c.args.key in
    let old : KeptByKey = c.args.self.now in
    let z = terms_at t c' until l key.port in
    let within = stands-within t c' until _ time given lines old key lawful (known-stream t key l is) kept in
    let there : c.index_mut.result.now ≡ slot_at old.slots.items key = read-there old.slots.items key
    c.place-place.result
    c.index_mut.result.now c.place-place.ensures within c.index_mut.ensures.value in
    let some' : IsStream c.index_mut.result.now = subst IsStream (sym there) some in
    on-ok (λ awaits. kept-left t c' until lawful time given lines old _ key c.add_frame.new.at c.in_ok-due.due
    c.args.frame.time
    l (gone_of c.args.frame) is kept
    (λ s. c.in_ok-due.ensures.stands z key (given key).came (given key).left (of_key key lines) time some' may
    (subst (λ x. StreamStands z key (given key).came (given key).left (of_key key lines) time x) (sym there) s))
    (subst (λ d. IsNewlyDue d c.in_ok-due.due (slot_due c.add_frame.new.at)) (ap slot_due there)
    (c.in_ok-due.ensures.due some'))
    (subst (λ d. IsSameOrLater d c.args.frame.time (slot_due c.add_frame.new.at)) (ap slot_due there)
    (c.in_ok-due.ensures.later some'))
    may.behind awaits (ap (λ n. set old.slots.items n c.add_frame.new.at) c.place-place.ensures))
    c.await_due.result c.await_due.ensures
