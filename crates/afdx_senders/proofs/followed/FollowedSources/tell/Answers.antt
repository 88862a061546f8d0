use Rattle.std.proofs.Common.{◌<◌, None, Some, length, arith, sym, subst}
use Rattle.afdx_senders.specs.Followed.{StandsAt, told_next}
use Rattle.afdx_senders.proofs.CountingLemmas.{fewer_held}
use Rattle.afdx_senders.proofs.FollowedLemmas.{if_none, if_some, none_there, put_there, read_there, same_there}
use Rattle.afdx_senders.proofs.followed.FollowedSources.tell.Goals as goal

pub returns-clause-none : goal.returns-clause-none
returns-clause-none c at f is are =
    let xs = c.args.self.now.slots.items in
    let within : c.args.place < length xs =
    (let past = c.if-place-len.false in let len = c.len.ensures in omega (arith, past, len)) in
    if_none (λ p. (
      p.0,
      same_there at xs c.args.place c.tell_of.new.slot are within
          (subst (λ o. StandsAt o c.tell_of.new.slot) (sym is) p.1),
    )) c.tell_of.result
    (c.tell_of.ensures.none f
    (read_there at xs c.args.place c.index_mut.result.now (Some f) are within c.index_mut.ensures.value is))

pub returns-clause-told : goal.returns-clause-told
returns-clause-told c at f is are =
    let xs = c.args.self.now.slots.items in
    let within : c.args.place < length xs =
    (let past = c.if-place-len.false in let len = c.len.ensures in omega (arith, past, len)) in
    if_some (λ told p. (
      p.0,
      p.1,
      λ known.
          let t = p.2 known in (
            t.0,
            put_there at xs c.args.place c.tell_of.new.slot are within (told_next f p.0) t.1,
          ),
    )) c.tell_of.result
    (c.tell_of.ensures.told f
    (read_there at xs c.args.place c.index_mut.result.now (Some f) are within c.index_mut.ensures.value is))

pub returns-clause-empty : goal.returns-clause-empty
returns-clause-empty c at is are =
    let xs = c.args.self.now.slots.items in
    let within : c.args.place < length xs =
    (let past = c.if-place-len.false in let len = c.len.ensures in omega (arith, past, len)) in
    let e = c.tell_of.ensures.empty (none_there c.index_mut.result.now
    (read_there at xs c.args.place c.index_mut.result.now None are within c.index_mut.ensures.value is)) in (
      e.0,
      same_there at xs c.args.place c.tell_of.new.slot are within
          (subst (λ o. StandsAt o c.tell_of.new.slot) (sym is) (subst (λ v. StandsAt None v) (sym e.1) tt)),
    )

pub returns-clause-less : goal.returns-clause-less
returns-clause-less c =
    let xs = c.args.self.now.slots.items in
    let within : c.args.place < length xs =
    (let past = c.if-place-len.false in let len = c.len.ensures in omega (arith, past, len)) in
    if_some (λ told less. fewer_held xs c.args.place c.index_mut.result.now c.tell_of.new.slot within
    c.index_mut.ensures.value less) c.tell_of.result c.tell_of.ensures.less
