use Rattle.std.proofs.Common.{◌∙◌, sym, inr, refl, rules}
use Rattle.afdx_input_sources.proofs.MergedLemmas.{seek-found}
use Rattle.afdx_input_sources.proofs.ahead.seek.Goals as goal

pub returns-in-Some-clause-known : goal.returns-in-Some-clause-known
returns-in-Some-clause-known g c latest start taken h ok =
    let unknown = c.in-Unknown.is in
    let item = c.in_ok-next.ensures.item start taken (rw unknown at h.known) (search rules) in
    let time = rw c.head-head.ensures at (sym c.comes.ensures ∙ c.in-Some.is) in (
      seek-found g.H.InOrder.order g.H.Head.can_follow c.keeps.ensures g.S.Source.current g.S.Source.Gave
          g.S.Source.Ended latest start c.args.ahead.now _ c.args.input.now c.next.new.input taken c.in-Some.time
          unknown refl h item.0 item.1 time,
      tt,
      inr unknown,
    )
