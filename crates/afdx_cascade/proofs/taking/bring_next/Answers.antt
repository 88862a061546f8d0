use Rattle.std.proofs.Common.{refl}
use Rattle.afdx_cascade.proofs.taking.bring_next.Goals as goal
use Rattle.afdx_cascade.proofs.TurningLemmas.{on-err}
use Rattle.afdx_cascade.proofs.NextLemmas.{front-limit, front-asked, front-brings, front-lacks}

pub is_front_next-requires : goal.is_front_next-requires
is_front_next-requires c v here =
    let s = c.requires.sound in
    front-limit s.0 c.args.networks.now s.1 s.2 s.3 c.args.transit.now.items s.4 s.5 v here

pub front_at-requires : goal.front_at-requires
front_at-requires c = record {
  front =
      let s = c.requires.sound in
      front-asked s.0 c.args.networks.now s.1 s.2 s.3 c.args.first c.args.transit.now.items s.4 c.requires.first s.5
      (c.if-not-is_front_next.ensures.0 refl);
}

pub returns-clause-brings : goal.returns-clause-brings
returns-clause-brings c p time ring so_far keeps transit =
    front-brings p c.args.networks.now time ring so_far c.args.first c.args.transit.now.items keeps c.requires.first
    transit
    (c.if-not-is_front_next.ensures.0 refl) c.front_at.new.networks c.front_at.new.transit.items c.in_ok-brought.brought
    (λ r rest st are. c.in_ok-brought.ensures.arrives p time r rest so_far keeps.plan st are)
    c.front_at.ensures.length c.front_at.ensures.clock c.front_at.ensures.still

pub returns-in_err-brought-clause-judged : goal.returns-in_err-brought-clause-judged
returns-in_err-brought-clause-judged c p time ring so_far keeps transit =
    on-err c.from_residual.result _
    (front-lacks p c.args.networks.now time ring so_far c.args.first c.args.transit.now.items keeps c.requires.first
    transit (c.if-not-is_front_next.ensures.0 refl)
    (λ v r rest st here on. c.in_err-brought.ensures.judged p time r rest so_far v st here on))
