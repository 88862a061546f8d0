use Rattle.std.proofs.Common.{◌≡◌, ap, arith, ◌∙◌}
use Rattle.std.specs.Ordering.{nat_cmp}
use Rattle.afdx_command_conform.proofs.AgendaLemmas.{by-key, later, sooner}
use Rattle.afdx_command_conform.specs.Keys.{key_rank}
use Rattle.afdx_command_conform.proofs.agenda.AgendaEntry.order.Goals as goal

pub returns-then-self-other : goal.returns-then-self-other
returns-then-self-other c = sooner c.args.self.now c.args.other.now c.are_small.ensures c.if-self-other.true

pub returns-then-self-other-2 : goal.returns-then-self-other-2
returns-then-self-other-2 c =
    later c.args.self.now c.args.other.now c.are_small-2.ensures (let t = c.if-self-other-2.true in omega (arith, t))

pub returns : goal.returns
returns c =
    let same : c.args.self.now.moment ≡ c.args.other.now.moment =
    (let s = c.if-self-other.false in let t = c.if-self-other-2.false in omega (arith, s, t)) in
    c.cmp.ensures ∙ ap (λ n. nat_cmp n c.rank-2.result) c.rank.ensures
    ∙ ap (λ n. nat_cmp (key_rank c.args.self.now.key) n) c.rank-2.ensures
    ∙ by-key c.args.self.now c.args.other.now same
