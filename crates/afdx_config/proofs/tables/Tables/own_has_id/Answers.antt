use Rattle.std.proofs.lemmas.Bool.{eq-eqb}
use Rattle.std.proofs.Common.{false, ne_eqb, ◌≡◌, nat_eq, sym, arith, subst, take}
use Rattle.std.specs.List.{list_any}
use Rattle.afdx_config.specs.Rows.{system_row}
use Rattle.afdx_config.specs.Switches.{own_has_id}
use Rattle.afdx_config.proofs.AnyLemmas.{any_first, none_first}
use Rattle.afdx_config.proofs.tables.Tables.own_has_id.Goals as goal

pub returns-then-system-id : goal.returns-then-system-id
unfolding own_has_id
returns-then-system-id c =
    let t = c.args.self.now in
    sym (any_first (λ s. nat_eq s.id c.args.id) t.systems t.own c.loop-i.i (system_row c.system.result.now)
    (omega arith) c.system.ensures.row
    (eq-eqb c.system.result.now.id c.args.id c.if-system-id.true))

pub loop-i-preserved : goal.loop-i-preserved
loop-i-preserved c =
    none_first (λ s. nat_eq s.id c.args.id) c.args.self.now.systems c.loop-i.i (system_row c.system.result.now)
    c.system.ensures.row (ne_eqb c.system.result.now.id c.args.id c.if-system-id.false) c.loop-i.invariant

pub returns : goal.returns
unfolding own_has_id
returns c =
    let t = c.args.self.now in
    sym (subst (λ n. list_any (λ s. nat_eq s.id c.args.id) (take n t.systems) ≡ false) (omega arith) c.loop-i.invariant)
