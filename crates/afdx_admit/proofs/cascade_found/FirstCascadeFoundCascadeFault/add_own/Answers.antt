use Rattle.std.proofs.Common.{map, sym, ap, ◌∙◌}
use Rattle.std.specs.Option.{option_map}
use Rattle.afdx_admit.specs.declared.cascade_fault.SwitchFault.TheVariants.{Own}
use Rattle.afdx_admit.specs.Lines.{lines}
use Rattle.afdx_admit.specs.Cascade.{fault_at, own_line}
use Rattle.afdx_admit.proofs.CascadeLemmas.{own_first}
use Rattle.afdx_admit.proofs.WalkLemmas.{none-first, stop-first}
use Rattle.afdx_admit.proofs.cascade_found.FirstCascadeFoundCascadeFault.add_own.Goals as goal

pub returns-in-None : goal.returns-in-None
returns-in-None c =
    let k = c.args.switch.0 in
    let ls = lines c.args.tables.now in
    none-first (map (own_line k) ls)
    (own_first k ls ∙ ap (option_map (λ fault. fault_at k (Own fault))) (sym c.in-None.ensures.fault))

pub returns-in-Some : goal.returns-in-Some
returns-in-Some c =
    let k = c.args.switch.0 in
    let ls = lines c.args.tables.now in
    stop-first (map (own_line k) ls) (fault_at k (Own c.in-Some.fault))
    (own_first k ls ∙ ap (option_map (λ fault. fault_at k (Own fault))) (sym c.in-Some.ensures.fault))
