use Rattle.std.proofs.Common.{rules, ◌++◌, map, sym, ap, ◌∙◌, arith}
use Rattle.std.proofs.lemmas.List.{take_all}
use Rattle.std.specs.declared.alloc.AllocError.{AllocError}
use Rattle.afdx_admit.specs.declared.cascade_fault.CascadeFault.{CascadeFault}
use Rattle.afdx_admit.specs.Lines.{lines}
use Rattle.afdx_admit.specs.Cascade.{own_line}
use Rattle.afdx_admit.proofs.CascadeFalseLemmas.{own_fault, own-false}
use Rattle.afdx_admit.proofs.WalkLemmas.{walks_end}
use Rattle.afdx_admit.proofs.cascade_found.VecCascadeFaultCascadeFoundAllocError.add_own.Goals as goal

pub returns-in_err-faults : goal.returns-in_err-faults
returns-in_err-faults c =
    walks_end (λ faults stop. Unit {0}) c.args.self.now.items _
    (map (own_line c.args.switch.0) (lines c.args.tables.now))
    c.in_err-faults.field-0.0 _ (search rules) (λ behind. tt)

pub returns-in_err-push : goal.returns-in_err-push
returns-in_err-push c =
    walks_end {F = CascadeFault} {E = AllocError} (λ faults stop. Unit {0}) c.args.self.now.items c.push.new.self.items
    (map (own_line c.args.switch.0) (lines c.args.tables.now)) (record {})
    c.from_residual-in_err-push.result (search rules) (λ behind. tt)

pub returns : goal.returns
returns c =
    let k = c.args.switch.0 in
    let old = c.args.self.now.items in
    let faults = c.deref-fault-items.result.now in
    c.loop-fault.invariant
    ∙ ap (λ fs. old ++ map (own_fault k) fs) (take_all c.loop-fault.fault-index faults (omega arith)
    ∙ c.deref-fault-items.ensures.value ∙ c.in_ok-faults.ensures.faults)
    ∙ ap (λ fs. old ++ fs) (sym (own-false k (lines c.args.tables.now)))
