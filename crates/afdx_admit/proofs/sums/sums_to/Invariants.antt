use Rattle.std.proofs.Common.{take}
use Rattle.afdx_config.specs.Admission.{flows_to}
use Rattle.afdx_admit.specs.Sums.{IsSums, IsSmall}
use Rattle.afdx_admit.proofs.sums.sums_to.Given as goal

abbrev pub invariant-loop-i : goal.invariant-loop-i
invariant-loop-i l = record {
  small : IsSmall l.i l.sums;
  sums : IsSums (record {
    byte_ns = l.byte_ns;
    flows = flows_to (take l.i l.tables.links) l.system.0;
  }) l.sums;
}
