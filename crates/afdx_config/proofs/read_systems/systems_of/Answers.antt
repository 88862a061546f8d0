use Rattle.std.proofs.Common.{refl, arith}
use Rattle.std.proofs.lemmas.Grind.{common_steps}
use Rattle.afdx_config.specs.Rows.{system_row}
use Rattle.afdx_config.proofs.GrownLemmas.{no_systems, systems_push}
use Rattle.afdx_config.proofs.read_systems.systems_of.Goals as goal

pub loop-table-init : goal.loop-table-init
loop-table-init c = rw c.new-systems.ensures
    (record { so_far = refl; count = refl; lawful = no_systems c.args.profile })

pub loop-table-preserved : goal.loop-table-preserved
loop-table-preserved c = record {
  so_far = grind (arith, common_steps);
  count = grind (arith, common_steps);
  lawful = rw c.in_ok-push.ensures
      (systems_push c.args.profile c.loop-table.systems (system_row c.in_ok-system.system)
      c.loop-table.invariant.lawful (omega arith) c.in_ok-system.ensures.lawful
      c.in_ok-system.ensures.fresh);
}
