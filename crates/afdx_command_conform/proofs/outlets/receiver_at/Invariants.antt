use Rattle.std.proofs.Common.{◌≡◌, Some, false, take}
use Rattle.std.specs.Prelude.{slice_get}
use Rattle.afdx_config.specs.Rows.{LinkRow}
use Rattle.afdx_command_conform.proofs.ReceiverLemmas.{is_at}
use Rattle.afdx_command_conform.proofs.outlets.receiver_at.Given as goal

abbrev pub invariant-loop-rank : goal.invariant-loop-rank
invariant-loop-rank l =
    (row : LinkRow) → slice_get l.tables.links l.link ≡ Some row → is_at l.tables l.port (take l.rank row.to) ≡ false
