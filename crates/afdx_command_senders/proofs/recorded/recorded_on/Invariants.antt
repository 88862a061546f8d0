use Rattle.std.proofs.Common.{◌≡◌, ◌<◌, ℕ, false, get_or, length}
use Rattle.afdx_input_lines.specs.declared.role.Role.TheVariants as role
use Rattle.afdx_input_sources.specs.Tapping.{taps_in}
use Rattle.afdx_command_senders.proofs.recorded.recorded_on.Given as goal

abbrev pub invariant-loop-port : goal.invariant-loop-port
invariant-loop-port l = record {
  room : length l.ports ≡ 256;
  read : (i : ℕ) → i < l.port → get_or l.ports i false ≡ taps_in l.taps role.Came l.side i;
}
