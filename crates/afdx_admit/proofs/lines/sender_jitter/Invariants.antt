use Rattle.std.proofs.Common.{◌≡◌, ◌+◌, ◌*◌, ◌≤◌, take}
use Rattle.afdx_config.specs.Admission.{links_from, sender_jitter}
use Rattle.afdx_admit.proofs.lines.sender_jitter.Given as goal

abbrev pub invariant-loop-i : goal.invariant-loop-i
invariant-loop-i l = record {
  sum : l.sum ≡ sender_jitter l.byte_ns (links_from (take l.i l.tables.links) l.id.0);
  small : l.sum ≤ 40000 + l.i * 1230400;
}
