use Rattle.std.proofs.Common.{◌≡◌, ◌-◌, ◌≤◌, ◌+◌, false, length, take}
use Rattle.std.specs.Io.KnownBytes.{Appends}
use Rattle.afdx_text.proofs.writing.hand_bytes.Given as goal

abbrev pub invariant-loop-taken : goal.invariant-loop-taken
invariant-loop-taken g l = record {
  within : l.taken ≤ length l.bytes;
  sound : l.device.failed ≡ false;
  flushed : l.device.flush_failed ≡ l.fn.device.flush_failed;
  calls : l.device.calls ≤ l.fn.device.calls + l.taken;
  taken : Appends (g.W.Write.contents l.fn.device.inner) (g.W.Write.contents l.device.inner) (take l.taken l.bytes);
}

abbrev pub decreases-loop-taken : goal.decreases-loop-taken
decreases-loop-taken g l = length l.bytes - l.taken
