use Rattle.std.proofs.Common.{refl, arith}
use Rattle.afdx_input_runs.proofs.seen_frames.ByRoleWatchedRunInputAsListsSeen.starts.Goals as goal

pub returns-clause-sound : goal.returns-clause-sound
returns-clause-sound g c input fresh = rw (fresh.came.sound, fresh.left.sound) refl

pub returns-clause-asked : goal.returns-clause-asked
returns-clause-asked g c settled input fresh = (omega arith, omega arith)
