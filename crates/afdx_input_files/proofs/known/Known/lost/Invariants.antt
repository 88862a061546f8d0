use Rattle.std.proofs.Common.{◌≡◌, drop}
use Rattle.afdx_input_files.specs.Recordings.{lost_at}
use Rattle.afdx_input_files.proofs.known.Known.lost.Given as goal

abbrev pub invariant-loop-interface : goal.invariant-loop-interface
invariant-loop-interface l = lost_at l.lost (drop l.interface-index l.self.interfaces.items)
    ≡ lost_at l.self.lost_before l.self.interfaces.items
