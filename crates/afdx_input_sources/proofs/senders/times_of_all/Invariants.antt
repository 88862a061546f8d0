use Rattle.std.proofs.Common.{◌≡◌, ◌≤◌, length}
use Rattle.afdx_input_sources.proofs.TableLemmas.{HaveFirst}
use Rattle.afdx_input_sources.proofs.senders.times_of_all.Given as goal

abbrev pub invariant-loop-place : goal.invariant-loop-place
invariant-loop-place l =
    (l.place ≡ length l.times.items) × (l.place ≤ length l.fn.switches) × HaveFirst l.times.items l.fn.switches
