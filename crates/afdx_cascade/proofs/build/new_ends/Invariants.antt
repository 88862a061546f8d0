use Rattle.std.proofs.Common.{◌≡◌, ◌/◌, ◌%◌}
use Rattle.afdx_config.specs.Switches.{far_end}
use Rattle.afdx_switch.proofs.NewLemmas.{Gathered}
use Rattle.afdx_cascade.proofs.build.new_ends.Given as goal

abbrev pub invariant-loop-place : goal.invariant-loop-place
invariant-loop-place l =
    Gathered (λ i e. e ≡ far_end l.switches (i / 25) (i % 25)) l.place l.ends.items
