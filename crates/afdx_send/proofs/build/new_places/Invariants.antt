use Rattle.std.proofs.Common.{◌≡◌, replicate, None}
use Rattle.afdx_send.proofs.NewLemmas.{ArePlaces}
use Rattle.afdx_send.proofs.build.new_places.Given as goal

abbrev pub invariant-loop : goal.invariant-loop
invariant-loop l = l.places.items ≡ replicate l.counter None

abbrev pub invariant-loop-place : goal.invariant-loop-place
invariant-loop-place l = ArePlaces l.place l.lines.items l.places.items
