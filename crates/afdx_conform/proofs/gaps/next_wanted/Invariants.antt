use Rattle.std.proofs.Common.{ℕ, Bool, List, ◌≤◌, drop, length}
use Rattle.afdx_conform.specs.KnownBytes.{StandAt}
use Rattle.afdx_conform.specs.declared.arrived.Arrived.{Arrived}
use Rattle.afdx_conform.proofs.GapLemmas.{NoneFrom}
use Rattle.afdx_conform.proofs.gaps.next_wanted.Given as goal

abbrev pub invariant-loop-place : goal.invariant-loop-place
invariant-loop-place l = (test : Arrived → Bool) (arrivals : List Arrived) (start : ℕ)
    → length l.marks ≤ length arrivals
    → StandAt test start (drop start arrivals) l.places
    → (at : ℕ) × StandAt test at (drop at arrivals) (drop l.place-index l.places)
    × NoneFrom l.wanted test start at arrivals l.marks
