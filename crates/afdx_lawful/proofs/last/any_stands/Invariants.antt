use Rattle.std.proofs.Common.{◌≡◌, ℕ, ◌<◌, false, get_or}
use Rattle.afdx_lawful.specs.LastCame.{stands_so}
use Rattle.afdx_lawful.proofs.last.any_stands.Given as goal

abbrev pub invariant-loop-other : goal.invariant-loop-other
invariant-loop-other l =
    (k : ℕ) → k < l.other → l.moment < get_or l.behind k 0 → stands_so l.is_later l.number k ≡ false
