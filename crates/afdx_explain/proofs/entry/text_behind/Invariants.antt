use Rattle.std.proofs.Common.{◌≡◌, drop, length, map}
use Rattle.afdx_explain.specs.Forms.{text_among}
use Rattle.afdx_explain.proofs.entry.text_behind.Given as goal

abbrev pub invariant-loop-entries : goal.invariant-loop-entries
invariant-loop-entries l =
    text_among (map (λ e. (drop l.count e.0.now, e.1.now)) l.entries) l.line
    ≡ text_among (map (λ e. (drop l.count e.0.now, e.1.now)) l.initial.entries) l.line

abbrev pub decreases-loop-entries : goal.decreases-loop-entries
decreases-loop-entries l = length l.entries
