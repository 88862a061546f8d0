use Rattle.std.proofs.Common.{◌≡◌, length, map}
use Rattle.afdx_explain.specs.Forms.{named_among}
use Rattle.afdx_explain.proofs.entry.named_among.Given as goal

abbrev pub invariant-loop-entries : goal.invariant-loop-entries
invariant-loop-entries l =
    named_among (map (λ e. (e.0.now, e.1.now)) l.entries) l.line
    ≡ named_among (map (λ e. (e.0.now, e.1.now)) l.initial.entries) l.line

abbrev pub decreases-loop-entries : goal.decreases-loop-entries
decreases-loop-entries l = length l.entries
