use Rattle.std.proofs.Common.{◌≡◌, length, map}
use Rattle.afdx_explain.specs.Forms.{text_among}
use Rattle.afdx_explain.proofs.entry.key_among.Given as goal

abbrev pub invariant-loop-keys : goal.invariant-loop-keys
invariant-loop-keys l =
    text_among (map (λ key. (key.3.now, key.4.now)) l.keys) l.line
    ≡ text_among (map (λ key. (key.3.now, key.4.now)) l.initial.keys) l.line

abbrev pub decreases-loop-keys : goal.decreases-loop-keys
decreases-loop-keys l = length l.keys
