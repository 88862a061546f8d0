use Rattle.std.proofs.Common.{◌≡◌, ◌*◌, take}
use Rattle.hex.specs.Hex.{encode_lower}
use Rattle.afdx_text.proofs.digits.encode_blocks.Given as goal

abbrev pub invariant-loop-block : goal.invariant-loop-block
invariant-loop-block l = take (2 * (l.block * 16)) l.digits ≡ encode_lower (take (l.block * 16) l.bytes)
