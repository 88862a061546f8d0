use Rattle.std.proofs.Common.{◌≡◌, ◌*◌, take, drop}
use Rattle.hex.specs.Hex.{decode_pairs}
use Rattle.hex.proofs.Pairs.{prepend}
use Rattle.afdx_input_lines.proofs.fields.read_blocks.Given as goal

abbrev pub invariant-loop-block : goal.invariant-loop-block
invariant-loop-block l =
    decode_pairs 0 l.digits ≡ prepend (take (l.block * 32) l.bytes)
    (decode_pairs (2 * (l.block * 32)) (drop (2 * (l.block * 32)) l.digits))
