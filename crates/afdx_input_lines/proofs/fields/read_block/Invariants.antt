use Rattle.std.proofs.Common.{◌≡◌, ◌*◌, ◌≤◌, length, take, drop}
use Rattle.hex.specs.Hex.{decode_pairs}
use Rattle.hex.proofs.Pairs.{prepend}
use Rattle.afdx_input_lines.proofs.DigitLemmas.{AreValues}
use Rattle.afdx_input_lines.proofs.fields.read_block.Given as goal

abbrev pub invariant-values : goal.invariant-values
invariant-values l = l.greatest ≤ 15 → AreValues l.digits l.values l.at

abbrev pub invariant-bytes : goal.invariant-bytes
invariant-bytes l = record {
  values : l.greatest ≤ 15 → AreValues l.digits l.values (length l.digits);
  bytes : l.greatest ≤ 15 → decode_pairs 0 l.digits
      ≡ prepend (take l.i l.bytes) (decode_pairs (2 * l.i) (drop (2 * l.i) l.digits));
}
