use Rattle.std.proofs.Common.{refl, arith}
use Rattle.std.proofs.lemmas.Fmt.{decimal_digit}
use Rattle.afdx_text.proofs.numeral.Numeral.zero.Goals as goal

pub invariant_of-result : goal.invariant_of-result
invariant_of-result c =
    let digit = decimal_digit 0 (omega arith) in
    record {
      ends = rw digit refl;
      room = refl;
      written = rw digit refl;
    }
