use Rattle.std.proofs.Common.{arith, rules}
use Rattle.std.proofs.lemmas.Fmt.{length-decimal-le}
use Rattle.afdx_text.proofs.numeral.Numeral.write.Goals as goal

pub write_digits-self-requires : goal.write_digits-self-requires
write_digits-self-requires c = (search (rules, length-decimal-le 20), omega (arith, c.args.self.now.room))
