use Rattle.std.proofs.Common.{sym, ◌∙◌}
use Rattle.afdx_frame.specs.declared.seals.Seal.TheVariants.{Right, Wrong, Missing}
use Rattle.afdx_conform.proofs.ByBytesLemmas.{at-so}
use Rattle.afdx_conform.proofs.by_bytes.ByBytes.at.Goals as goal

pub returns-in-Right : goal.returns-in-Right
returns-in-Right c =
    at-so c.args.self.now c.args.bytes.now c.key-seal.result.1.now Right c.at.result.now (sym c.in-Right.is
    ∙ c.key-seal.ensures.seal)
    c.key-seal.ensures.key c.at.ensures

pub returns-in-Wrong : goal.returns-in-Wrong
returns-in-Wrong c =
    at-so c.args.self.now c.args.bytes.now c.key-seal.result.1.now Wrong c.at-in-Wrong.result.now
    (sym c.in-Wrong.is ∙ c.key-seal.ensures.seal) c.key-seal.ensures.key c.at-in-Wrong.ensures

pub returns-in-Missing : goal.returns-in-Missing
returns-in-Missing c =
    at-so c.args.self.now c.args.bytes.now c.key-seal.result.1.now Missing c.at-in-Missing.result.now
    (sym c.in-Missing.is ∙ c.key-seal.ensures.seal) c.key-seal.ensures.key c.at-in-Missing.ensures
