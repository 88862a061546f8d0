use Rattle.std.proofs.Common.{sym, ◌∙◌}
use Rattle.afdx_frame.specs.declared.seals.Seal.TheVariants.{Right, Wrong, Missing}
use Rattle.afdx_conform.proofs.ByBytesLemmas.{added-so, rest-right, rest-wrong, rest-other}
use Rattle.afdx_conform.proofs.KeepLemmas.{if-ok-on}
use Rattle.afdx_conform.proofs.by_bytes.ByBytes.add.Goals as goal

pub returns-in-Right : goal.returns-in-Right
returns-in-Right c =
    if-ok-on c.add.result (λ u h. added-so c.args.self.now (record c.args.self.now { right = c.add.new.self })
    c.args.bytes.now
    c.key-seal.result.1.now Right c.args.place (sym c.in-Right.is ∙ c.key-seal.ensures.seal) c.key-seal.ensures.key h
    (rest-right c.args.self.now c.add.new.self)) c.add.ensures

pub returns-in-Wrong : goal.returns-in-Wrong
returns-in-Wrong c =
    if-ok-on c.add-in-Wrong.result (λ u h. added-so c.args.self.now
    (record c.args.self.now { wrong = c.add-in-Wrong.new.self })
    c.args.bytes.now c.key-seal.result.1.now Wrong c.args.place (sym c.in-Wrong.is
    ∙ c.key-seal.ensures.seal) c.key-seal.ensures.key h
    (rest-wrong c.args.self.now c.add-in-Wrong.new.self)) c.add-in-Wrong.ensures

pub returns-in-Missing : goal.returns-in-Missing
returns-in-Missing c =
    if-ok-on c.add-in-Missing.result (λ u h. added-so c.args.self.now
    (record c.args.self.now { other = c.add-in-Missing.new.self })
    c.args.bytes.now c.key-seal.result.1.now Missing c.args.place (sym c.in-Missing.is
    ∙ c.key-seal.ensures.seal) c.key-seal.ensures.key h
    (rest-other c.args.self.now c.add-in-Missing.new.self)) c.add-in-Missing.ensures
