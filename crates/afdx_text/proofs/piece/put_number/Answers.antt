use Rattle.std.proofs.Common.{ℕ, List, arith, rules, drop, take, ap, ◌-◌, ◌++◌, ◌∙◌}
use Rattle.std.proofs.lemmas.Fmt.{length-decimal-le}
use Rattle.std.proofs.lemmas.List.{take-take}
use Rattle.afdx_text.proofs.TextLemmas.{first_digits}
use Rattle.afdx_text.proofs.piece.put_number.Goals as goal

pub write_digits-start-requires : goal.write_digits-start-requires
write_digits-start-requires c = search (rules, length-decimal-le 20)

pub returns-clause-text : goal.returns-clause-text
returns-clause-text c =
    let w = c.write_digits-start in
    c.put_front.ensures.text
    ∙ ap (λ (ys : List ℕ). take c.args.at c.args.room.now ++ ys)
    (take-take (20 - w.result) (52 - w.result) (drop w.result w.new.buf) (omega arith)
    ∙ first_digits w.new.buf _ c.args.n w.result w.ensures.start w.ensures.written)
