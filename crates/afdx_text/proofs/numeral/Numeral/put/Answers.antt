use Rattle.std.proofs.Common.{ℕ, List, take, drop, ap, arith, ◌-◌, ◌++◌, ◌∙◌}
use Rattle.std.proofs.lemmas.List.{take-take}
use Rattle.afdx_text.proofs.numeral.Numeral.put.Goals as goal

pub returns-clause-digits : goal.returns-clause-digits
returns-clause-digits c =
    let me = c.args.self.now in
    c.put_front.ensures.text
    ∙ ap (λ (ys : List ℕ). take c.args.at c.args.room.now ++ ys)
    (take-take (20 - me.start) (52 - me.start) (drop me.start me.digits) (omega arith) ∙ me.written)
