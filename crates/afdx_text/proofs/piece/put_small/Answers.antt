use Rattle.std.proofs.Common.{ℕ, List, [], ◌∷◌, ◌≡◌, ◌+◌, ◌/◌, ◌%◌, ◌++◌, ◌∙◌, arith, decimal, ap}
use Rattle.std.proofs.lemmas.Fmt.{decimal_digit, decimal_step}
use Rattle.afdx_text.proofs.piece.put_small.Goals as goal

pub returns-then-n-lt10-clause-text : goal.returns-then-n-lt10-clause-text
returns-then-n-lt10-clause-text c = rw (decimal_digit c.args.n (omega (arith, c.if-n-lt10.true))) c.put.ensures.text

pub returns-then-n-lt100-clause-text : goal.returns-then-n-lt100-clause-text
returns-then-n-lt100-clause-text c =
    let n : ℕ = c.args.n in
    let front : decimal (n / 10) ≡ (48 + n / 10) ∷ [] = decimal_digit (n / 10) (omega (arith, c.if-n-lt100.true)) in
    let last : List ℕ = (48 + n % 10) ∷ [] in
    let whole : decimal n ≡ (48 + n / 10) ∷ (48 + n % 10) ∷ [] =
    decimal_step n (omega (arith, c.if-n-lt10.false)) (omega (arith, c.if-n-lt100.true))
    ∙ ap (λ (ds : List ℕ). ds ++ last) front in
    rw whole c.put-then-n-lt100.ensures.text
