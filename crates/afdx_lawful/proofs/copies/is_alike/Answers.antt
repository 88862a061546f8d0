use Rattle.std.proofs.Common.{rules, ◌≡◌, ℕ, false, List, take, sym, ◌∙◌}
use Rattle.std.specs.Str.{bytes_eq}
use Rattle.afdx_lawful.proofs.CopyLemmas.{alike_not}
use Rattle.afdx_lawful.proofs.copies.is_alike.Goals as goal

pub returns-else-front : goal.returns-else-front
returns-else-front c =
    let m : List ℕ = c.args.message.now in
    let o : List ℕ = c.args.other.now in
    let other : c.eq-front.result ≡ false = search rules in
    let is : c.eq-front.result ≡ bytes_eq (take 11 m) (take 11 o) = search rules in
    other ∙ alike_not m o c.requires.long c.requires.other_long (sym is ∙ other)
