-- Where nothing is found of a source, each of its frames counts as sent.
use Rattle.std.proofs.Common.{◌≡◌, ℕ, ◌-◌, List, [], ◌∷◌, ◌++◌, length, map, reverse, refl, ap, ap₂, ◌∙◌, arith}
use Rattle.std.specs.Prelude.{filter}
use Rattle.std.proofs.lemmas.Bool.{cond-true}
use Rattle.afdx_frame.specs.declared.link.Side.{Side}
use Rattle.afdx_frame.specs.declared.link.Side.TheVariants.{A, B}
use Rattle.afdx_lawful.specs.Alone.{is_empty}
use Rattle.afdx_lawful.specs.Judged.{found_at, found_coming, found_of, found_single, judged_source, quiet, single_at}
use Rattle.afdx_lawful.specs.Judged.{singles}
use Rattle.afdx_lawful.specs.Partners.{Waiting}
use Rattle.afdx_lawful.specs.RightTwice.{NothingFoundIsSent}
use Rattle.afdx_lawful.specs.Sources.{Came, Source}
use Rattle.afdx_lawful.proofs.CleanLemmas.{no_parts, none_mapped, none_reversed}

all-quiet : (s : Source) (xs : List Came) → found_coming s xs ≡ [] → quiet s xs ≡ xs
unfolding found_coming quiet
all-quiet s [] h = refl
all-quiet s (x ∷ past) h =
    let both = no_parts (map (found_at x.time x.side) (reverse (found_of s past x))) (found_coming s past) h in
    let none = none_reversed (found_of s past x) (none_mapped (found_at x.time x.side) _ both.0) in
    cond-true (is_empty (found_of s past x)) (x ∷ quiet s past) (quiet s past) (ap is_empty none)
    ∙ ap (λ (l : List Came). x ∷ l) (all-quiet s past both.1)

none-alone : (s : Source) (side : Side) (xs : List Came) → found_single s side xs ≡ [] → singles s side xs ≡ []
none-alone s side xs h = none_reversed (singles s side xs) (none_mapped (single_at s) (reverse (singles s side xs)) h)

less-none : (n : ℕ) → n - 0 ≡ n
less-none n = omega arith

pub nothing_found_sent : NothingFoundIsSent
unfolding judged_source
nothing_found_sent s xs h =
    ap₂ (λ (q : List Came) (alone : List Waiting). length q - length (filter (λ y. y.is_quiet) alone))
    (all-quiet s xs h.coming)
    (ap₂ (λ (a b : List Waiting). a ++ b) (none-alone s A xs (h.single A)) (none-alone s B xs (h.single B)))
    ∙ less-none (length xs)
