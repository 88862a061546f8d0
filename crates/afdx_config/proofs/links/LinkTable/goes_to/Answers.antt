use Rattle.std.proofs.Common.{◌≡◌, Bool, true, false, ℕ, Some, None, cond, length, slice_get, find}
use Rattle.std.proofs.Common.{position, nat_eq, nat_lt, refl, sym, ap, ◌∙◌, List}
use Rattle.std.specs.List.{position_or_len}
use Rattle.std.specs.Option.{option_map_or}
use Rattle.std.proofs.lemmas.List.Folds.{find_at}
use Rattle.std.proofs.lemmas.Option.{slice_get_past}
use Rattle.std.proofs.lemmas.Bool.{ltb-false}
use Rattle.afdx_config.specs.Rows.{LinkRow, is_to}
use Rattle.afdx_config.specs.Reading.{goes_to, link_of}
use Rattle.afdx_config.proofs.links.LinkTable.goes_to.Goals as goal

found_at : (p : LinkRow → Bool) (ls : List LinkRow) (i : ℕ) (b : Bool)
    → nat_lt (position_or_len p ls) (length ls) ≡ b → cond b (Some (position_or_len p ls)) None
    ≡ Some i → find p ls ≡ slice_get ls i
found_at p ls i true within e = find_at p ls ∙ ap (slice_get ls) (by (position_or_len p ls) e)
  where
    by : (n : ℕ) → Some n ≡ Some i → n ≡ i
    by n e = cc
found_at p ls i false within e = absurd cc

absent : (p : LinkRow → Bool) (ls : List LinkRow) (b : Bool)
    → nat_lt (position_or_len p ls) (length ls) ≡ b → cond b (Some (position_or_len p ls)) None
    ≡ None → find p ls ≡ None
absent p ls true within e = absurd cc
absent p ls false within e = find_at p ls ∙ slice_get_past ls (position_or_len p ls) (ltb-false _ _ within)

pub returns-in-Some : goal.returns-in-Some
unfolding goes_to link_of
returns-in-Some c =
    let p : LinkRow → Bool = λ l. nat_eq c.args.vl.0 l.vl in
    let ls : List LinkRow = c.args.self.now in
    let at : position p ls ≡ Some c.in-Some.index = sym c.in-Some.ensures.place in
    c.goes_to.ensures ∙ ap (λ o. option_map_or (is_to c.args.system.0) o false)
    (sym (found_at p ls c.in-Some.index _ refl at ∙ c.at.ensures))

pub returns-in-None : goal.returns-in-None
unfolding goes_to link_of
returns-in-None c =
    let p : LinkRow → Bool = λ l. nat_eq c.args.vl.0 l.vl in
    let ls : List LinkRow = c.args.self.now in
    let at : position p ls ≡ None = sym c.in-None.ensures.place in
    ap (λ o. option_map_or (is_to c.args.system.0) o false) (sym (absent p ls _ refl at))
