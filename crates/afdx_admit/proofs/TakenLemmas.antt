-- The rows that pass a test, among one row more.
use Rattle.std.proofs.Common.{◌≡◌, ℕ, ◌+◌, Bool, true, false, cond, List, [], ◌∷◌}
use Rattle.std.proofs.Common.{◌++◌, map, filter, take, slice_get, Some, refl, ap}
use Rattle.std.proofs.Common.{◌∙◌}
use Rattle.std.proofs.lemmas.List.{append-nil}
use Rattle.std.proofs.lemmas.Option.{get_or_from_slice_get, slice_get_within}
use Rattle.std.proofs.lemmas.List.Elements.{filter_more}
use Rattle.afdx_config.specs.Rows.{LinkRow, is_to}
use Rattle.afdx_config.specs.Flows.{flow_of_link}
use Rattle.afdx_config.specs.Admission.{flows_to, links_to}

more : {R : Type 0} (p : R → Bool) (rows : List R) (i : ℕ) (r : R) → slice_get rows i ≡ Some r →
    filter p (take (i + 1) rows) ≡ filter p (take i rows) ++ cond (p r) (r ∷ []) []
more p rows i r at =
    filter_more p rows i r (slice_get_within rows i r at)
    ∙ ap (λ x. filter p (take i rows) ++ cond (p x) (x ∷ []) []) (get_or_from_slice_get rows i r r at)

pub with_row : {R : Type 0} (p : R → Bool) (rows : List R) (i : ℕ) (r : R) → slice_get rows i ≡ Some r → p r ≡ true →
    filter p (take (i + 1) rows) ≡ filter p (take i rows) ++ r ∷ []
with_row p rows i r at passes = more p rows i r at ∙ ap (λ b. filter p (take i rows) ++ cond b (r ∷ []) []) passes

pub without_row : {R : Type 0} (p : R → Bool) (rows : List R) (i : ℕ) (r : R)
    → slice_get rows i ≡ Some r → p r ≡ false →
    filter p (take (i + 1) rows) ≡ filter p (take i rows)
without_row p rows i r at fails = more p rows i r at
    ∙ ap (λ b. filter p (take i rows) ++ cond b (r ∷ []) []) fails ∙ append-nil (filter p (take i rows))

map-push : {A B : Type 0} (f : A → B) (xs : List A) (x : A) → map f (xs ++ x ∷ []) ≡ map f xs ++ f x ∷ []
map-push f [] x = refl
map-push f (y ∷ ys) x = ap (λ t. f y ∷ t) (map-push f ys x)

pub with_flow_to : (links : List LinkRow) (i system : ℕ) (l : LinkRow) → slice_get links i ≡ Some l
    → is_to system l ≡ true →
    flows_to (take (i + 1) links) system ≡ flows_to (take i links) system ++ flow_of_link l ∷ []
with_flow_to links i system l at goes =
    ap (map flow_of_link) (with_row (is_to system) links i l at goes)
    ∙ map-push flow_of_link (links_to (take i links) system) l

pub without_flow_to : (links : List LinkRow) (i system : ℕ) (l : LinkRow)
    → slice_get links i ≡ Some l → is_to system l ≡ false →
    flows_to (take (i + 1) links) system ≡ flows_to (take i links) system
without_flow_to links i system l at stays = ap (map flow_of_link) (without_row (is_to system) links i l at stays)
