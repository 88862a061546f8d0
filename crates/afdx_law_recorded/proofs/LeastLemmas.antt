-- The least of several is no more than each.
use Rattle.std.proofs.Common.{◌≡◌, zero, suc, ◌≤◌, [], ◌∷◌, Some, subst, arith}
use Rattle.afdx_lawful.specs.Sources.{Way, least_left, left_by}
use Rattle.afdx_law_recorded.specs.Receivers.{LeastIsLeft}

same-some : {X : Type 0} {x y : X} → Some x ≡ Some y → x ≡ y
same-some h = cc

pub least_left_least : LeastIsLeft
unfolding least_left
least_left_least [] k way h bytes = absurd (cc h)
least_left_least (first ∷ []) zero way h bytes =
    subst (λ (w : Way). left_by first bytes ≤ left_by w bytes) (same-some h) (omega arith)
least_left_least (first ∷ []) (suc k) way h bytes = absurd (cc h)
least_left_least (first ∷ next ∷ more) zero way h bytes =
    subst (λ (w : Way). least_left (first ∷ next ∷ more) bytes ≤ left_by w bytes) (same-some h) (omega arith)
least_left_least (first ∷ next ∷ more) (suc k) way h bytes =
    let rest = least_left_least (next ∷ more) k way h bytes in omega (arith, rest)
