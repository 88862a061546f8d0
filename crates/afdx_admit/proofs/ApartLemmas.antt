-- How far apart copies may be sent, over one switch more.
use Rattle.std.proofs.Common.{◌≡◌, ℕ, ◌+◌, List, Option, None, refl, sym, ap, ◌∙◌, add-one}
use Rattle.afdx_config.specs.Switches.{NamedRows}
use Rattle.afdx_admit.specs.Apart.{lesser, apart_at, apart_over}

pub nowhere : (switches : List NamedRows) (vl : ℕ) → None ≡ apart_over switches vl 0
unfolding apart_over
nowhere switches vl = refl

over-more : (switches : List NamedRows) (vl k : ℕ)
    → apart_over switches vl (k + 1) ≡ lesser (apart_over switches vl k) (apart_at switches vl k)
unfolding apart_over
over-more switches vl k = rw add-one refl

pub over-next : (switches : List NamedRows) (vl k : ℕ) (before here after : Option ℕ)
    → before ≡ apart_over switches vl k → here ≡ apart_at switches vl k → after ≡ lesser before here
    → after ≡ apart_over switches vl (k + 1)
over-next switches vl k before here after e f g =
    g ∙ ap (λ o. lesser o here) e ∙ ap (lesser (apart_over switches vl k)) f ∙ sym (over-more switches vl k)
