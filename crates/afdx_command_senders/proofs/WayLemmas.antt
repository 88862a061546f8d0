-- The ways of a link over several switches, over one switch more.
use Rattle.std.proofs.Common.{◌≡◌, ℕ, ◌+◌, List, [], ◌++◌, refl, sym, ap, ◌∙◌, add-one}
use Rattle.afdx_config.specs.Switches.{NamedRows}
use Rattle.afdx_lawful.specs.Sources.{Way}
use Rattle.afdx_command_senders.specs.LinkWays.{ways_at, ways_over}

pub no-ways : (switches : List NamedRows) (vl : ℕ) → [] ≡ ways_over switches vl 0
unfolding ways_over
no-ways switches vl = refl

over-more : (switches : List NamedRows) (vl k : ℕ)
    → ways_over switches vl (k + 1) ≡ ways_over switches vl k ++ ways_at switches vl k
unfolding ways_over
over-more switches vl k = rw add-one refl

pub ways-next : (switches : List NamedRows) (vl k : ℕ) (before after : List Way) → before ≡ ways_over switches vl k
    → after ≡ before ++ ways_at switches vl k → after ≡ ways_over switches vl (k + 1)
ways-next switches vl k before after e f =
    f ∙ ap (λ (w : List Way). w ++ ways_at switches vl k) e ∙ sym (over-more switches vl k)
