-- The first link that leaves the copies of its frames less than is asked for, in ns.
use Rattle.std.specs.Prelude.{◌≡◌, ℕ, zero, suc, ◌≤◌, nat_lt, List, length, Option, Some, None}
use Rattle.std.specs.Prelude.{slice_get, option_map, option_and_then, if◌then◌else◌}
use Rattle.std.specs.Option.{option_or}
use Rattle.afdx_config.specs.Rows.{LinkRow, Rows}
use Rattle.afdx_config.specs.Switches.{NamedRows}
use Rattle.afdx_config.specs.AtSwitch.{tables_at}
use Rattle.afdx_admit.specs.Apart.{link_apart, row_apart_at, cascade_apart}
use Rattle.afdx_solve.specs.declared.short.Short.{Short}
use Rattle.afdx_solve.specs.declared.short.ShortAt.{ShortAt}

-- a link that leaves so much, if that is less
abbrev pub if_less : (apart vl ns : ℕ) → Option Short
if_less apart vl ns =
    if nat_lt ns apart then Some (record { vl = record { 0 = vl }; ns = ns }) else None

-- a link without a system that gets it leaves whatever is asked for
abbrev pub short_if : (apart vl : ℕ) → (left : Option ℕ) → Option Short
short_if apart vl left = option_and_then (if_less apart vl) left

-- the first that is, of the first places, as many as this
unfoldable pub first_of : {X : Type 0} → (short : ℕ → Option X) → ℕ → Option X
first_of short zero = None
first_of short (suc count) = option_or (first_of short count) (short count)

-- ---- of one switch on a side

unfoldable pub short_link : (apart : ℕ) → Rows → ℕ → Option Short
short_link apart t i =
    option_and_then (λ l. short_if apart l.vl (link_apart t l)) (slice_get t.links i)

abbrev pub first_short : (apart : ℕ) → Rows → Option Short
first_short apart t = first_of (short_link apart t) (length t.links)

-- no link leaves less than this
abbrev pub EachLeaves : (apart : ℕ) → Rows → Type 0
EachLeaves apart t =
    (i : ℕ) (l : LinkRow) (ns : ℕ) →
    slice_get t.links i ≡ Some l →
    link_apart t l ≡ Some ns →
    apart ≤ ns

-- ---- of several, each row by what it leaves to the systems of its switch

abbrev pub short_row : (apart : ℕ) → List NamedRows → ℕ → Rows → LinkRow → Option Short
short_row apart switches k t l = short_if apart l.vl (row_apart_at switches k t l)

unfoldable pub short_place : (apart : ℕ) → List NamedRows → (k : ℕ) → Rows → (i : ℕ) → Option Short
short_place apart switches k t i =
    option_and_then (short_row apart switches k t) (slice_get t.links i)

abbrev pub at_switch : ℕ → Short → ShortAt
at_switch k short = record { switch = record { 0 = k }; short = short }

unfoldable pub short_switch : (apart : ℕ) → List NamedRows → ℕ → Option ShortAt
short_switch apart switches k =
    option_and_then (λ t. option_map (at_switch k)
    (first_of (short_place apart switches k t) (length t.links))) (tables_at switches k)

abbrev pub first_short_at : (apart : ℕ) → List NamedRows → Option ShortAt
first_short_at apart switches = first_of (short_switch apart switches) (length switches)

abbrev pub EachLeavesAt : (apart : ℕ) → List NamedRows → Type 0
EachLeavesAt apart switches =
    (vl ns : ℕ) → cascade_apart switches vl ≡ Some ns → apart ≤ ns

-- ---- where none is short, each leaves so much

abbrev pub NoneIsShort : Type 0
NoneIsShort = (apart : ℕ) (t : Rows) → first_short apart t ≡ None → EachLeaves apart t

abbrev pub NoneIsShortAt : Type 0
NoneIsShortAt =
    (apart : ℕ) (switches : List NamedRows) →
    first_short_at apart switches ≡ None →
    EachLeavesAt apart switches
