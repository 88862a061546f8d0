-- When frames of sources wait no longer.
use Rattle.std.specs.Prelude.{◌≡◌, ℕ, ◌==◌, Bool, true, false, Option, Some, ◌⊎◌, List}
use Rattle.std.specs.List.{All, Contains}
use Rattle.std.specs.Ordering.{nat_cmp, flip_args, on}
use Rattle.std.specs.declared.cmp.Ordering.{Ordering}
use Rattle.afdx_senders.specs.Order.{is_moment_before}
use Rattle.afdx_senders.specs.declared.agenda.DueSource.{DueSource}

-- at this moment frames of the source at this place wait no longer
abbrev pub awaited : ℕ → ℕ → DueSource
awaited moment place = record { moment = moment; place = place }

-- as a heap has them, the first on top
abbrev pub moment_of : DueSource → ℕ
moment_of x = x.moment

abbrev pub is_same_moment : DueSource → DueSource → Bool
is_same_moment = on moment_of ◌==◌

abbrev pub by_moment : DueSource → DueSource → Ordering
by_moment = flip_args (on moment_of nat_cmp)

-- it lies before that time, if there is one
abbrev pub IsDueBefore : Option ℕ → DueSource → Type 0
IsDueBefore before x = is_moment_before before x.moment ≡ true

-- none of them does
abbrev pub IsNoneBefore : Option ℕ → List DueSource → Type 0
IsNoneBefore before xs = All (λ x. is_moment_before before x.moment ≡ false) xs

-- what was awaited still is; what is due now is, unless it was before
pub record AwaitsToo (place : ℕ) (before after : Option ℕ) (old new : List DueSource) : Type 0
  where
    pub kept : (e : DueSource) → Contains old e → Contains new e
    pub due : (m : ℕ) → after ≡ Some m → (before ≡ Some m) ⊎ Contains new (awaited m place)
