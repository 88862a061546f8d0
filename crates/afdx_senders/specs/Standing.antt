-- What stands for all that came to the systems of a switch.
use Rattle.std.specs.Prelude.{◌≡◌, ℕ, true, false, nat_eq, Option, Some}
use Rattle.std.specs.List.{Contains}
use Rattle.afdx_senders.specs.Awaited.{awaited}
use Rattle.afdx_senders.specs.Followed.{AreFollowed, ByPlace, due_at}
use Rattle.afdx_senders.specs.Order.{is_moment_before}
use Rattle.afdx_senders.specs.declared.senders.Senders.{Senders}

-- these sources are followed, and what is due of each is awaited
pub record SendersStand (at : ByPlace) (senders : Senders) : Type 0 where
  pub followed : AreFollowed at senders.kept
  pub agenda : (place m : ℕ) → due_at (at place) ≡ Some m →
      Contains senders.agenda (awaited m place)

-- the same, but that what is due of the source at this place needn't be
pub record SendersStandBut (but : ℕ) (at : ByPlace) (senders : Senders) : Type 0 where
  pub followed : AreFollowed at senders.kept
  pub agenda : (place m : ℕ) → nat_eq place but ≡ false → due_at (at place) ≡ Some m →
      Contains senders.agenda (awaited m place)

-- a frame of the source at this place is to be told before a time, if there is one
abbrev pub IsDue : Option ℕ → ByPlace → ℕ → Type 0
IsDue before at place =
    (m : ℕ) × (due_at (at place) ≡ Some m) × (is_moment_before before m ≡ true)

-- none of any source is
abbrev pub IsNothingDue : Option ℕ → ByPlace → Type 0
IsNothingDue before at = (place m : ℕ) → due_at (at place) ≡ Some m →
    is_moment_before before m ≡ false
