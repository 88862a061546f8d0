-- The window rule (ARINC 664 Part 7): what a regulated link may send. A list of frames has the
-- newest first.
use Rattle.std.specs.Prelude.{ℕ, ◌+◌, ◌*◌, ◌-◌, ◌<◌, ◌≤◌, Bool, true, ◌&&◌, nat_le, if◌then◌else◌}
use Rattle.std.specs.Prelude.{List, [], ◌∷◌, length, take, sum_by, slice_index_or}
use Rattle.afdx_frame.specs.Regulation.{Regulation, bag, jitter}

-- a frame as the window rule sees it: when it came, in nanoseconds, and the bytes that it is
-- charged
pub record Charged : Type 0 where
  pub time : ℕ
  pub charge : ℕ

-- a window that begins at `start` with frames of `taken` bytes may end with `last`
abbrev pub keeps_window : Regulation → ℕ → ℕ → Charged → Bool
keeps_window link start taken last =
    nat_le (bag link * (taken + last.charge))
    (link.smax * ((last.time - start) + bag link + jitter link))

-- `last` keeps each window that begins with one of these, after which frames of `taken` bytes came
unfoldable pub keeps_windows : Regulation → List Charged → ℕ → Charged → Bool
keeps_windows link [] taken last = true
keeps_windows link (first ∷ before) taken last =
    keeps_window link first.time (taken + first.charge) last
    && keeps_windows link before (taken + first.charge) last

-- `last` keeps the window of itself alone, and each that begins with one of the accepted
abbrev pub fits : Regulation → List Charged → Charged → Bool
fits link accepted last = keeps_window link last.time 0 last && keeps_windows link accepted 0 last

-- the accepted ones, with the next frame if it fits
abbrev pub with_next : Regulation → List Charged → Charged → List Charged
with_next link accepted x = if fits link accepted x then x ∷ accepted else accepted

-- those that are accepted of all that came
unfoldable pub accepted_of : Regulation → List Charged → List Charged
accepted_of link [] = []
accepted_of link (x ∷ past) = with_next link (accepted_of link past) x

abbrev pub total_charge : List Charged → ℕ
total_charge frames = sum_by (λ x. x.charge) frames

-- the window rule in numbers: of the window of `last` alone, and of those of the newest accepted
-- one, the two newest, and so on
pub record Fits (link : Regulation) (accepted : List Charged) (last : Charged) : Type 0 where
  pub alone : bag link * last.charge ≤ link.smax * (bag link + jitter link)
  pub windows : (k : ℕ) →
      k < length accepted →
      bag link * (total_charge (take (k + 1) accepted) + last.charge)
      ≤ link.smax * ((last.time - (slice_index_or accepted k last).time) + bag link + jitter link)
