-- The nodes of a tournament of releases, as two numbers.
use Rattle.std.specs.Prelude.{ℕ, ◌+◌, ◌*◌, ◌<◌, ◌==◌, ◌&&◌, Option, Some, None, if◌then◌else◌}
use Rattle.afdx_send.specs.declared.agenda.NextRelease.{NextRelease}

-- the greatest number of 64 bits
abbrev pub greatest : ℕ
greatest = 0xffffffffffffffff

-- the release that two numbers say; the greatest of both say that there is none
unfoldable pub release_in : ℕ → ℕ → Option NextRelease
release_in time place = if time == greatest && place == greatest then None
    else Some (record { time = time; place = place })

-- the two numbers of a release, or of none
abbrev pub node_of : Option NextRelease → ℕ × ℕ
node_of None = (greatest, greatest)
node_of (Some x) = (x.time, x.place)

-- what it goes by: its time, then its place; none goes last
abbrev pub rank_of : Option NextRelease → ℕ
rank_of x = (node_of x).0 * 0x10000000000000000 + (node_of x).1

-- its numbers are those that a node can hold
abbrev pub IsNode : Option NextRelease → Type 0
IsNode None = Unit {0}
IsNode (Some x) =
    (x.place < 0x10000000000000000) × (rank_of (Some x) < 0xffffffffffffffffffffffffffffffff)
