-- What one switch decides of an arrival, after these earlier ones. A list of arrivals has the
-- newest first.
use Rattle.std.specs.Prelude.{◌≡◌, ℕ, ◌≤◌, Bool, false, Option, Some, None, List, [], ◌∷◌, filter, find}
use Rattle.afdx_frame.specs.Ports.{last_port}
use Rattle.afdx_config.specs.Rows.{Rows}
use Rattle.afdx_police.specs.Arrival.{Arrival}
use Rattle.afdx_police.specs.Shape.{fault_of}
use Rattle.afdx_police.specs.Verdicts.{verdict_in}
use Rattle.afdx_police.specs.declared.shape.Reason.{Reason}
use Rattle.afdx_law_bounds.specs.Offered.{is_lost}
use Rattle.afdx_law_bounds.specs.Outputs.{Row, sends, entry_of}
use Rattle.afdx_switch.specs.Ports.{holds}
use Rattle.afdx_switch.specs.Tables.{rows_of, output_at, row_named, carried, byte_ns_at, entries_at}
use Rattle.afdx_switch.specs.declared.verdict.Verdict.{Verdict}
use Rattle.afdx_switch.specs.declared.verdict.Verdict.TheVariants.{Dropped, Accepted}

-- why an arrival is dropped that names this link: from the link's own arrivals alone
abbrev pub reason_on : List Arrival → Arrival → Option Row → Option Reason
reason_on past x None = fault_of None x.port x.bytes
reason_on past x (Some r) = verdict_in r.rule past x

unfoldable pub reason_of : Rows → List Arrival → Arrival → Option Reason
reason_of t past x = reason_on past x (row_named t x.bytes)

-- what is wrong with the shape of an arrival that names this link, if something is
abbrev pub fault_on : Arrival → Option Row → Option Reason
fault_on x None = fault_of None x.port x.bytes
fault_on x (Some r) = fault_of (Some r.rule) x.port x.bytes

unfoldable pub shape_fault : Rows → Arrival → Option Reason
shape_fault t x = fault_on x (row_named t x.bytes)

-- a frame that its link's row sends to this port is lost there: what waits leaves no room for it
abbrev pub is_share_lost : Rows → List Arrival → Arrival → ℕ → Option Row → Bool
is_share_lost t past x port None = false
is_share_lost t past x port (Some r) =
    is_lost (byte_ns_at t port) t.buffer (entries_at t x.side port past) (entry_of (carried t) r x)

-- the arrival is accepted, goes to this port, and is lost there
unfoldable pub is_lost_at : Rows → List Arrival → Arrival → ℕ → Bool
is_lost_at t past x port =
    is_share_lost t past x port (find (sends (output_at t x.side port) past x) (rows_of t))

-- the ports of a switch
abbrev pub numbers : List ℕ
numbers =
    1 ∷ 2 ∷ 3 ∷ 4 ∷ 5 ∷ 6 ∷ 7 ∷ 8 ∷ 9 ∷ 10 ∷ 11 ∷ 12 ∷
    13 ∷ 14 ∷ 15 ∷ 16 ∷ 17 ∷ 18 ∷ 19 ∷ 20 ∷ 21 ∷ 22 ∷ 23 ∷ 24 ∷ []

-- the ports at which it is lost, in ascending order
unfoldable pub lost_ports : Rows → List Arrival → Arrival → List ℕ
lost_ports t past x = filter (is_lost_at t past x) numbers

-- this is what the switch answers
abbrev pub IsVerdict : Rows → List Arrival → Arrival → Verdict → Type 0
IsVerdict t past x (Dropped reason) = reason_of t past x ≡ Some reason
IsVerdict t past x (Accepted lost) =
    (reason_of t past x ≡ None)
    × ((port : ℕ) → 1 ≤ port → port ≤ last_port → holds lost port ≡ is_lost_at t past x port)
