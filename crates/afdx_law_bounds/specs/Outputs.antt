-- The entries of an output port of a switch, from the tables and from all that arrives. A list of
-- arrivals has the newest first.
use Rattle.std.specs.Prelude.{◌≡◌, ℕ, ◌≤◌, ◌==◌, ◌&&◌, Bool, true, is_none, All, Contains}
use Rattle.std.specs.Prelude.{IsTrue, Option, Some, None, List, [], ◌∷◌, length, filter, map, find}
use Rattle.std.specs.Option.{option_map_or}
use Rattle.afdx_frame.specs.declared.link.Priority.{Priority}
use Rattle.afdx_frame.specs.declared.link.Side.{Side}
use Rattle.afdx_frame.specs.Flows.{Flow}
use Rattle.afdx_frame.specs.Layout.{identifier_count, link_named_by}
use Rattle.afdx_frame.specs.Regulation.{wire_of}
use Rattle.afdx_police.specs.Arrival.{Arrival, is_side, names}
use Rattle.afdx_police.specs.Charge.{charge_by}
use Rattle.afdx_police.specs.Rule.{Rule, is_bag, regulation_of}
use Rattle.afdx_police.specs.Verdicts.{charged_by, verdict_in}
use Rattle.afdx_port.specs.Schedule.{Entry}
use Rattle.afdx_law_bounds.specs.Curve.{wire}
use Rattle.afdx_law_bounds.specs.Offered.{entries_of}

-- a link of the tables: its rule, its class, its latency in ns, how long its frames may wait for a
-- turn if there is a limit, and the output ports that it goes to
pub record Row : Type 0 where
  pub rule : Rule
  pub priority : Priority
  pub latency : ℕ
  pub longest_wait : Option ℕ
  pub goes_to : ℕ → Bool

-- an output port: the side of its switch, its number, the time of a byte on its line in ns, and its
-- buffer in bytes
pub record Output : Type 0 where
  pub side : Side
  pub number : ℕ
  pub byte_ns : ℕ
  pub buffer : ℕ

-- each row has one of the gaps, and no two have one identifier
pub record AreRows (rows : List Row) : Type 0 where
  pub gaps : All (λ r. IsTrue (is_bag r.rule.bag_ms)) rows
  pub distinct : (r s : Row) → Contains rows r → Contains rows s → r.rule.vl ≡ s.rule.vl → r ≡ s

-- a row as a flow of the ports that it goes to
abbrev pub flow_of : Row → Flow
flow_of r = record {
  vl = r.rule.vl;
  link = regulation_of r.rule;
  priority = r.priority;
  latency = r.latency;
}

abbrev pub flows_at : ℕ → List Row → List Flow
flows_at number rows = map flow_of (filter (λ r. r.goes_to number) rows)

-- the times of the arrivals don't decrease
abbrev pub AreTimed : List Arrival → Type 0
AreTimed [] = Unit {0}
AreTimed (x ∷ past) = All (λ y. y.time ≤ x.time) past × AreTimed past

-- after these arrivals the row's link accepts this one
abbrev pub accepts : List Arrival → Arrival → Row → Bool
accepts past x r = is_none (verdict_in r.rule past x)

-- and it goes on to this port
abbrev pub sends : Output → List Arrival → Arrival → Row → Bool
sends o past x r = accepts past x r && (is_side o.side x.side && r.goes_to o.number)

module _ {X : Type 0} where
  -- the entry of a frame that arrived: `item_of` is what a port holds of it
  abbrev pub entry_of : (Arrival → X) → Row → Arrival → Entry X
  entry_of item_of r x = record {
    time = x.time;
    priority = r.priority;
    bytes = length x.bytes;
    longest_wait = r.longest_wait;
    item = item_of x;
  }

  -- what the port is offered, with an arrival that this row sends there, if one does
  abbrev pub with_sent : (Arrival → X) → Arrival → Option Row → List (Entry X) → List (Entry X)
  with_sent item_of x None offers = offers
  with_sent item_of x (Some r) offers = entry_of item_of r x ∷ offers

  -- what the port is offered of all of these arrivals, the newest first
  unfoldable pub offers_at : (Arrival → X) → List Row → Output → List Arrival → List (Entry X)
  offers_at item_of rows o [] = []
  offers_at item_of rows o (x ∷ past) = with_sent item_of x (find (sends o past x) rows)
      (offers_at item_of rows o past)

  -- its entries then
  abbrev pub entries_at : (Arrival → X) → List Row → Output → List Arrival → List (Entry X)
  entries_at item_of rows o arrivals =
      entries_of o.byte_ns o.buffer (offers_at item_of rows o arrivals)

  -- what a port holds of a frame tells its link and its charge
  pub record Carries (item_of : Arrival → X) (vl_of : X → ℕ) (charge_of : Entry X → ℕ)
      (rows : List Row) : Type 0 where
    pub link : (r : Row) (x : Arrival) →
        Contains rows r →
        names r.rule.vl x.bytes ≡ true →
        vl_of (item_of x) ≡ r.rule.vl
    pub charge : (r : Row) (x : Arrival) →
        Contains rows r →
        names r.rule.vl x.bytes ≡ true →
        charge_of (entry_of item_of r x) ≡ (charged_by r.rule x).charge

  -- the link that the bytes of an item name; if none, a number that no link has
  abbrev pub link_in : (X → List ℕ) → X → ℕ
  link_in bytes_of item =
      option_map_or (λ named. named.0) (link_named_by (bytes_of item)) identifier_count

  -- what its row charges for an entry
  abbrev pub charge_in : (X → List ℕ) → List Row → Entry X → ℕ
  charge_in bytes_of rows e =
      option_map_or (λ r. charge_by r.rule.policing (wire_of r.rule.lmax) (wire e))
      (find (λ r. r.rule.vl == link_in bytes_of e.item) rows) 0

-- an item that keeps the frame's bytes does
abbrev pub BytesCarry : Type 0 → Type 0
BytesCarry X =
    (item_of : Arrival → X) (bytes_of : X → List ℕ) (rows : List Row) →
    AreRows rows →
    ((x : Arrival) → bytes_of (item_of x) ≡ x.bytes) →
    Carries item_of (link_in bytes_of) (charge_in bytes_of rows) rows
