-- Accepted once is accepted everywhere: of the events of a cascade.
use Rattle.std.specs.Prelude.{◌≡◌, ℕ, true, None, Some, List, ◌∷◌, ◌++◌, slice_get}
use Rattle.afdx_frame.specs.declared.link.Side.{Side}
use Rattle.afdx_config.specs.Rows.{LinkRow}
use Rattle.afdx_police.specs.Arrival.{Arrival, names}
use Rattle.afdx_switch.specs.Admitted.{IsAdmittedRun}
use Rattle.afdx_switch.specs.Tables.{rule_of, goes_to}
use Rattle.afdx_switch.specs.Verdicts.{reason_of}
use Rattle.afdx_cascade.specs.Cables.{IsNextRow}
use Rattle.afdx_cascade.specs.SwitchEvents.{Plan, IsPlan, SwitchEvent, KeepsRules, came_to, end_at}

-- a link's row at switch j goes on to its row at switch k
pub record IsNextThere (c : Plan) (j k : ℕ) (before next : LinkRow) : Type 0 where
  pub place : ℕ
  pub stands : slice_get (c.tables j).links place ≡ Some before
  pub next_place : ℕ
  pub next_stands : slice_get (c.tables k).links next_place ≡ Some next
  -- a cable joins the port where the link comes in to one where it goes out
  pub port : ℕ
  pub cable : c.far_end k (rule_of (c.tables k) next).port ≡ Some (end_at j port)
  pub goes : goes_to (c.tables j) before port ≡ true
  pub row : IsNextRow before next

-- Each frame of the link that the cable brings is accepted, whatever else arrives.
abbrev pub BroughtIsAccepted : Type 0
BroughtIsAccepted =
    (c : Plan) (so_far : List SwitchEvent) (side : Side) (j k : ℕ) (before next : LinkRow)
    (later past : List Arrival) (x : Arrival) →
    IsPlan c →
    KeepsRules c so_far →
    IsNextThere c j k before next →
    IsAdmittedRun (c.tables j) (came_to j so_far) →
    IsAdmittedRun (c.tables k) (came_to k so_far) →
    came_to k so_far ≡ later ++ x ∷ past →
    x.side ≡ side →
    (rule_of (c.tables k) next).port ≡ x.port →
    names next.vl x.bytes ≡ true →
    reason_of (c.tables k) past x ≡ None
