-- Two plans that have the same tables at each switch and the same cable at each port.
use Rattle.std.proofs.Common.{◌≡◌, ℕ, List, [], ◌∷◌, sym, ap, ◌∙◌, subst, inl, inr}
use Rattle.afdx_config.specs.Rows.{Rows}
use Rattle.afdx_network.specs.Events.{Came, admission_after}
use Rattle.afdx_network.specs.Network.{IsNextOn}
use Rattle.afdx_port.specs.Schedule.{AreTurns}
use Rattle.afdx_switch.specs.Tables.{byte_ns_at, entries_at}
use Rattle.afdx_cascade.specs.Runs.{Line, AreAll, IsDue, IsNextEvent}
use Rattle.afdx_cascade.specs.Runs.{Runs, event_at}
use Rattle.afdx_cascade.specs.SwitchEvents.{AlwaysKeepsRules, KeepsRules, Plan, SwitchEvent, at_switch, came_to}
use Rattle.afdx_cascade.specs.SwitchEvents.{turns_of}

pub record ArePlansSame (c d : Plan) : Type 0 where
  pub tables : (k : ℕ) → c.tables k ≡ d.tables k
  pub ends : (k port : ℕ) → c.far_end k port ≡ d.far_end k port

pub turned-back : (c d : Plan) → ArePlansSame c d → ArePlansSame d c
turned-back c d same = record { tables = λ k. sym (same.tables k); ends = λ k port. sym (same.ends k port) }

module _ (c d : Plan) (same : ArePlansSame c d) where
  rules-same : (es : List SwitchEvent) → KeepsRules c es → KeepsRules d es
  rules-same es keeps = record {
    turns = λ k port side low high.
        subst (λ (t : Rows). AreTurns (byte_ns_at t port) (entries_at t side port (came_to k es))
        (turns_of k side port es)) (same.tables k) (keeps.turns k port side low high);
    cables = λ k port side other joined. keeps.cables k port side other (same.ends k port ∙ joined);
  }

  pub always-same : (es : List SwitchEvent) → AlwaysKeepsRules c es → AlwaysKeepsRules d es
  always-same [] keeps = tt
  always-same (h ∷ before) keeps = (rules-same (h ∷ before) keeps.0, always-same before keeps.1)

  -- what is due by the one is due by the other
  pub due-same : (es : List SwitchEvent) (place : List ℕ) (h : SwitchEvent) → IsDue c es place h → IsDue d es place h
  due-same es place h (inl turn) = inl (record {
    k = turn.k;
    side = turn.side;
    port = turn.port;
    turn = turn.turn;
    low = turn.low;
    high = turn.high;
    next = subst (λ (t : Rows). IsNextOn t (at_switch turn.k es) turn.side turn.port turn.turn) (same.tables turn.k)
        turn.next;
    place_is = turn.place_is;
    is = turn.is;
  })
  due-same es place h (inr frame) = inr (record {
    k = frame.k;
    side = frame.side;
    port = frame.port;
    other = frame.other;
    joined = sym (same.ends frame.k frame.port) ∙ frame.joined;
    later = frame.later;
    arrival = frame.arrival;
    waits = frame.waits;
    place_is = frame.place_is;
    is = frame.is ∙ ap (λ (t : Rows). event_at frame.k (Came (admission_after t (came_to frame.k es) frame.arrival)))
        (same.tables frame.k);
  })

module _ (c d : Plan) (same : ArePlansSame c d) where
  next-same : (es : List SwitchEvent) (lines : List Line) (h : SwitchEvent) (rest : List Line)
      → IsNextEvent c es lines h rest → IsNextEvent d es lines h rest
  next-same es lines h rest (inl next) = inl (
    record {
      place = next.0.place;
      due = due-same c d same es next.0.place h next.0.due;
      before_line = next.0.before_line;
      first = λ other g due. next.0.first other g (due-same d c (turned-back c d same) es other g due);
    },
    next.1,
  )
  next-same es lines h rest (inr next) = inr (record {
    line = next.line;
    are = next.are;
    free = sym (same.ends next.line.switch next.line.arrival.port) ∙ next.free;
    is = next.is ∙ ap (λ (t : Rows). event_at next.line.switch
        (Came (admission_after t (came_to next.line.switch es) next.line.arrival))) (same.tables next.line.switch);
    first = λ place g due. next.first place g (due-same d c (turned-back c d same) es place g due);
  })

  runs-same : (lines : List Line) (es : List SwitchEvent) (rest : List Line) → Runs c lines es rest
      → Runs d lines es rest
  runs-same lines [] rest runs = runs
  runs-same lines (h ∷ before) rest runs =
      (runs.0, runs-same lines before runs.0 runs.1, next-same before runs.0 h rest runs.2)

  -- so all events of a list are the same
  pub all-same : (lines : List Line) (es : List SwitchEvent) → AreAll c lines es → AreAll d lines es
  all-same lines es all = record {
    runs = runs-same lines es [] all.runs;
    none = λ place h due. all.none place h (due-same d c (turned-back c d same) es place h due);
  }
