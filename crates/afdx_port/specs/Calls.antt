-- What each call of an output port does, whatever calls the port stands for.
use Rattle.std.specs.Prelude.{◌≡◌, ◌↔◌, ℕ, ◌+◌, ◌<◌, ◌≤◌, List, Option, Some, None}
use Rattle.std.specs.Prelude.{IfSome, IfNone, MatchOption}
use Rattle.std.specs.Prelude.{Result, IfErr, OnOk, OnErr, IsErr, MatchResult}
use Rattle.afdx_frame.specs.declared.link.Priority.{Priority}
use Rattle.afdx_port.specs.declared.left.Left.{Left}
use Rattle.afdx_port.specs.declared.port_state.PortState.{PortState}
use Rattle.afdx_port.specs.Due.{IsAfter}
use Rattle.afdx_port.specs.Facts.{Facts}
use Rattle.afdx_port.specs.Held.{choice_of, due_of, IsQuiet, last_time, frames_held}
use Rattle.afdx_port.specs.History.{PortHistory, at, with_put, entry_of, due_at, StandsFor}
use Rattle.afdx_port.specs.History.{Gives}
use Rattle.afdx_port.specs.Schedule.{Turn, IsNext, IsSchedule, IsLost}
use Rattle.afdx_port.specs.ScheduleOf.{schedule_of}
use Rattle.afdx_port.specs.Sound.{IsPortSound}
use Rattle.afdx_port.specs.Times.{drain_end}

module _ {X : Type 0} where
  -- a port that has begun each turn with a moment before a time, of which none was given
  pub record Advances (facts : X → Facts) (old new : PortState X) (time : ℕ) : Type 0 where
    pub sound : IsPortSound facts new
    pub clock : last_time new ≡ time
    pub stands : (h : PortHistory X) → StandsFor facts old h → StandsFor facts new (at h time)
    pub chosen : (c : Priority) (moment : ℕ) →
        new.sending ≡ None →
        choice_of new ≡ Some (c, moment) →
        time ≤ moment
    pub due : due_of facts new ≡ due_of facts old
    pub held : frames_held new ≡ frames_held old

  -- this class goes next, and its moment is before a time
  abbrev pub BeginsBefore : PortState X → ℕ → Priority → Type 0
  BeginsBefore p time priority =
      (moment : ℕ) × (choice_of p ≡ Some (priority, moment)) × (moment < time)

  -- `put` takes a frame, or loses it and hands it back
  pub record Puts {E : Type 0} (facts : X → Facts) (old new : PortState X) (time : ℕ)
      (priority : Priority) (item : X) (result : Result E X) : Type 0 where
    pub ok : (h : PortHistory X) →
        StandsFor facts old h →
        OnOk result (StandsFor facts new (with_put h (entry_of facts time priority item)))
    pub err : (h : PortHistory X) →
        StandsFor facts old h →
        OnErr result (StandsFor facts new (at h time))
    pub back : IfErr result (λ back. back ≡ item)
    -- it is lost exactly if the schedule, as computed and as any that is one, says so
    pub lost : (h : PortHistory X) →
        StandsFor facts old h →
        let turns = schedule_of h.byte_ns h.entries in
        (IsErr result ↔ IsLost h.buffer h.entries turns time (facts item).bytes)
    pub lost_by_any : (h : PortHistory X) (turns : List (Turn X)) →
        StandsFor facts old h →
        IsSchedule h.byte_ns h.entries turns →
        (IsErr result ↔ IsLost h.buffer h.entries turns time (facts item).bytes)
    pub quiet : IsQuiet facts new time
    pub held : MatchResult result (λ _. frames_held new ≡ frames_held old + 1)
        (λ _. frames_held new ≡ frames_held old)
    pub clock : last_time new ≡ time

  -- `take` gives the next turn, if it is over by a time
  pub record Takes (facts : X → Facts) (old new : PortState X) (until : ℕ)
      (result : Option (Left X)) : Type 0 where
    pub given : (h : PortHistory X) →
        StandsFor facts old h →
        IfSome result (λ left. Gives facts h until left new)
    -- else no turn is over by then, and late enough none is left
    pub none : (h : PortHistory X) →
        StandsFor facts old h →
        IfNone result (StandsFor facts new (at h until))
    pub no_more : (h : PortHistory X) (s : Turn X) →
        StandsFor facts old h →
        IsNext h.byte_ns h.entries h.taken s →
        IfNone result (IsAfter until (due_at s))
    pub all_done : (h : PortHistory X) →
        StandsFor facts old h →
        drain_end ≤ until →
        IfNone result (IsSchedule h.byte_ns h.entries h.taken)
    pub quiet : IfNone result (IsQuiet facts new until)
    pub due : IfNone result (due_of facts new ≡ due_of facts old)
    -- a turn that is given is held no more
    pub held : MatchOption result (frames_held new ≡ frames_held old)
        (λ _. frames_held new + 1 ≡ frames_held old)
    pub clock : last_time new ≡ until
