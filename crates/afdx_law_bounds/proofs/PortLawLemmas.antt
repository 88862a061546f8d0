-- A port that stands for calls, where its entries regulate it.
use Rattle.std.proofs.Common.{ℕ, ◌↔◌}
use Rattle.afdx_port.specs.declared.port_state.PortState.{PortState}
use Rattle.afdx_port.specs.Due.{IsAfter}
use Rattle.afdx_port.specs.Facts.{Facts}
use Rattle.afdx_port.specs.Held.{IsQuiet}
use Rattle.afdx_port.specs.History.{PortHistory, due_at, StandsFor}
use Rattle.afdx_port.specs.Schedule.{Turn, IsNext, AreTurns}
use Rattle.afdx_port.proofs.ScheduleLemmas.{schedule_of_is}
use Rattle.afdx_police.specs.Laws.{EachAccountMoves}
use Rattle.afdx_law_bounds.specs.PortLaws.{PutIsKept, TakenAreInTime, TakenAreNotOld, AllWereTaken}
use Rattle.afdx_port.specs.ScheduleOf.{schedule_of}
use Rattle.afdx_law_bounds.proofs.AdmittedLemmas.{none-lost, in-time, none-too-old}
use Rattle.afdx_law_bounds.proofs.LeftLemmas.{each-left}

module _ {X : Type 0} where
  -- the turns that were taken are each next after those before it
  abbrev TakenAreTurns : (X → Facts) → Type 0
  TakenAreTurns facts = (p : PortState X) (h : PortHistory X) → StandsFor facts p h
      → AreTurns h.byte_ns h.entries h.taken

  -- a port is quiet where its next turn is given later
  abbrev QuietIsNext : (X → Facts) → Type 0
  QuietIsNext facts = (p : PortState X) (h : PortHistory X) (t : ℕ) → StandsFor facts p h →
      (IsQuiet facts p t ↔ ((s : Turn X) → IsNext h.byte_ns h.entries h.taken s → IsAfter t (due_at s)))

  pub put-kept : EachAccountMoves → (facts : X → Facts) → PutIsKept facts
  put-kept moves facts p h flows vl_of charge_of new port more =
      none-lost moves h.byte_ns h.buffer flows vl_of charge_of h.entries (schedule_of h.byte_ns h.entries) new more
      (schedule_of_is h.byte_ns h.entries port.regulated.in_order)

  pub taken-in-time : EachAccountMoves → (facts : X → Facts) → TakenAreTurns facts → TakenAreInTime facts
  taken-in-time moves facts are p h flows vl_of charge_of f port flow =
      in-time moves h.byte_ns h.buffer flows vl_of charge_of h.entries h.taken f port.regulated
      (are p h port.stands) flow

  pub taken-not-old : EachAccountMoves → (facts : X → Facts) → TakenAreTurns facts → TakenAreNotOld facts
  taken-not-old moves facts are p h flows vl_of charge_of f port flow =
      none-too-old moves h.byte_ns h.buffer flows vl_of charge_of h.entries h.taken f port.regulated
      (are p h port.stands) flow

  pub all-taken : EachAccountMoves → (facts : X → Facts) → TakenAreTurns facts → QuietIsNext facts →
      AllWereTaken facts
  all-taken moves facts are next p h flows vl_of charge_of f t place e port flow quiet =
      each-left moves h.byte_ns h.buffer flows vl_of charge_of h.entries h.taken f t place e
      port.regulated (are p h port.stands) flow
      ((next p h t port.stands).0 quiet)
