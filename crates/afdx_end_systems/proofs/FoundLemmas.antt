-- A message's port is found exactly where the tables have it.
use Rattle.std.proofs.Common.{◌≡◌, ℕ, Some, None, List, sym, ap, ◌∙◌, is_some, true, false}
use Rattle.std.specs.Prelude.{position}
use Rattle.afdx_config.specs.Rows.{Rows}
use Rattle.afdx_receive.specs.Arrivals.{Arrived}
use Rattle.afdx_receive.specs.Answers.{Message, Dropped, answer_to, at_ports}
use Rattle.afdx_receive.specs.declared.reception.DropReason.TheVariants.{NoPort}
use Rattle.afdx_receive.proofs.ReceiverLemmas.{port_is}
use Rattle.afdx_comport.specs.Ports.{is_for}
use Rattle.afdx_comport.specs.declared.com_ports.ComPort.{ComPort}
use Rattle.afdx_end_systems.specs.ReadPorts.{AreFound}

module _ (rows : Rows) (system : ℕ) (past : List Arrived) (x : Arrived) (vl udp : ℕ) where
  -- where it is found the message is delivered
  pub found : (place : ℕ) (payload : List ℕ) (ports : List ComPort) → AreFound rows system ports
      → Some place ≡ position (is_for vl udp) ports
      → at_ports rows system (Message vl udp payload) ≡ answer_to rows system past x
      → Message vl udp payload ≡ answer_to rows system past x
  found place payload ports are here computed =
      sym (port_is rows system vl udp payload true (sym (are vl udp) ∙ ap is_some (sym here))) ∙ computed

  -- and where it isn't, dropped
  pub unfound : (payload : List ℕ) (ports : List ComPort) → AreFound rows system ports
      → None ≡ position (is_for vl udp) ports
      → at_ports rows system (Message vl udp payload) ≡ answer_to rows system past x
      → Dropped NoPort ≡ answer_to rows system past x
  unfound payload ports are none computed =
      sym (port_is rows system vl udp payload false (sym (are vl udp) ∙ ap is_some (sym none))) ∙ computed
