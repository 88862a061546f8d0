-- Interfaces of a section: what describes one, and what statistics say that it lost.
use Rattle.std.specs.Prelude.{ℕ, List, drop, Option, Some, None, option_map, option_and_then, unwrap_or}
use Rattle.afdx_input_files.specs.declared.order.Order.{Order}
use Rattle.afdx_input_files.specs.declared.interface.Interface.{Interface}
use Rattle.afdx_input_files.specs.declared.interface.Losses.{Losses}
use Rattle.afdx_input_files.specs.declared.recorded.CheckSequence.{CheckSequence}
use Rattle.afdx_input_files.specs.declared.recorded.CheckSequence.TheVariants.{Unsaid}
use Rattle.afdx_input_files.specs.Orders.{half_at, word_at}
use Rattle.afdx_input_files.specs.Options.{said}
use Rattle.afdx_input_files.specs.Pcap.{check_sequence_of}

-- whether frames end with their check sequence, by the bytes of it that an option says
abbrev pub check_said : Option ℕ → CheckSequence
check_said None = Unsaid
check_said (Some bytes) = check_sequence_of bytes

-- an interface by its block's body and options; stamps are in us if no option says their unit
abbrev pub interface_with : Order → List ℕ → Option ℕ → Option ℕ → Option ℕ → Interface
interface_with order body resolution check offset = record {
  link_type = half_at order 0 body;
  snap = word_at order 4 body;
  resolution = unwrap_or resolution 6;
  offset = unwrap_or offset 0;
  check_sequence = check_said check;
  interface_lost = 0;
  system_lost = 0;
}

-- the options stand behind 8 bytes: 9 is the unit, 13 the bytes of check sequence, 14 the offset
unfoldable pub interface_by : Order → List ℕ → Option Interface
interface_by order body =
    option_and_then (λ (resolution : Option ℕ). option_and_then (λ (check : Option ℕ).
    option_map (interface_with order body resolution check) (said order 14 8 (drop 8 body)))
    (said order 13 1 (drop 8 body))) (said order 9 1 (drop 8 body))

-- what statistics say: options behind 12 bytes, 5 of the interface, 7 of the system
unfoldable pub losses_by : Order → List ℕ → Option Losses
losses_by order body =
    option_and_then (λ (interface : Option ℕ). option_map
    (λ (system : Option ℕ). record { interface = interface; system = system })
    (said order 7 8 (drop 12 body))) (said order 5 8 (drop 12 body))

-- of each the last word counts
unfoldable pub with_losses : Interface → Losses → Interface
with_losses interface losses = record interface {
  interface_lost = unwrap_or losses.interface interface.interface_lost;
  system_lost = unwrap_or losses.system interface.system_lost;
}
