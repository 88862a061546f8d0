-- What a run that sends has told at its start.
use Rattle.std.proofs.Common.{◌≡◌, ℕ, List, [], Option, refl, arith}
use Rattle.afdx_config.specs.Rows.{SystemRow, Rows}
use Rattle.afdx_send.specs.Sender.{StandsFor, no_calls, frames_held, last_time}
use Rattle.afdx_command_tables.specs.Counts.{no_counts}
use Rattle.afdx_command_tables.specs.sending.Told.{TellsItems}
use Rattle.afdx_command_tables.specs.sending.Sent.{source_of}
use Rattle.afdx_command_tables.specs.declared.sending.run.Sending.{Sending}
use Rattle.afdx_command_tables.proofs.SendLemmas.{are-told-start, stands-start, room-start}

-- a sender that was asked nothing yet has told of no items
pub items-start : (switch : List ℕ) (t : Rows) (system : ℕ) (row : SystemRow) (sending : Sending)
    (output : Option (List ℕ))
    → StandsFor sending.sender (no_calls t system row) → last_time sending.sender ≡ 0
    → frames_held sending.sender ≡ 0 → sending.port.number ≡ row.port → sending.port.switch.now ≡ switch
    → sending.counts ≡ no_counts → TellsItems (source_of switch t system row) sending output output []
items-start switch t system row sending output stands clock held port named counts = record {
  told = rw counts (are-told-start (source_of switch t system row) sending.sender sending.port output
      (stands-start t system row sending.sender stands) clock port named);
  early = omega arith;
  clock = omega (arith, clock);
  few = omega arith;
  room = rw counts (room-start _ _ held refl);
}
