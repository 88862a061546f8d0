-- An example of all that was recorded of a switch: two systems, one link, two messages on both
-- networks. Lists have the newest first.
use Rattle.std.specs.Prelude.{◌≡◌, List, [], ◌∷◌, reverse}
use Rattle.afdx_frame.specs.declared.link.Side.TheVariants.{A, B}
use Rattle.afdx_config.specs.Reading.{has_port}
use Rattle.afdx_config.specs.Rows.{Rows}
use Rattle.afdx_config.specs.declared.rows.Kind.TheVariants.{Sampling}
use Rattle.afdx_police.specs.Arrival.{Arrival, arrival_with}
use Rattle.afdx_receive.specs.Delivery.{delivered}
use Rattle.afdx_lawful.specs.Nearness.{hello}
use Rattle.afdx_lawful.specs.Worked.{a0, a1, b0, b1}
use Rattle.afdx_senders.specs.SenderRows.{both_until, tables}
use Rattle.afdx_senders.specs.Setups.{Setup, own_frames}
use Rattle.afdx_law_recorded.specs.Examples.{both_heard}
use Rattle.afdx_law_recorded.specs.Receivers.{AreHeard, messages_sent}
use Rattle.afdx_law_recorded.specs.Switches.{AllAreJudged, NothingIsTold, left_of}

-- the receiver listens to the messages' UDP port
abbrev pub heard_tables : Rows
heard_tables = record tables {
  ports = record { system = 1; link = 1; udp = 1000; kind = Sampling; depth = 1 } ∷ [];
}

abbrev pub heard_setup : Setup
heard_setup = record (both_until 2005760) { tables = heard_tables }

-- what came: the copies on B later by what the tables leave; and one at a port where no system
-- stands
abbrev pub all_came : List Arrival
all_came =
    arrival_with 5 1988760 B 1 b1 ∷
    arrival_with 4 1000000 A 1 a1 ∷
    arrival_with 3 988760 B 1 b0 ∷
    arrival_with 2 7 A 2 a0 ∷
    arrival_with 1 0 A 1 a0 ∷ []

-- what left: on A as soon as it can, on B as late as it may
abbrev pub all_left : List Arrival
all_left =
    arrival_with 4 2005760 B 3 b1 ∷
    arrival_with 2 1005760 B 3 b0 ∷
    arrival_with 3 1005760 A 3 a1 ∷
    arrival_with 1 5760 A 3 a0 ∷ []

-- All is met that is asked of a switch, and each message is read once.
pub record WholeIsMet : Type 0 where
  pub judged : AllAreJudged heard_setup
  pub told : NothingIsTold heard_setup 2005760 all_came all_left
  pub heard : AreHeard 1 (λ side. left_of 1 side 3 all_left) (both_heard 988760)
  pub sent : messages_sent (own_frames heard_setup 0 all_came) ≡ hello ∷ hello ∷ []
  pub read :
      reverse (delivered 1000000 (has_port heard_tables.ports 1 1) (both_heard 988760))
      ≡ hello ∷ hello ∷ []
