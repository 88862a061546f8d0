-- An example in which every premise is met: two systems, one virtual link, and its lawful stream of
-- two frames on both sides, of which one comes a second time at a wrong port.
use Rattle.std.specs.Prelude.{◌≡◌, ℕ, true, List, [], ◌∷◌, codes, reverse}
use Rattle.afdx_frame.specs.Grammar.{built_frame}
use Rattle.afdx_frame.specs.declared.link.Side.{Side}
use Rattle.afdx_frame.specs.declared.link.Side.TheVariants.{A, B}
use Rattle.afdx_config.specs.Lawful.{IsLawful}
use Rattle.afdx_config.specs.LawfulStream.{Sending}
use Rattle.afdx_config.specs.Rows.{SystemRow, LinkRow, Rows, example_link, is_to}
use Rattle.afdx_config.specs.SentList.{Message, address_of}
use Rattle.afdx_config.specs.declared.rows.Kind.TheVariants.{Sampling}
use Rattle.afdx_police.specs.Arrival.{Arrival, arrival_with}
use Rattle.afdx_receive.specs.Arrivals.{Arrived}
use Rattle.afdx_law_bounds.specs.Outputs.{AreTimed}
use Rattle.afdx_port.specs.Schedule.{Entry, Turn, IsSchedule}
use Rattle.afdx_switch.specs.HeldFrames.{HeldFrame}
use Rattle.afdx_switch.specs.Admitted.{IsAdmittedRun}
use Rattle.afdx_law_promises.specs.Lines.{messages_told}
use Rattle.afdx_law_promises.specs.Promises.{told}
use Rattle.afdx_switch.specs.Streams.{IsStreamOf}
use Rattle.afdx_law_promises.specs.NetworkPromises.{PortsKeepPromises}
use Rattle.afdx_law_promises.specs.Receptions.{AreReceptions, answers_on, messages_in}
use Rattle.afdx_switch.specs.Streams.{IsFed}

abbrev pub sender : SystemRow
sender = record { name = codes "s1"; port = 1; id = 1; partition = 1; rate = 100 }

abbrev pub receiver : SystemRow
receiver = record { name = codes "s2"; port = 2; id = 2; partition = 1; rate = 100 }

-- a high link of 64-byte frames, one a millisecond, of a latency in us
abbrev pub link_with : ℕ → LinkRow
link_with latency = record example_link { latency_us = latency }

-- the receiver listens to its UDP port 5
abbrev pub tables_with : ℕ → Rows
tables_with latency = record {
  profile = 2;
  buffer = 126;
  own = 2;
  systems = sender ∷ receiver ∷ [];
  links = link_with latency ∷ [];
  ports = record { system = 1; link = 1; udp = 5; kind = Sampling; depth = 1 } ∷ [];
}

-- 11 us are enough
abbrev pub link : LinkRow
link = link_with 11

abbrev pub tables : Rows
tables = tables_with 11

-- a message to that port, and one to another
abbrev pub heard : Message
heard = record { udp = 5; payload = 7 ∷ [] }

abbrev pub unheard : Message
unheard = record { udp = 6; payload = 8 ∷ [] }

-- their frames, under the numbers 0 and 1
unfoldable pub first_on : Side → List ℕ
first_on side = built_frame (address_of sender link heard) 0 side heard.payload

unfoldable pub second_on : Side → List ℕ
second_on side = built_frame (address_of sender link unheard) 1 side unheard.payload

abbrev pub stream : List Sending
stream = record { time = 0; a = first_on A; b = first_on B } ∷
    record { time = 1000000; a = second_on A; b = second_on B } ∷ []

-- what arrives, the newest first
abbrev pub arrivals : List Arrival
arrivals =
    arrival_with 5 1000000 B 1 (second_on B) ∷
    arrival_with 4 1000000 A 1 (second_on A) ∷
    arrival_with 3 5 A 2 (first_on A) ∷
    arrival_with 2 0 B 1 (first_on B) ∷
    arrival_with 1 0 A 1 (first_on A) ∷ []

pub record PremisesAreMet : Type 0 where
  pub run : IsAdmittedRun tables arrivals
  pub receives : is_to 1 link ≡ true
  pub sends : IsStreamOf tables link (heard ∷ unheard ∷ []) stream
  pub fed : (side : Side) → IsFed tables link stream side arrivals
  -- so the one message that the receiver listens to is delivered, once
  pub delivers : (came : List Arrived) →
      AreReceptions tables 2 arrivals came →
      reverse (messages_in (answers_on tables 1 1 came)) ≡ heard ∷ []
  -- and the M lines of the receiver are that one message
  pub told_once : reverse (messages_told 1 1 (told tables arrivals)) ≡ heard ∷ []

-- With a latency of 1 us, less than a frame takes on the line, the tables are lawful and not
-- admitted, and one frame breaks the promises.
abbrev pub one : List Arrival
one = arrival_with 1 0 A 1 (first_on A) ∷ []

pub record AdmissionIsNeeded : Type 0 where
  pub lawful : IsLawful (tables_with 1)
  pub timed : AreTimed one
  pub broken : PortsKeepPromises (tables_with 1) one → ⊥

-- Where times go back, a port may have no schedule: here a frame that came at 1 ms stands before
-- one that came at 0, of the same class. The first turn would come at 0, and be that of the frame
-- that hasn't come.
abbrev pub TimesAreNeeded : Type 0
TimesAreNeeded = (first second : Entry HeldFrame) (turns : List (Turn HeldFrame)) →
    first.time ≡ 1000000 → second.time ≡ 0 → first.priority ≡ second.priority →
    IsSchedule 80 (first ∷ second ∷ []) turns → ⊥
