-- Worked rows: all lines of short recordings at a switch with two systems and one link, whose
-- frames are those of the rows of `afdx_lawful`.
use Rattle.std.specs.Prelude.{◌≡◌, ℕ, true, false, None, Some, List, [], ◌∷◌, codes}
use Rattle.afdx_config.specs.Rows.{LinkRow, Rows, SystemRow, example_link}
use Rattle.afdx_config.specs.Switches.{named_rows}
use Rattle.afdx_frame.specs.declared.fault.MacFault.TheVariants.{TooShort}
use Rattle.afdx_frame.specs.declared.link.Policing.TheVariants.{Frame}
use Rattle.afdx_frame.specs.declared.link.Side.{Side}
use Rattle.afdx_frame.specs.declared.link.Side.TheVariants.{A, B}
use Rattle.afdx_lawful.specs.Worked.{a0, a2, b0, exact}
use Rattle.afdx_lawful.specs.declared.finding.SenderFinding.TheVariants.{Number, Single, Soon}
use Rattle.afdx_police.specs.Arrival.{Arrival, arrival_with}
use Rattle.afdx_senders.specs.AllLines.{all_lines}
use Rattle.afdx_senders.specs.Lines.{FoundBy, Line, OfNone, OfSource}
use Rattle.afdx_senders.specs.SenderCounts.{alone_in, cut_in, sent_in}
use Rattle.afdx_senders.specs.Setups.{Setup}
use Rattle.afdx_senders.specs.Sites.{Among, Recorded}
use Rattle.afdx_senders.specs.declared.stray.Stray.TheVariants.{Damaged, NotItsLink, UnknownLink}

abbrev pub sender : SystemRow
sender = record { name = codes "s1"; port = 1; id = 1; partition = 1; rate = 100 }

abbrev pub receiver : SystemRow
receiver = record { name = codes "s3"; port = 3; id = 3; partition = 1; rate = 100 }

-- frames of 64 bytes, one a millisecond, each within 17 us
abbrev pub link : LinkRow
link = record example_link { policing = Frame; latency_us = 17 }

abbrev pub tables : Rows
tables = record {
  profile = 2;
  buffer = 126;
  own = 2;
  systems = sender ∷ receiver ∷ [];
  links = link ∷ [];
  ports = [];
}

-- all ports of both sides, or of A alone
abbrev pub both_sides : Recorded
both_sides side port = true

abbrev pub a_alone : Recorded
a_alone A port = true
a_alone B port = false

-- where the link's sender is judged, and the recordings end at this moment
abbrev pub setup : Recorded → ℕ → Setup
setup recorded until = record {
  tables = tables;
  among = None;
  recorded = recorded;
  asked = record {
    ways = λ place. record { skew = 1000000; latency = 17000; byte_ns = 80 } ∷ [];
    given = None;
    by = exact;
    until = until;
  };
  is_judged = λ place. true;
}

abbrev pub both_until : ℕ → Setup
both_until until = setup both_sides until

-- where the switch has no link, and is among such as have this one, or others
abbrev pub without_links : Among → Setup
without_links among =
    record (both_until 0) { tables = record tables { links = [] }; among = among }

-- what came, by its line, time, side, port and bytes
abbrev pub came : ℕ → ℕ → Side → ℕ → List ℕ → Arrival
came line time side port bytes = arrival_with line time side port bytes

abbrev pub line_with : ℕ → Side → ℕ → ℕ → FoundBy → Line
line_with moment side port line found =
    record { moment = moment; side = side; port = port; line = line; found = found }

-- six bytes that name link 1
abbrev pub short_one : List ℕ
short_one = 3 ∷ 0 ∷ 0 ∷ 0 ∷ 0 ∷ 1 ∷ []

pub record WorkedSenderRows : Type 0 where
  -- both copies came
  pub copied : all_lines (both_until 0) (came 2 0 B 1 b0 ∷ came 1 0 A 1 a0 ∷ []) ≡ []
  pub sent : sent_in (both_until 0) (came 2 0 B 1 b0 ∷ came 1 0 A 1 a0 ∷ []) ≡ 2
  -- one alone, whose copy may be behind the end, or not
  pub cut : all_lines (both_until 988759) (came 1 0 A 1 a0 ∷ []) ≡ []
  pub cut_off : cut_in (both_until 988759) (came 1 0 A 1 a0 ∷ []) ≡ 1
  pub single : all_lines (both_until 988760) (came 1 0 A 1 a0 ∷ [])
      ≡ line_with 100000000 A 1 1 (OfSource (Single 1 ∷ [])) ∷ []
  -- a number is left out
  pub left_out : all_lines (both_until 0) (came 2 0 A 1 a2 ∷ came 1 0 A 1 a0 ∷ [])
      ≡ line_with 0 A 1 2 (OfSource (Number 2 1 ∷ Soon 2 500000 ∷ [])) ∷ []
  -- where another system stands; damaged there
  pub not_its : all_lines (both_until 0) (came 1 0 A 3 a0 ∷ [])
      ≡ line_with 0 A 3 1 (OfNone NotItsLink) ∷ []
  pub short : all_lines (both_until 0) (came 1 0 A 3 short_one ∷ [])
      ≡ line_with 0 A 3 1 (OfNone (Damaged TooShort)) ∷ []
  -- of a link that the switch doesn't have, but another one of the configuration, or none
  pub elsewhere : all_lines (without_links (Some (named_rows (codes "aft") tables ∷ [])))
      (came 1 0 A 1 a0 ∷ []) ≡ line_with 0 A 1 1 (OfNone NotItsLink) ∷ []
  pub nowhere : all_lines (without_links (Some [])) (came 1 0 A 1 a0 ∷ [])
      ≡ line_with 0 A 1 1 (OfNone UnknownLink) ∷ []
  pub unknown : all_lines (without_links None) (came 1 0 A 1 a0 ∷ [])
      ≡ line_with 0 A 1 1 (OfNone UnknownLink) ∷ []
  -- where no system stands
  pub nobody : all_lines (both_until 0) (came 1 0 A 5 a0 ∷ []) ≡ []
  -- one side alone was recorded: nothing waits there, and nothing is known of the other
  pub one_side : all_lines (setup a_alone 988760) (came 2 0 B 1 b0 ∷ came 1 0 A 1 a0 ∷ []) ≡ []
  pub sent_there : sent_in (setup a_alone 988760) (came 2 0 B 1 b0 ∷ came 1 0 A 1 a0 ∷ []) ≡ 1
  pub alone : alone_in (setup a_alone 988760) ≡ 1
  pub paired : alone_in (both_until 988760) ≡ 0
