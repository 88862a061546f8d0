-- Examples of links that are admitted, with no byte and no whole microsecond to spare.
use Rattle.std.specs.Prelude.{ℕ, ◌==◌, List, [], ◌∷◌, Some}
use Rattle.afdx_frame.specs.declared.link.Policing.TheVariants.{Byte}
use Rattle.afdx_frame.specs.declared.link.Priority.{Priority}
use Rattle.afdx_frame.specs.declared.link.Priority.TheVariants.{High, Low}
use Rattle.afdx_frame.specs.declared.link.Side.{Side}
use Rattle.afdx_frame.specs.Flows.{Flow, IsPortAdmitted}
use Rattle.afdx_law_bounds.specs.Outputs.{Row}
use Rattle.afdx_law_bounds.specs.OutputLaws.{IsServed}
use Rattle.afdx_law_bounds.specs.Policed.{AreFlows}
use Rattle.afdx_law_bounds.specs.Sender.{IsSender}

-- a high and a low link of 64-byte frames, with their latencies in ns
abbrev pub first : ℕ → Flow
first latency = record {
  vl = 1;
  link = record { bag_ms = 1; jitter_us = 500; smax = 84 };
  priority = High;
  latency = latency;
}

abbrev pub second : ℕ → Flow
second latency = record {
  vl = 2;
  link = record { bag_ms = 1; jitter_us = 500; smax = 84 };
  priority = Low;
  latency = latency;
}

abbrev pub pair : ℕ → ℕ → List Flow
pair high_ns low_ns = first high_ns ∷ second low_ns ∷ []

-- at 100 Mbit/s the pair is admitted with 252 bytes, 17 us and 21 us, and with no byte and no whole
-- microsecond less
pub record PairIsAdmitted : Type 0 where
  pub flows_are : AreFlows (pair 17000 21000)
  pub admitted : IsPortAdmitted 80 252 (pair 17000 21000)
  pub one_byte_short : IsPortAdmitted 80 251 (pair 17000 21000) → ⊥
  pub high_too_late : IsPortAdmitted 80 252 (pair 16000 21000) → ⊥
  pub low_too_late : IsPortAdmitted 80 252 (pair 17000 20000) → ⊥

-- the same as rows of the tables: links of input ports 1 and 2 that go to output port 3
abbrev pub row : ℕ → Priority → ℕ → Row
row vl class latency = record {
  rule =
      record {
        vl = vl;
        port = vl;
        bag_ms = 1;
        lmin = 64;
        lmax = 64;
        jitter_us = 500;
        policing = Byte;
      };
  priority = class;
  latency = latency;
  longest_wait = Some latency;
  goes_to = λ port. port == 3;
}

abbrev pub rows : List Row
rows = row 1 High 17000 ∷ row 2 Low 21000 ∷ []

-- output port 3 on a side, of 252 bytes at 100 Mbit/s, is admitted with these rows
abbrev pub PairIsServed : Type 0
PairIsServed =
    (side : Side) → IsServed rows (record { side = side; number = 3; byte_ns = 80; buffer = 252 })

-- a link of the longest frames at the longest gap, as its sender's own port sees it
abbrev pub long : ℕ → ℕ → Flow
long vl latency = record {
  vl = vl;
  link = record { bag_ms = 128; jitter_us = 0; smax = 1538 };
  priority = High;
  latency = latency;
}

-- at 100 Mbit/s a sender may have three such links, and not four
pub record ThreeAreSent : Type 0 where
  pub three : IsSender 80 High (long 1 369120 ∷ long 2 369120 ∷ long 3 369120 ∷ [])
  pub four : IsSender 80 High (long 1 492160 ∷ long 2 492160 ∷ long 3 492160 ∷ long 4 492160 ∷ []) →
      ⊥
