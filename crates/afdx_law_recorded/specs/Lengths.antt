-- An example: two messages of different lengths were sent on one network, and the recordings end
-- before their copies have to be sent. Each may still come by itself; both can't.
use Rattle.std.specs.Prelude.{ℕ, true, None, List, [], ◌∷◌, replicate}
use Rattle.afdx_frame.specs.Grammar.{built_frame}
use Rattle.afdx_frame.specs.declared.builder.Address.{Address}
use Rattle.afdx_frame.specs.declared.link.Policing.TheVariants.{Frame}
use Rattle.afdx_frame.specs.declared.link.Side.TheVariants.{A}
use Rattle.afdx_config.specs.Rows.{LinkRow, example_link}
use Rattle.afdx_police.specs.Rule.{rule_with}
use Rattle.afdx_lawful.specs.Recorded.{IsSourceOf}
use Rattle.afdx_lawful.specs.RecordedExample.{sender}
use Rattle.afdx_lawful.specs.RightTwice.{IsInRange, NothingIsFound}
use Rattle.afdx_lawful.specs.Sources.{Came, Source}
use Rattle.afdx_lawful.specs.Worked.{a1, exact, on_a}
use Rattle.afdx_law_recorded.specs.Exactly.{IsOfLawful, IsSeenExactly}

-- frames of 64 to 117 bytes, one a millisecond without jitter
abbrev pub wide_link : LinkRow
wide_link = record example_link { lmax = 117; jitter_us = 0; policing = Frame }

-- Over lines on which a byte lasts 19,200 ns in all, the copy of a frame of 117 bytes may be sent
-- 2,400,000 ns later, that of one of 64 bytes 1,382,400 ns.
abbrev pub wide_source : Source
wide_source = record {
  rule = rule_with 1 1 1 64 117 0 Frame;
  system = 1;
  ways = record { skew = 2400000; latency = 2400000; byte_ns = 19200 } ∷ [];
  given = None;
  is_paired = true;
  by = exact;
  until = 2382399;
}

-- the first one has 117 bytes
abbrev pub wide_address : Address
wide_address = record {
  vl = record { 0 = 1 };
  system_id = 1;
  partition = 1;
  from_udp = 1000;
  to_udp = 1000;
  least = 64;
}

abbrev pub wide_frame : List ℕ
wide_frame = built_frame wide_address 0 A (replicate 70 7)

abbrev pub both_ahead : List Came
both_ahead = on_a 2 1000000 a1 ∷ on_a 1 0 wide_frame ∷ []

-- So nothing is found, and no stream on two networks shows this.
pub record LengthsMatter : Type 0 where
  pub range : IsInRange wide_source
  pub of : IsSourceOf sender wide_link wide_source
  pub seen : IsSeenExactly wide_source both_ahead
  pub found : NothingIsFound wide_source both_ahead
  pub none : IsOfLawful wide_source sender wide_link both_ahead → ⊥
