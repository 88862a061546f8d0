-- What the options say of each of two recordings.
use Rattle.std.specs.Prelude.{Some, true, false}
use Rattle.afdx_frame.specs.declared.link.Side.TheVariants.{A, B}
use Rattle.afdx_input_sources.specs.declared.pair_options.PairOptions.{PairOptions}
use Rattle.afdx_input_sources.specs.Becoming.{Options}
use Rattle.afdx_input_sources.specs.Places.{place_of}

-- of that of network A
abbrev pub options_of_a : PairOptions → Options
options_of_a options = record {
  place = place_of options.interfaces.a;
  leaves_unsaid = false;
  fcs = options.fcs;
  origin = options.origin;
  network = Some A;
  is_second = false;
  reorder = options.reorder;
  from_start = options.from_start;
  left_from_start = false;
}

-- of that of network B
abbrev pub options_of_b : PairOptions → Options
options_of_b options = record {
  place = place_of options.interfaces.b;
  leaves_unsaid = false;
  fcs = options.fcs;
  origin = options.origin;
  network = Some B;
  is_second = true;
  reorder = options.reorder;
  from_start = options.from_start;
  left_from_start = false;
}
