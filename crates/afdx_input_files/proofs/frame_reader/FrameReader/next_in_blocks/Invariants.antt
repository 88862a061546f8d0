use Rattle.std.proofs.Common.{◌≡◌, ◌-◌, false, Some}
use Rattle.afdx_input_files.specs.declared.form.Form.TheVariants as form
use Rattle.afdx_input_files.specs.Holding.{standing, IsTrueToEnd}
use Rattle.afdx_input_files.specs.Reading.{state_of, SaysSame}
use Rattle.afdx_input_files.specs.Limits.{most_numbers}
use Rattle.afdx_input_files.proofs.frame_reader.FrameReader.next_in_blocks.Given as goal

abbrev pub invariant-reads : goal.invariant-reads
invariant-reads g l = record {
  sound : l.input.failed ≡ false;
  honest : IsTrueToEnd (standing g.R.Read.remaining l.self.held l.input);
  form : l.self.known.form ≡ Some form.Pcapng;
  numbers : l.self.known.numbers ≡ l.fn.self.known.numbers;
  same : SaysSame (standing g.R.Read.remaining l.fn.self.held l.fn.input)
      (standing g.R.Read.remaining l.self.held l.input) (state_of l.fn.self) (state_of l.self);
}

abbrev pub decreases-reads : goal.decreases-reads
decreases-reads g l = most_numbers - l.self.known.blocks
