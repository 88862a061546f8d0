use Rattle.std.proofs.Common.{◌≡◌, ◌≤◌, ◌-◌, length, drop, is_some}
use Rattle.afdx_input_files.specs.Options.{options_in}
use Rattle.afdx_input_files.proofs.options.are_whole.Given as goal

abbrev pub invariant-options : goal.invariant-options
invariant-options l = record {
  within : l.place ≤ length l.options;
  same : is_some (options_in l.order (drop l.place l.options)) ≡ is_some (options_in l.order l.options);
}

abbrev pub decreases-options : goal.decreases-options
decreases-options l = length l.options - l.place
