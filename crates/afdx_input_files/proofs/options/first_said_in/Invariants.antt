use Rattle.std.proofs.Common.{◌≡◌, ◌≤◌, ◌-◌, length, drop, is_some, true}
use Rattle.afdx_input_files.specs.Options.{options_in, said}
use Rattle.afdx_input_files.proofs.options.first_said_in.Given as goal

abbrev pub invariant-options : goal.invariant-options
invariant-options l = record {
  within : l.place ≤ length l.options;
  whole : is_some (options_in l.order (drop l.place l.options)) ≡ true;
  same : said l.order l.code l.size (drop l.place l.options) ≡ said l.order l.code l.size l.options;
}

abbrev pub decreases-options : goal.decreases-options
decreases-options l = length l.options - l.place
