-- How many numbers of a recording were skipped, and why.
use Rattle.std.specs.Prelude.{ℕ, ◌+◌, ◌≤◌, Bool, if◌then◌else◌}
use Rattle.std.specs.Option.{option_or}
use Rattle.afdx_input_files.specs.Limits.{most_interfaces}
use Rattle.afdx_input_files.specs.Recordings.{most_numbers, plus_lost}
use Rattle.afdx_input_sources.specs.declared.counts.SkipCounts.{SkipCounts}
use Rattle.afdx_input_sources.specs.declared.number.Number.{Number}
use Rattle.afdx_input_sources.specs.declared.number.Number.TheVariants as number
use Rattle.afdx_input_sources.specs.declared.counts.Tally.{Tally}
use Rattle.afdx_input_sources.specs.declared.skipped.Skipped.{Skipped}
use Rattle.afdx_input_sources.specs.declared.skipped.Skipped.TheVariants.{NoFrame, LeftOut, NotAfdx}
use Rattle.afdx_input_sources.specs.declared.skipped.Skipped.TheVariants.{UnknownSender, NoNetwork}
use Rattle.afdx_input_sources.specs.declared.skipped.Skipped.TheVariants.{BeforeOrigin}

abbrev pub no_counts : SkipCounts
no_counts = record {
  no_frame = 0;
  left_out = 0;
  not_afdx = 0;
  unknown_sender = 0;
  no_network = 0;
  before_origin = 0;
  claimed = 0;
  contradicted = 0;
}

-- one number more was skipped
unfoldable pub skip_one : Skipped → SkipCounts → SkipCounts
skip_one NoFrame counts = record counts { no_frame = counts.no_frame + 1 }
skip_one LeftOut counts = record counts { left_out = counts.left_out + 1 }
skip_one NotAfdx counts = record counts { not_afdx = counts.not_afdx + 1 }
skip_one UnknownSender counts = record counts { unknown_sender = counts.unknown_sender + 1 }
skip_one NoNetwork counts = record counts { no_network = counts.no_network + 1 }
skip_one BeforeOrigin counts = record counts { before_origin = counts.before_origin + 1 }

-- one more, where it counts
abbrev pub more_if : Bool → ℕ → ℕ
more_if counts n = if counts then n + 1 else n

-- one arrival more, which may be claimed, and contradicted
unfoldable pub take_one : (is_claimed is_contradicted : Bool) → SkipCounts → SkipCounts
take_one is_claimed is_contradicted counts = record counts {
  claimed = more_if is_claimed counts.claimed;
  contradicted = more_if is_contradicted counts.contradicted;
}

-- all that were skipped
unfoldable pub skipped_in : SkipCounts → ℕ
skipped_in counts =
    counts.no_frame + counts.left_out + counts.not_afdx + counts.unknown_sender
    + counts.no_network + counts.before_origin

-- one number more
abbrev pub count_one : Number → SkipCounts → SkipCounts
count_one (number.Arrival found) counts =
    take_one found.is_claimed found.is_contradicted counts
count_one (number.Skipped reason) counts = skip_one reason counts

-- so few are counted that two such sums can be added in 64 bits
pub record AreFew (counts : SkipCounts) : Type 0 where
  pub skipped : skipped_in counts ≤ most_numbers
  pub claimed : counts.claimed ≤ most_numbers
  pub contradicted : counts.contradicted ≤ most_numbers

pub record IsFew (tally : Tally) : Type 0 where
  pub numbers : tally.numbers ≤ most_numbers
  pub counts : AreFew tally.counts
  pub unused : tally.unused ≤ most_interfaces

-- the counts of two recordings
abbrev pub plus_counts : SkipCounts → SkipCounts → SkipCounts
plus_counts a b = record {
  no_frame = a.no_frame + b.no_frame;
  left_out = a.left_out + b.left_out;
  not_afdx = a.not_afdx + b.not_afdx;
  unknown_sender = a.unknown_sender + b.unknown_sender;
  no_network = a.no_network + b.no_network;
  before_origin = a.before_origin + b.before_origin;
  claimed = a.claimed + b.claimed;
  contradicted = a.contradicted + b.contradicted;
}

abbrev pub plus_tally : Tally → Tally → Tally
plus_tally a b = record {
  numbers = a.numbers + b.numbers;
  counts = plus_counts a.counts b.counts;
  lost = plus_lost a.lost b.lost;
  unused = a.unused + b.unused;
  absent = option_or a.absent b.absent;
}
