-- What is counted of a source, and what of it is told.
use Rattle.std.specs.Prelude.{◌≡◌, ℕ, ◌+◌, min, not, List, length, map, filter, reverse}
use Rattle.afdx_frame.specs.declared.link.Side.TheVariants.{A, B}
use Rattle.afdx_lawful.specs.Courses.{Course, Unpaired, over, waited_of}
use Rattle.afdx_lawful.specs.Judged.{Found, judged_source, quiet, single_at}
use Rattle.afdx_lawful.specs.Partners.{Waiting}
use Rattle.afdx_lawful.specs.Sources.{Source}
use Rattle.afdx_lawful.specs.declared.tally.SourceCounts.{SourceCounts}
use Rattle.afdx_lawful.specs.declared.tally.SourceTally.{SourceTally}

-- those of them whose partners aren't cut off
abbrev pub alone_of : List Unpaired → List Waiting
alone_of us = waited_of (filter (λ u. not u.is_cut) us)

-- how many of them had nothing found of them when they came
unfoldable pub lost_in : List Unpaired → ℕ
lost_in us = length (filter (λ y. y.is_quiet) (alone_of us))

unfoldable pub cut_in : List Unpaired → ℕ
cut_in us = length (filter (λ u. u.is_cut) us)

-- a number that goes no further than its type does
abbrev pub most_counted : ℕ
most_counted = 18446744073709551615

abbrev pub counted : ℕ → ℕ
counted n = min n most_counted

module _ (s : Source) where
  -- this is what is counted of it
  pub record IsTally (c : Course) (tally : SourceTally) : Type 0 where
    pub quiet_ones : tally.quiet ≡ counted (length (quiet s c.came))
    pub lost_ones : tally.lost ≡ counted (lost_in (over c A) + lost_in (over c B))
    pub cut_ones : tally.cut ≡ counted (cut_in (over c A) + cut_in (over c B))

  -- the lines of those that were told, the newest first
  abbrev pub found_alone_in : List Unpaired → List Found
  found_alone_in us = map (single_at s) (reverse (alone_of us))

  -- what was told and counted is what is judged of all frames that came
  pub record TellsAll (c : Course) (counts : SourceCounts) : Type 0 where
    pub on_a : (judged_source s c.came).on_a ≡ found_alone_in (over c A)
    pub on_b : (judged_source s c.came).on_b ≡ found_alone_in (over c B)
    pub sent : counts.sent ≡ (judged_source s c.came).sent
    pub cut : counts.cut ≡ (judged_source s c.came).cut
