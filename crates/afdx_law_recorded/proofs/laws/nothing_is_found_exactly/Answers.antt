use Rattle.afdx_law_recorded.proofs.ExactlyExampleLemmas.{cut_exactly_met, exactly_met}
use Rattle.afdx_law_recorded.proofs.ExactlyLemmas.{cut_found_exactly, found_exactly, lawful_shows_nothing}
use Rattle.afdx_law_recorded.proofs.LengthLemmas.{lengths_matter}
use Rattle.afdx_law_recorded.proofs.laws.nothing_is_found_exactly.Goals as goal

pub returns : goal.returns
returns c = record {
  exactly = found_exactly;
  cut = cut_found_exactly;
  lawful = lawful_shows_nothing;
  met = exactly_met;
  cut_met = cut_exactly_met;
  needed = lengths_matter;
}
