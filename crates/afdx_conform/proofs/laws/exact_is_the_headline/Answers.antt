use Rattle.afdx_conform.proofs.HeadlineLemmas.{exact_is_the_headline, exact_shows_all}
use Rattle.afdx_conform.proofs.laws.exact_is_the_headline.Goals as goal

pub returns : goal.returns
returns c = record { headline = exact_is_the_headline; all = exact_shows_all }
