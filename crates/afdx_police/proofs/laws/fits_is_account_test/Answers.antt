use Rattle.afdx_police.proofs.AccountLemmas.{fits-level}
use Rattle.afdx_police.proofs.laws.fits_is_account_test.Goals as goal

pub returns : goal.returns
returns c link accepted last is-bag = fits-level link is-bag accepted last
