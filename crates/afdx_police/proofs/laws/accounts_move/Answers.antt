use Rattle.std.proofs.Common.{refl}
use Rattle.afdx_police.specs.Account.{overdrawn}
use Rattle.afdx_police.proofs.AccountLemmas.{fits-room, missing-accept, missing-later}
use Rattle.afdx_police.proofs.laws.accounts_move.Goals as goal

pub returns : goal.returns
unfolding overdrawn
returns c link is-bag = record {
  start = λ time. refl;
  gap = missing-later link;
  accept = missing-accept link;
  room = fits-room link is-bag;
}
