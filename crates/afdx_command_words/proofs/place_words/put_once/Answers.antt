use Rattle.afdx_command_words.specs.PlaceSaid.{spot_of}
use Rattle.afdx_command_words.specs.Placed.{IsNew, IsNewBy}
use Rattle.afdx_command_words.proofs.PlacedLemmas.{ok-map}
use Rattle.afdx_command_words.proofs.PuttingLemmas.{is-new-by}
use Rattle.afdx_command_words.proofs.place_words.put_once.Goals as goal

pub returns : goal.returns
returns c =
    ok-map c.put_new.result
    (IsNew c.place_meant.new.interfaces c.put_new.new.interfaces c.args.interface c.in_ok-place.place)
    (IsNewBy c.args.interfaces.now c.put_new.new.interfaces c.args.interface (spot_of c.args.said))
    (λ new. is-new-by c.args.interfaces.now c.place_meant.new.interfaces c.put_new.new.interfaces
    c.args.interface (spot_of c.args.said) c.in_ok-place.place c.in_ok-place.ensures new) c.put_new.ensures
