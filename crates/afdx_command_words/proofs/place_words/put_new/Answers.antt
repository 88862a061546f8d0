use Rattle.std.proofs.Common.{sym, ◌∙◌}
use Rattle.afdx_command_words.proofs.PuttingLemmas.{is-new}
use Rattle.afdx_command_words.proofs.place_words.put_new.Goals as goal

pub returns : goal.returns
returns c =
    is-new c.args.interfaces.now c.put.new.self c.args.interface c.args.place c.place.result c.place.ensures
    (sym c.is_some.ensures ∙ c.if-is_some.false) c.put.ensures.place c.put.ensures.names
