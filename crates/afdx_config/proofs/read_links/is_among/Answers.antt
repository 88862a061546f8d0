use Rattle.std.proofs.Common.{sym, ◌∙◌}
use Rattle.afdx_config.proofs.GatheredLemmas.{any_places}
use Rattle.afdx_config.proofs.read_links.is_among.Goals as goal

pub returns : goal.returns
returns c = c.contains.ensures.value ∙ sym (any_places c.args.ids.now c.args.id.0)
