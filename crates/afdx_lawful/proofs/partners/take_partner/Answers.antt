use Rattle.std.proofs.Common.{ap, ◌∙◌}
use Rattle.std.specs.Prelude.{option_map}
use Rattle.afdx_lawful.specs.Rings.{all_as, waiting_as}
use Rattle.afdx_lawful.proofs.RingLemmas.{partner_is, rest_is}
use Rattle.afdx_lawful.proofs.partners.take_partner.Goals as goal

pub returns-clause-partner : goal.returns-clause-partner
returns-clause-partner c s side x number are =
    ap (option_map (waiting_as side)) c.take_of.ensures.taken
    ∙ partner_is s side x c.args.number number c.args.waiting.now are

pub returns-clause-rest : goal.returns-clause-rest
returns-clause-rest c s side x number are =
    ap (all_as side) c.take_of.ensures.rest
    ∙ rest_is s side x c.args.number number c.args.waiting.now are
