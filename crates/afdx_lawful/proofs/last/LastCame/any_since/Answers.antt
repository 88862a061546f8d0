use Rattle.afdx_lawful.proofs.LastLemmas.{any_said}
use Rattle.afdx_lawful.proofs.last.LastCame.any_since.Goals as goal

pub returns : goal.returns
returns c xs end are up =
    any_said c.args.moment c.args.is_later c.args.number c.args.self.now.behind xs end _ are up
    c.any_stands.ensures.some c.any_stands.ensures.none
