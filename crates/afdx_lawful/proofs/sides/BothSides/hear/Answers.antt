use Rattle.std.proofs.Common.{◌∷◌}
use Rattle.afdx_frame.specs.declared.link.Side.TheVariants.{A, B}
use Rattle.afdx_lawful.proofs.OneSideLemmas.{on_err_by, on_ok, turned, turned_back}
use Rattle.afdx_lawful.proofs.StandLemmas.{came_on, turned_next}
use Rattle.afdx_lawful.proofs.sides.BothSides.hear.Goals as goal

pub returns-in-A-clause-found : goal.returns-in-A-clause-found
returns-in-A-clause-found c s past gone x are is flaw next stand =
    c.hear.ensures.found s A past gone x are (came_on c.args.side A c.args.whole x c.in-A.is is) flaw next stand

pub returns-in-B-clause-found : goal.returns-in-B-clause-found
returns-in-B-clause-found c s past gone x are is flaw next stand =
    c.hear-in-B.ensures.found s B past gone x are (came_on c.args.side B c.args.whole x c.in-B.is is) flaw
    (turned_next s x gone c.args.self.now next) (turned s past gone _ _ stand)

pub returns-in-B-clause-stand : goal.returns-in-B-clause-stand
returns-in-B-clause-stand c s past gone x are is flaw next up stand =
    on_ok c.hear-in-B.result _ _ (λ h. turned_back s (x ∷ past) gone _ _ h)
    (c.hear-in-B.ensures.stand s B past gone x are (came_on c.args.side B c.args.whole x c.in-B.is is) flaw
    (turned_next s x gone c.args.self.now next) up (turned s past gone _ _ stand))

pub returns-in-B-clause-refused : goal.returns-in-B-clause-refused
returns-in-B-clause-refused c s past gone stand =
    on_err_by c.hear-in-B.result _ _ (λ h. turned_back s past gone _ _ h)
    (c.hear-in-B.ensures.refused s B past gone (turned s past gone _ _ stand))
