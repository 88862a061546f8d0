use Rattle.std.proofs.Common.{ap, ◌∙◌}
use Rattle.afdx_lawful.specs.Alone.{other_number}
use Rattle.afdx_lawful.proofs.TrackLemmas.{told_found}
use Rattle.afdx_lawful.proofs.track.Track.come.Goals as goal

pub returns-clause-found : goal.returns-clause-found
returns-clause-found c s past x are time-is number-is flaw-is is =
    told_found s past x c.args.flaw _ _ flaw-is
    (c.other_than-other.ensures s x number-is ∙ ap (other_number s x) is.next)
    (c.come-soon.ensures.found s past x are time-is is.pace)
