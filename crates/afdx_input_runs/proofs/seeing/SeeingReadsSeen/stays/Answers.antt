use Rattle.afdx_input_runs.proofs.seeing.SeeingReadsSeen.stays.Goals as goal

pub returns : goal.returns
returns g c a b e = c.stays.ensures a.lines b.lines e
