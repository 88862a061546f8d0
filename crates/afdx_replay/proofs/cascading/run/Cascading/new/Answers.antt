use Rattle.afdx_replay.proofs.CascadeStepLemmas.{told-start}
use Rattle.afdx_replay.proofs.cascading.run.Cascading.new.Goals as goal

pub returns-clause-told : goal.returns-clause-told
returns-clause-told g c output =
    told-start g.D.Write.contents c.args.switches.now c.in_ok-cascade.cascade c.in_ok-teller.teller output
    c.in_ok-teller.ensures.fits c.in_ok-cascade.ensures.stands c.in_ok-teller.ensures.stands
    c.in_ok-teller.ensures.counts c.in_ok-teller.ensures.early
