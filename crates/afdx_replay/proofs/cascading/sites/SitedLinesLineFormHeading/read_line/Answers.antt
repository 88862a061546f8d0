use Rattle.afdx_replay.proofs.CascadeOverLemmas.{may-follow}
use Rattle.afdx_replay.proofs.cascading.sites.SitedLinesLineFormHeading.read_line.Goals as goal

pub returns-clause-follows : goal.returns-clause-follows
returns-clause-follows c =
    may-follow c.args.self.now.switches.now c.read_sited_line.result c.args.latest c.read_sited_line.new.frame.items
    c.read_sited_line.ensures.time c.read_sited_line.ensures.order c.read_sited_line.ensures.sealed
