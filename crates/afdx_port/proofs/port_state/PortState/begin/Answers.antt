use Rattle.afdx_port.proofs.BeginLemmas.{begun_advances}
use Rattle.afdx_port.proofs.port_state.PortState.begin.Goals as goal

pub returns-clause-begun : goal.returns-clause-begun
returns-clause-begun g c =
    begun_advances g.T.HasLength.facts c.args.self.now c.pop.new.self c.args.priority
    c.in-Some.waiting c.length-length.result c.args.due g.met.T.HasLength.lawful
    c.requires.sound c.requires.idle c.requires.begins c.requires.due
    c.in-Some.ensures.first c.in-Some.ensures.others c.length-length.ensures
