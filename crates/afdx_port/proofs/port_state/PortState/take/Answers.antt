use Rattle.afdx_port.proofs.BeginLemmas.{later_advances}
use Rattle.afdx_port.proofs.TakeLemmas.{begun_takes}
use Rattle.afdx_port.proofs.NextClassLemmas.{begun-given}
use Rattle.afdx_port.proofs.port_state.PortState.take.Goals as goal

pub returns-then-is_some-clause-takes : goal.returns-then-is_some-clause-takes
returns-then-is_some-clause-takes g c =
    begun-given g.T.HasLength.facts c.args.self.now c.args.until c.args.due
    c.take.result c.take.new.self c.is_some.result c.in-Some.left g.met.T.HasLength.lawful
    c.requires.sound c.requires.clock c.is_some.ensures c.if-is_some.true
    c.requires.due c.requires.given c.take.ensures.value c.take.ensures.after c.in-Some.is

pub returns-clause-takes : goal.returns-clause-takes
returns-clause-takes g c =
    begun_takes g.T.HasLength.facts c.args.self.now c.begin.new.self c.args.until c.args.due
    c.begin.result g.met.T.HasLength.lawful
    (later_advances g.T.HasLength.facts c.args.self.now _ c.args.until c.requires.clock
    c.begin.ensures.begun) c.begin.ensures.idle c.requires.due c.requires.given
