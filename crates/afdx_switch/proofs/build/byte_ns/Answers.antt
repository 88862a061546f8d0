use Rattle.afdx_law_bounds.proofs.TableLemmas.{line-at}
use Rattle.afdx_switch.proofs.build.byte_ns.Goals as goal

pub returns-in-Some-clause-byte_time : goal.returns-in-Some-clause-byte_time
returns-in-Some-clause-byte_time c =
    line-at c.args.tables.now c.in-Some.system.0 c.byte_ns.result c.in-Some.ensures.lawful
    c.in-Some.ensures.known c.byte_ns.ensures.time
