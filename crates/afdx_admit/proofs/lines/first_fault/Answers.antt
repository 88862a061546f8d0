use Rattle.std.proofs.Common.{sym}
use Rattle.afdx_admit.specs.Known.{IsKnown}
use Rattle.afdx_admit.specs.Lines.{lines}
use Rattle.afdx_admit.proofs.EachLineLemmas.{of_first}
use Rattle.afdx_admit.proofs.KnownLemmas.{lines-known}
use Rattle.afdx_admit.proofs.WalkLemmas.{first-none, first-stop}
use Rattle.afdx_admit.proofs.lines.first_fault.Goals as goal

pub returns-in-Ok-clause-fault : goal.returns-in-Ok-clause-fault
returns-in-Ok-clause-fault c = first-none (lines c.args.tables.now) c.in-Ok.ensures.walks

pub returns-in-Err-clause-fault : goal.returns-in-Err-clause-fault
returns-in-Err-clause-fault c =
    sym (first-stop (lines c.args.tables.now) c.in-Err.fault c.in-Err.ensures.walks)

pub returns-in-Err-clause-known : goal.returns-in-Err-clause-known
returns-in-Err-clause-known c =
    let t = c.args.tables.now in
    of_first (IsKnown t) (lines t) (lines-known t c.add_lines.ensures.lawful.own) c.in-Err.fault
    (first-stop (lines t) c.in-Err.fault c.in-Err.ensures.walks)
